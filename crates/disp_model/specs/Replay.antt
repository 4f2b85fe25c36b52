-- The tree that a history grew, by the splits of its entries.
use Rattle.std.specs.Prelude.{ℕ, ◌+◌, ◌<◌, ◌==◌, List, [], ◌∷◌, ◌++◌, length, take, Option, Some, None, MatchOption, if◌then◌else◌}
use Rattle.disp_model.specs.declared.decision.Decision.{Decision}
use Rattle.disp_model.specs.declared.decision.Choice.{Choice}
use Rattle.disp_model.specs.declared.settings.Settings.{Settings}
use Rattle.disp_model.specs.declared.entry.Entry.{Entry}
use Rattle.disp_model.specs.declared.entry.Entry.TheVariants.{Asked, Unread, Shown, Grown, Published, Settled, Stopped}
use Rattle.disp_model.specs.declared.entry.Split.{Split}
use Rattle.disp_model.specs.declared.problem.Problem.{Problem}
use Rattle.disp_model.specs.Trees.{children_of}
use Rattle.disp_model.specs.Node.{node_at}
use Rattle.disp_model.specs.Nodes.{IsDead}
use Rattle.disp_model.specs.Shares.{IsBound}
use Rattle.disp_model.specs.Earliest.{IsPicked}
use Rattle.disp_model.specs.History.{fixings_after, IsBestCost}

-- a node of the grown tree: a branch, or a leaf with its number and the decisions above it
pub data Place : Type 0 where
  branch : Choice → Place
  leaf : ℕ → List Decision → Place

-- the grown tree in preorder, and the next unused number
pub record Growth : Type 0 where
  pub places : List Place
  pub unused : ℕ

-- the tree before any split: one leaf, of number 0
abbrev pub one_leaf : Growth
one_leaf = record { places = leaf 0 [] ∷ []; unused = 1 }

-- leaves for children, numbered from a number on
abbrev pub leaves_for : ℕ → List Decision → List Decision → List Place
leaves_for number above [] = []
leaves_for number above (child ∷ children) = leaf number (above ++ child ∷ [])
    ∷ leaves_for (number + 1) above children

-- the places after a split: its leaf is a branch, with leaves for its children
abbrev pub split_places : Problem → Split → ℕ → List Place → List Place
split_places problem split unused [] = []
split_places problem split unused (branch choice ∷ places) = branch choice
    ∷ split_places problem split unused places
split_places problem split unused (leaf number above ∷ places) =
    if number == split.node
    then branch split.choice ∷ leaves_for unused above (children_of problem split.choice) ++ places
    else leaf number above ∷ split_places problem split unused places

abbrev pub after_split : Problem → Growth → Split → Growth
after_split problem growth split = record {
  places = split_places problem split growth.unused growth.places;
  unused = growth.unused + length (children_of problem split.choice);
}

abbrev pub after_splits : Problem → Growth → List Split → Growth
after_splits problem growth [] = growth
after_splits problem growth (split ∷ splits) =
    after_splits problem (after_split problem growth split) splits

-- the tree after an entry: splits alone change it, so there is one tree over all editions
abbrev pub after_entry : Problem → Growth → Entry → Growth
after_entry problem growth (Asked feed line change reply) = growth
after_entry problem growth (Unread feed line why) = growth
after_entry problem growth (Shown feed line standing) = growth
after_entry problem growth (Grown searcher edition seen node splits) =
    after_splits problem growth splits
after_entry problem growth (Published edition plan cost) = growth
after_entry problem growth (Settled edition verdict tree) = growth
after_entry problem growth (Stopped edition spent bound) = growth

abbrev pub grown_from : Problem → Growth → List Entry → Growth
grown_from problem growth [] = growth
grown_from problem growth (entry ∷ history) =
    grown_from problem (after_entry problem growth entry) history

-- the tree that a history grew from the one leaf 0
abbrev pub grown_by : Problem → List Entry → Growth
grown_by problem history = grown_from problem one_leaf history

-- the decisions above a leaf
abbrev pub above_leaf : ℕ → List Place → Option (List Decision)
above_leaf node [] = None
above_leaf node (branch choice ∷ places) = above_leaf node places
above_leaf node (leaf number above ∷ places) = if number == node then Some above
    else above_leaf node places

-- how many splits an entry has for an edition
abbrev pub splits_of : ℕ → Entry → ℕ
splits_of number (Asked feed line change reply) = 0
splits_of number (Unread feed line why) = 0
splits_of number (Shown feed line standing) = 0
splits_of number (Grown searcher edition seen node splits) = if edition == number then length splits
    else 0
splits_of number (Published edition plan cost) = 0
splits_of number (Settled edition verdict tree) = 0
splits_of number (Stopped edition spent bound) = 0

-- how many splits the entries have for an edition
abbrev pub spent_on : ℕ → List Entry → ℕ
spent_on number [] = 0
spent_on number (entry ∷ history) = splits_of number entry + spent_on number history

-- the bound is below the best cost of a history, or there is no best
abbrev pub IsBelowBest : Problem → List Entry → ℕ → Type 0
IsBelowBest problem history bound = (best : Option ℕ) × IsBestCost problem history best
    × MatchOption best (Unit {0}) (λ cost. bound < cost)

-- a split helps: under the edition's fixings its node, with these decisions above it, is not dead,
-- its choice is one that is picked there, and its bound is below the best that was known when the
-- work was taken
pub record IsUseful (problem : Problem) (settings : Settings) (history : List Entry)
    (edition seen : ℕ) (above : List Decision) (split : Split) : Type 0 where
  pub alive : IsDead (node_at problem (fixings_after edition history) above) → ⊥
  pub picked : IsPicked (node_at problem (fixings_after edition history) above) settings.rule
      (Some split.choice)
  pub bound : ℕ
  pub bound_is : IsBound (node_at problem (fixings_after edition history) above) settings.rule bound
  pub below : IsBelowBest problem (take seen history) bound
