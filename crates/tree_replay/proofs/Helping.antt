-- The splits of a fragment that grows at a node help, one after the other.
use Rattle.std.proofs.Common.{◌≡◌, ◌∙◌, ℕ, ◌+◌, List, [], ◌∷◌, ◌++◌, length, map, take, sym, ap, subst, append_assoc}
use Rattle.std.specs.Prelude.{◌<◌, Option, Some, None, MatchOption, Contains, slice_get}
use Rattle.std.proofs.lemmas.List.Elements.{Contains-append_left, Contains-push}
use Rattle.disp_model.specs.declared.decision.Decision.{Decision}
use Rattle.disp_model.specs.declared.entry.Entry.{Entry}
use Rattle.disp_model.specs.declared.entry.Split.{Split}
use Rattle.disp_model.specs.declared.fixing.Fixing.{Fixing}
use Rattle.disp_model.specs.declared.problem.Problem.{Problem}
use Rattle.disp_model.specs.declared.settings.Settings.{Settings}
use Rattle.disp_model.specs.declared.tree.TreeNode.{TreeNode}
use Rattle.disp_model.specs.declared.tree.TreeNode.TheVariants.{Branch, Leaf}
use Rattle.disp_model.specs.History.{fixings_after, IsBestCost}
use Rattle.disp_model.specs.Legal.{AreUseful, numbers_from}
use Rattle.disp_model.specs.Node.{Node, node_at, with_decision}
use Rattle.disp_model.specs.Replay.{Place as Grown, branch, leaf, Growth, IsUseful}
use Rattle.disp_model.specs.Trees.{children_of}
use Rattle.open_nodes.specs.declared.place.Place.{Place}
use Rattle.open_nodes.specs.declared.place.Above.{Above}
use Rattle.open_nodes.specs.declared.work.Fragment.{Fragment}
use Rattle.open_nodes.specs.States.{State, IsBoundBelow, above_at, above_of, HaveSmallerParents}
use Rattle.open_nodes.specs.Grafts.{FillPlaces, Grows as GrowsTo}
use Rattle.open_nodes.specs.Filled.{Spot, spots_for, IsTree, HaveChoices}
use Rattle.open_nodes.proofs.Paths.{decisions_up}
use Rattle.open_nodes.proofs.Accepting.{nodes_for, children_nodes}
use Rattle.tree_growth.specs.Grown.{Helps, AreHelpful}
use Rattle.tree_replay.specs.Replayed.{IsReplayed}
use Rattle.tree_replay.proofs.Following.{splits_for, Follows}
use Rattle.tree_replay.proofs.Splitting.{Stands, lacks, leaf_stands, branch_stands, above_front, leaves_of, growth_of, leaf_passed, leaf_split}
use Rattle.tree_replay.proofs.Replaying.{spot_of, grown_splits}

-- ---- the numbers of the spots are named

-- each spot has one of these numbers
abbrev AllNamed : List ℕ → List Spot → Type 0
AllNamed below [] = Unit {0}
AllNamed below (s ∷ spots) = Contains below s.number × AllNamed below spots

named_more : (below more : List ℕ) (spots : List Spot) → AllNamed below spots → AllNamed (below ++ more) spots
named_more below more [] named = tt
named_more below more (s ∷ spots) named = (Contains-append_left below more s.number named.0, named_more below more spots named.1)

named_new : (parent : ℕ) (spots : List Spot) (below : List ℕ) (number : ℕ) (cs : List Decision) → AllNamed below spots
    → AllNamed (below ++ numbers_from number cs) (spots_for parent number cs ++ spots)
named_new parent spots below number [] named = named_more below [] spots named
named_new parent spots below number (d ∷ cs) named =
    let more : List ℕ = numbers_from (number + 1) cs in
    let joined : (below ++ number ∷ []) ++ more ≡ below ++ number ∷ more = append_assoc below (number ∷ []) more in (
      subst (λ (l : List ℕ). Contains l number) joined (Contains-append_left (below ++ number ∷ []) more number (Contains-push below number)),
      subst (λ (l : List ℕ). AllNamed l (spots_for parent (number + 1) cs ++ spots)) joined
          (named_new parent spots (below ++ number ∷ []) (number + 1) cs (named_more below (number ∷ []) spots named)),
    )

-- ---- each split helps

-- what is below a best cost, if there is one
below_best : (bound : ℕ) (best : Option ℕ) → IsBoundBelow bound best → MatchOption best (Unit {0}) (λ cost. bound < cost)
below_best bound None below = tt
below_best bound (Some cost) below = below

module _ (problem : Problem) (settings : Settings) (history : List Entry) (edition seen : ℕ) (best : Option ℕ) (is_best : IsBestCost problem (take seen history) best)
    (places : List Place) (kept : List TreeNode) (small : HaveSmallerParents places) (behind : List Grown) where
  abbrev fixings : List Fixing
  fixings = fixings_after edition history

  -- a branch that helps is a split that does
  useful : (above : List Decision) (split : Split) → Helps settings.rule best (node_at problem fixings above) split.choice
      → IsUseful problem settings history edition seen above split
  useful above split helps = record {
    alive = helps.alive;
    picked = helps.picked;
    bound = helps.bound;
    bound_is = helps.bound_is;
    below = (best, is_best, below_best helps.bound best helps.below);
  }

  are_useful : (tree : List TreeNode) (spots : List Spot) (bounds : List ℕ) (unused : ℕ) (front : List Grown) (below : List ℕ)
      → Follows problem (slice_get places) kept tree spots unused → Stands front spots unused → AllNamed below spots
      → AreHelpful settings.rule best (nodes_for problem fixings places kept small spots) tree bounds
      → AreUseful problem settings history edition seen (growth_of problem places front spots behind unused) below (splits_for problem tree spots unused)
  are_useful [] spots bounds unused front below f stands named grows = tt
  are_useful (node ∷ tree) [] bounds unused front below f stands named grows = absurd f
  are_useful (Leaf shown ∷ tree) (s ∷ spots) [] unused front below f stands named grows = absurd grows
  are_useful (Leaf shown ∷ tree) (s ∷ spots) (bound ∷ bounds) unused front below f stands named grows =
      let above : List Decision = decisions_up s.above places in
      subst (λ (g : Growth). AreUseful problem settings history edition seen g below (splits_for problem tree spots unused))
      (sym (leaf_passed problem places small kept behind s spots front unused))
      (are_useful tree spots bounds unused (front ++ leaf s.number above ∷ []) below f.1 (leaf_stands s spots unused front stands above) named.1 grows)
  are_useful (Branch choice children ∷ tree) (s ∷ spots) bounds unused front below f stands named grows =
      let cs : List Decision = children_of problem choice in
      let more : List Spot = spots_for s.number unused cs ++ spots in
      let above : List Decision = decisions_up s.above places in
      let node : Node = node_at problem fixings above in
      let split : Split = record { node = s.number; choice = choice } in
      let up : above_at places s.number ≡ s.above = ap above_of f.0.there ∙ f.0.above_is in
      let here : node ≡ node_at problem fixings (decisions_up (above_at places s.number) places) =
      ap (λ (o : Option Above). node_at problem fixings (decisions_up o places)) (sym up) in
      let nodes : nodes_for problem fixings places kept small more ≡ map (with_decision node) cs ++ nodes_for problem fixings places kept small spots =
      children_nodes problem fixings places kept small s.number unused node spots cs here in
      let grows_more : AreHelpful settings.rule best (nodes_for problem fixings places kept small more) tree bounds =
      subst (λ (ns : List Node). AreHelpful settings.rule best ns tree bounds) (sym nodes) grows.2 in (
        named.0,
        (above, above_front s.number above (leaves_of problem places spots ++ behind) front (lacks s spots unused front stands), useful above split grows.0),
        subst (λ (g : Growth). AreUseful problem settings history edition seen g (below ++ numbers_from unused cs) (splits_for problem tree more (unused + length cs)))
            (sym (leaf_split problem places small kept behind s spots front unused choice (Branch choice children) f.0 stands))
            (are_useful tree more bounds (unused + length cs) (front ++ branch choice ∷ []) (below ++ numbers_from unused cs) f.1
            (branch_stands s spots unused front stands choice cs) (named_new s.number spots below unused cs named.1) grows_more),
      )

-- the splits of a fragment
pub grown_helps : (problem : Problem) (settings : Settings) (history : List Entry) (edition seen : ℕ) (best : Option ℕ) (growth : Growth) (state : State) (fragment : Fragment)
    (splits : List Split) (after : State) → IsTree problem state → IsReplayed growth state → GrowsTo problem state fragment splits after
    → FillPlaces problem 1 fragment.subtree fragment.bounds → HaveChoices problem fragment.subtree → IsBestCost problem (take seen history) best
    → AreHelpful settings.rule best (node_at problem (fixings_after edition history) fragment.work.decisions ∷ []) fragment.subtree fragment.bounds
    → AreUseful problem settings history edition seen growth (fragment.work.node ∷ []) splits
grown_helps problem settings history edition seen best growth state fragment splits after tree replayed grows fill choices is_best helps =
    let fixings : List Fixing = fixings_after edition history in
    let n = fragment.work.node in
    let s = grown_splits problem growth state fragment splits after tree replayed grows fill choices in
    let h = s.has_grown in
    let spots : List Spot = spot_of n s.place ∷ [] in
    let decisions : fragment.work.decisions ≡ decisions_up s.place.above after.places = grows.out.decisions ∙ sym h.decisions_are in
    let grows_there : AreHelpful settings.rule best (nodes_for problem fixings after.places after.kept h.small spots) fragment.subtree fragment.bounds =
    subst (λ (ds : List Decision). AreHelpful settings.rule best (node_at problem fixings ds ∷ []) fragment.subtree fragment.bounds) decisions helps in
    let whole : AreUseful problem settings history edition seen (growth_of problem after.places h.front spots h.behind (length state.places)) (n ∷ [])
    (splits_for problem fragment.subtree spots (length state.places)) =
    are_useful problem settings history edition seen best is_best after.places after.kept h.small h.behind fragment.subtree spots fragment.bounds (length state.places) h.front (n ∷ [])
    h.follows h.stands (Contains-push [] n, tt) grows_there in
    subst (λ (g : Growth). AreUseful problem settings history edition seen g (n ∷ []) splits) (sym h.growth_is)
    (subst (λ (ss : List Split). AreUseful problem settings history edition seen (growth_of problem after.places h.front spots h.behind (length state.places)) (n ∷ []) ss) (sym s.splits_are) whole)
