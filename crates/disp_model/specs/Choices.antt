-- The choices that are open at a node.
use Rattle.std.specs.Prelude.{◌≡◌, ◌≢◌, ◌⊎◌, ℕ, ◌+◌, ◌<◌, ◌≤◌, List, Contains}
use Rattle.disp_model.specs.declared.train.Op.{Op}
use Rattle.disp_model.specs.declared.decision.Decision.TheVariants.{First}
use Rattle.disp_model.specs.declared.decision.Choice.{Choice}
use Rattle.disp_model.specs.declared.decision.Choice.TheVariants.{Route, Order, Run}
use Rattle.disp_model.specs.Fixing.{after}
use Rattle.disp_model.specs.Node.{Node}
use Rattle.disp_model.specs.Routes.{IsAllowed, IsForced}
use Rattle.disp_model.specs.Arcs.{Conflicts, release_of, min_of, GoesTo}
use Rattle.disp_model.specs.Walks.{IsLongest}

-- the end of a forced operation: the longest walk of its only next, where each allowed route goes
-- on to the same one; else its own longest walk and its duration (this project)
abbrev pub IsEnd : Node → Op → ℕ → Type 0
IsEnd node o end =
    ((n : Op) × GoesTo node o n × IsLongest node n end)
    ⊎ (((n : Op) → GoesTo node o n → ⊥) × ((start : ℕ) × IsLongest node o start
    × (end ≡ start + min_of node.problem o)))

-- the end of a, with its release time, is no later than the start of b, and is below it
pub record Clears (node : Node) (a b : Op) : Type 0 where
  pub end : ℕ
  pub end_is : IsEnd node a end
  pub start : ℕ
  pub start_is : IsLongest node b start
  pub in_time : end + release_of node.problem a b ≤ start
  pub below : end < start

-- the operation is forced, and two allowed routes go on differently from it
pub record IsOpenRoute (node : Node) (o : Op) : Type 0 where
  pub forced : IsForced node o
  pub one : List ℕ
  pub other : List ℕ
  pub one_allowed : IsAllowed node o.train one
  pub other_allowed : IsAllowed node o.train other
  pub apart : after o.op one ≢ after o.op other

-- two forced operations that conflict, the lower train first, in no decided order, of which neither
-- clears the other
pub record IsOpenOrder (node : Node) (a b : Op) : Type 0 where
  pub trains : a.train < b.train
  pub from_forced : IsForced node a
  pub to_forced : IsForced node b
  pub conflicts : Conflicts node.problem a b
  pub undecided : Contains node.decisions (First a b) → ⊥
  pub undecided_back : Contains node.decisions (First b a) → ⊥
  pub not_clear : Clears node a b → ⊥
  pub not_clear_back : Clears node b a → ⊥

-- some allowed route of the train has the operation, and some has it not
pub record IsOpenRun (node : Node) (o : Op) : Type 0 where
  pub one : List ℕ
  pub other : List ℕ
  pub one_allowed : IsAllowed node o.train one
  pub other_allowed : IsAllowed node o.train other
  pub has : Contains one o.op
  pub has_not : Contains other o.op → ⊥

-- a choice that is open at a node (this project)
abbrev pub IsOpen : Node → Choice → Type 0
IsOpen node (Route o) = IsOpenRoute node o
IsOpen node (Order a b) = IsOpenOrder node a b
IsOpen node (Run o) = IsOpenRun node o
