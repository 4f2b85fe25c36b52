-- What components add up to, one after the other.
use Rattle.std.proofs.Common.{◌≡◌, ℕ, ◌+◌, ◌<◌, ◌≤◌, List, [], ◌∷◌, ◌++◌, length, take, get_or, Some, refl, ap, arith}
use Rattle.std.specs.Prelude.{slice_get, sum_by}
use Rattle.std.proofs.lemmas.List.{take_more}
use Rattle.std.proofs.lemmas.List.Sums.{sum_by_more, sum_by_more_le}
use Rattle.std.proofs.lemmas.Option.{slice_get_within, get_or_from_slice_get}
use Rattle.disp_model.specs.declared.train.Component.{Component}
use Rattle.disp_model.specs.declared.problem.Problem.{Problem}
use Rattle.disp_model.specs.declared.limits.TheConstants.{GREATEST_COST}
use Rattle.disp_model.specs.WellFormed.{horizon, most_of}
use Rattle.disp_model.specs.Node.{Node}
use Rattle.disp_model.specs.Nodes.{AddsForced, ForcedAddUp}

add_up_end : (node : Node) (components : List Component) (c : Component) (sum cost : ℕ) → ForcedAddUp node components sum → AddsForced node c cost → ForcedAddUp node (components ++ c ∷ []) (sum + cost)
add_up_end node [] c sum cost is adds = (cost, 0, adds, refl, omega (arith, is))
add_up_end node (d ∷ components) c sum cost is adds =
    (is.0, is.1 + cost, is.2, add_up_end node components c is.1 cost is.3 adds, omega (arith, is.4))

-- with the component at a place
pub add_up_more : (node : Node) (components : List Component) (i : ℕ) (d : Component) (sum cost : ℕ) → i < length components → ForcedAddUp node (take i components) sum → AddsForced node (get_or components i d) cost
    → ForcedAddUp node (take (i + 1) components) (sum + cost)
add_up_more node components i d sum cost lt is adds = rw (take_more components i d lt) (add_up_end node (take i components) (get_or components i d) sum cost is adds)

pub most_more : (last : ℕ) (components : List Component) (i : ℕ) (d : Component) (sum cost : ℕ) → i < length components → sum ≤ sum_by (most_of last) (take i components) → cost ≤ most_of last (get_or components i d)
    → sum + cost ≤ sum_by (most_of last) (take (i + 1) components)
most_more last components i d sum cost lt most own = omega (arith, sum_by_more (most_of last) components i d lt, most, own)

-- what a component of a problem costs at most fits, and with it what those before it cost
pub fits_more : (problem : Problem) (place : ℕ) (c : Component) → slice_get problem.components place ≡ Some c
    → sum_by (most_of (horizon problem.trains)) (take place problem.components) + most_of (horizon problem.trains) c ≤ GREATEST_COST
fits_more problem place c at =
    let same : most_of (horizon problem.trains) (get_or problem.components place c) ≡ most_of (horizon problem.trains) c = ap (most_of (horizon problem.trains)) (get_or_from_slice_get problem.components place c c at) in
    omega (arith, same, sum_by_more_le (most_of (horizon problem.trains)) problem.components place c (slice_get_within problem.components place c at), problem.well_formed.costs_fit)
