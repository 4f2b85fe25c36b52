-- Where the operations of a train stand in an order of it.
use Rattle.std.proofs.Common.{◌≡◌, ℕ, ◌<◌, List, length, get_or, Some, sym, subst, ◌∙◌, arith}
use Rattle.std.specs.Prelude.{slice_get}
use Rattle.std.proofs.lemmas.Option.{same_Some, slice_get_within}
use Rattle.disp_model.specs.declared.train.Operation.{Operation}
use Rattle.disp_model.specs.Train.{IsSuccessor}
use Rattle.train_orders.specs.Orders.{IsOrder}
use Rattle.train_orders.proofs.Places.{at_contains}
use Rattle.train_orders.proofs.Ordered.{at_taken}
use Rattle.route_marks.specs.Marks.{ArePlaces}

-- a successor stands before the operation
pub falls : (train : List Operation) (order places : List ℕ) (o s : ℕ) → IsOrder train order → ArePlaces train order places → o < length train → IsSuccessor train o s → get_or places s 0 < get_or places o 0
falls train order places o s is are lt next =
    let here = at_contains order o (is.has o lt) in
    let before = at_contains _ s (is.is_behind.behind here.0 o s here.1 next) in
    let there = at_taken order here.0 before.0 s before.1 in
    omega (arith, there.0, are.at here.0 o here.1, are.at before.0 s there.1)

-- no two operations stand at one place
pub apart : (train : List Operation) (order places : List ℕ) (o p : ℕ) → IsOrder train order → ArePlaces train order places → o < length train → p < length train → get_or places o 0 ≡ get_or places p 0 → o ≡ p
apart train order places o p is are lt_o lt_p same =
    let here = at_contains order o (is.has o lt_o) in
    let there = at_contains order p (is.has p lt_p) in
    let place : here.0 ≡ there.0 = sym (are.at here.0 o here.1) ∙ same ∙ are.at there.0 p there.1 in
    same_Some o p (sym here.1 ∙ subst (λ (n : ℕ). slice_get order n ≡ Some p) (sym place) there.1)

pub place_within : (train : List Operation) (order places : List ℕ) (o : ℕ) → IsOrder train order → ArePlaces train order places → o < length train → get_or places o 0 < length order
place_within train order places o is are lt =
    let here = at_contains order o (is.has o lt) in
    omega (arith, are.at here.0 o here.1, slice_get_within order here.0 o here.1)
