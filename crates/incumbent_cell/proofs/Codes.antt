-- A code beside that of a put.
use Rattle.std.proofs.Common.{◌≡◌, ℕ, ◌-◌, ◌/◌, ◌%◌, ◌<◌, ◌≤◌, Bool, true, false, inl, inr, ⊎_elim, refl, arith}
use Rattle.std.specs.Prelude.{◌==◌, min, None, Some, if◌then◌else◌}
use Rattle.std.proofs.lemmas.Bool.{eqb-true, cases_lt}
use Rattle.incumbent_cell.specs.declared.packing.TheConstants.{NEWEST, SATURATED, SPAN}
use Rattle.incumbent_cell.specs.Code.{packed, IsNoMore, TellsNoWorse}

no_more : (found cost : ℕ) → found ≤ min cost SATURATED → (all : Bool) → (min found SATURATED == SATURATED) ≡ all → IsNoMore (if all then None else Some found) cost
no_more found cost low true is = let whole = eqb-true (min found SATURATED) SATURATED is in omega arith
no_more found cost low false is = omega arith

pub tells_no_worse : (code edition cost : ℕ) → edition ≤ NEWEST → code ≤ packed edition cost → TellsNoWorse code edition cost
tells_no_worse code edition cost within low = ⊎_elim
    (λ (newer : code / SPAN < NEWEST - edition). inl (omega arith))
    (λ (not : NEWEST - edition ≤ code / SPAN).
    let same : code / SPAN ≡ NEWEST - edition = omega arith in
    inr (omega arith, no_more (code % SPAN) cost (omega arith) (min (code % SPAN) SATURATED == SATURATED) refl))
    (cases_lt (code / SPAN) (NEWEST - edition))
