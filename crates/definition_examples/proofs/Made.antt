-- What holds of each problem that is built of these trains and costs holds of each problem that has them.
use Rattle.std.proofs.Common.{◌≡◌, ℕ, List, subst, sym}
use Rattle.disp_model.specs.declared.train.Operation.{Operation}
use Rattle.disp_model.specs.declared.train.Component.{Component}
use Rattle.disp_model.specs.declared.problem.Problem.{Problem}
use Rattle.disp_model.specs.WellFormed.{IsWellFormed}

abbrev pub made : (trains : List (List Operation)) (components : List Component) (names : List (List ℕ)) → IsWellFormed trains components names → Problem
made trains components names w = record { trains = trains; components = components; names = names; well_formed = w }

pub of_made : (P : Problem → Type 0) (trains : List (List Operation)) (components : List Component)
    → ((names : List (List ℕ)) (w : IsWellFormed trains components names) → P (made trains components names w))
    → (problem : Problem) → problem.trains ≡ trains → problem.components ≡ components → P problem
of_made P trains components each problem ts cs =
    let with_trains : (w : IsWellFormed problem.trains components problem.names) → P (made problem.trains components problem.names w)
    = subst (λ (x : List (List Operation)). (w : IsWellFormed x components problem.names) → P (made x components problem.names w)) (sym ts) (each problem.names) in
    subst (λ (x : List Component). (w : IsWellFormed problem.trains x problem.names) → P (made problem.trains x problem.names w)) (sym cs) with_trains problem.well_formed
