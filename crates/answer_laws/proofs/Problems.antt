-- Two problems with the same trains, components and names are one.
use Rattle.std.proofs.Common.{◌≡◌, ℕ, List, ap, subst, sym}
use Rattle.std.proofs.Props.{props}
use Rattle.disp_model.specs.declared.problem.Problem.{Problem}
use Rattle.disp_model.specs.declared.train.Operation.{Operation}
use Rattle.disp_model.specs.declared.train.Component.{Component}
use Rattle.disp_model.specs.WellFormed.{IsWellFormed}

-- a problem's facts have one proof
one_proof : (trains : List (List Operation)) (components : List Component) (names : List (List ℕ))
    → IsProp (IsWellFormed trains components names)
one_proof trains components names = hlevel props

abbrev problem_of : (trains : List (List Operation)) (components : List Component)
    (names : List (List ℕ)) → IsWellFormed trains components names → Problem
problem_of trains components names proof = record {
  trains = trains;
  components = components;
  names = names;
  well_formed = proof;
}

pub same_problem : (one other : Problem) → one.trains ≡ other.trains
    → one.components ≡ other.components → one.names ≡ other.names → one ≡ other
same_problem one other trains components names =
    subst (λ (t : List (List Operation)). (proof : IsWellFormed t one.components one.names)
    → problem_of t one.components one.names proof ≡ other) (sym trains)
    (subst (λ (c : List Component). (proof : IsWellFormed other.trains c one.names)
    → problem_of other.trains c one.names proof ≡ other) (sym components)
    (subst (λ (n : List (List ℕ)). (proof : IsWellFormed other.trains other.components n)
    → problem_of other.trains other.components n proof ≡ other) (sym names)
    (λ proof. ap (problem_of other.trains other.components other.names)
    (one_proof other.trains other.components other.names proof other.well_formed))))
    one.well_formed
