-- The components of a problem by their trains.
use Rattle.std.specs.Prelude.{◌≡◌, ◌≢◌, ◌==◌, ℕ, Bool, ◌<◌, List, [], ◌∷◌, ◌++◌, length, slice_index_or, filter}
use Rattle.disp_model.specs.declared.train.Component.{Component}
use Rattle.disp_model.specs.declared.problem.Problem.{Problem}
use Rattle.problem_facts.specs.declared.components.OwnComponents.{OwnComponents}

abbrev pub own_in : List (List Component) → ℕ → List Component
own_in each t = slice_index_or each t []

abbrev pub is_of_train : ℕ → Component → Bool
is_of_train t c = c.train == t

-- the component's train has one more
pub record TakesComponent (c : Component) (old new : List (List Component)) : Type 0 where
  pub long : length new ≡ length old
  pub own : own_in new c.train ≡ own_in old c.train ++ c ∷ []
  pub others : (t : ℕ) → t ≢ c.train → own_in new t ≡ own_in old t

-- each train has those of the components that are of it
abbrev pub HaveEach : List Component → List (List Component) → Type 0
HaveEach components each = (t : ℕ) → t < length each
    → own_in each t ≡ filter (is_of_train t) components

pub record AreOwnOf (problem : Problem) (own : OwnComponents) : Type 0 where
  pub long : length own.each.items ≡ length problem.trains
  pub has : HaveEach problem.components own.each.items
