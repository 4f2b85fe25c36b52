-- What holds of every problem (format; the limits are this project's choice).
use Rattle.std.specs.Prelude.{◌≡◌, ◌≢◌, ℕ, zero, suc, ◌+◌, ◌*◌, ◌<◌, ◌≤◌, List, [], ◌∷◌, length, sum_by, max, All, slice_get, Some}
use Rattle.std.specs.Option.{ForSome}
use Rattle.disp_model.specs.declared.train.Operation.{Operation}
use Rattle.disp_model.specs.declared.train.Component.{Component}
use Rattle.disp_model.specs.declared.train.Listing.{Listing}
use Rattle.disp_model.specs.declared.limits.TheConstants.{GREATEST_NUMBER, MOST_TRAINS, MOST_OPERATIONS, MOST_COMPONENTS, GREATEST_COST}
use Rattle.disp_model.specs.Train.{IsEntry, IsExit, IsSuccessor}

-- the greatest release time of the resources listed, or 0
abbrev pub greatest_release : List Listing → ℕ
greatest_release [] = 0
greatest_release (l ∷ ls) = max l.release (greatest_release ls)

-- how long an operation holds what it lists, at least
abbrev pub span_of : Operation → ℕ
span_of o = o.min + greatest_release o.listings

-- a time that no earliest start passes (this project's choice): the greatest number, and each
-- operation's duration and greatest release time
abbrev pub horizon : List (List Operation) → ℕ
horizon trains = GREATEST_NUMBER + sum_by (λ train. sum_by span_of train) trains

abbrev pub operation_count : List (List Operation) → ℕ
operation_count trains = sum_by (λ train. length train) trains

-- the numbers of an operation are within the limit
pub record HasFitNumbers (o : Operation) : Type 0 where
  pub lower : o.lower ≤ GREATEST_NUMBER
  pub upper : ForSome o.upper (λ u. u ≤ GREATEST_NUMBER)
  pub min : o.min ≤ GREATEST_NUMBER
  pub releases : All (λ l. l.release ≤ GREATEST_NUMBER) o.listings

-- an operation goes on to operations of its train, each named once, and lists resources that have
-- names
pub record RefersInside (operations resources : ℕ) (o : Operation) : Type 0 where
  pub next : All (λ s. s < operations) o.next
  pub once : (i j : ℕ) (s : ℕ) → i < j → slice_get o.next i ≡ Some s → slice_get o.next j ≢ Some s
  pub listings : All (λ l. l.resource < resources) o.listings

-- a way of n steps and one more leads from one operation to the other
abbrev pub LeadsTo : List Operation → ℕ → ℕ → ℕ → Type 0
LeadsTo train zero o s = IsSuccessor train o s
LeadsTo train (suc n) o s = (p : ℕ) × IsSuccessor train o p × LeadsTo train n p s

-- one entry, one exit, and no way that leads from an operation back to it
pub record IsAcyclic (train : List Operation) : Type 0 where
  pub entered : 0 < length train
  pub one_entry : (o p : ℕ) → IsEntry train o → IsEntry train p → o ≡ p
  pub one_exit : (o p : ℕ) → IsExit train o → IsExit train p → o ≡ p
  pub no_cycle : (n o : ℕ) → LeadsTo train n o o → ⊥

-- a component's numbers are within the limit, and it names an operation
pub record IsComponent (trains : List (List Operation)) (c : Component) : Type 0 where
  pub threshold : c.threshold ≤ GREATEST_NUMBER
  pub increment : c.increment ≤ GREATEST_NUMBER
  pub coeff : c.coeff ≤ GREATEST_NUMBER
  pub train : c.train < length trains
  pub operation : (train : List Operation) → slice_get trains c.train ≡ Some train
      → c.operation < length train

-- what a component costs at most, at the horizon
abbrev pub most_of : ℕ → Component → ℕ
most_of last c = c.coeff * last + c.increment

pub record IsWellFormed (trains : List (List Operation)) (components : List Component)
    (names : List (List ℕ)) : Type 0 where
  pub numbers : All (λ train. All HasFitNumbers train) trains
  pub references : All (λ train. All (RefersInside (length train) (length names)) train) trains
  pub acyclic : All IsAcyclic trains
  pub named : All (IsComponent trains) components
  pub distinct : (i j : ℕ) (name : List ℕ) → i < j → slice_get names i ≡ Some name
      → slice_get names j ≢ Some name
  pub trains_fit : length trains ≤ MOST_TRAINS
  pub operations_fit : operation_count trains ≤ MOST_OPERATIONS
  pub components_fit : length components ≤ MOST_COMPONENTS
  pub costs_fit : sum_by (most_of (horizon trains)) components ≤ GREATEST_COST
