-- A choice that a branch may have can be written: its operations are of the problem, and it has few children.
use Rattle.std.proofs.Common.{◌≡◌, ◌≢◌, ◌∙◌, ℕ, ◌<◌, ◌≤◌, ◌^◌, List, [], ◌∷◌, length, get_or, Option, Some, None, inl, inr, refl, sym, ap, subst, arith, eqb}
use Rattle.std.specs.Prelude.{All, slice_get}
use Rattle.std.specs.Option.{option_map_or}
use Rattle.std.proofs.lemmas.Bool.{cases_lt, eqb-true}
use Rattle.std.proofs.lemmas.Bool.Decides.{Decides-eqb}
use Rattle.std.proofs.lemmas.Option.{slice_get-get_or, slice_get_within, slice_get_past, get_or_from_slice_get}
use Rattle.std.proofs.lemmas.List.{length-map, get_or_past}
use Rattle.std.proofs.lemmas.List.Elements.{All-contains}
use Rattle.std.proofs.lemmas.List.Sums.{get_or-le-sum_by}
use Rattle.std.proofs.lemmas.Map.Made.{IsDistinct-from_AllPairs}
use Rattle.std.proofs.lemmas.Map.Steps.{length-le_from_distinct_below}
use Rattle.std.proofs.lemmas.Map.Views.{Contains-from_any}
use Rattle.disp_model.specs.declared.limits.TheConstants.{MOST_OPERATIONS}
use Rattle.disp_model.specs.declared.train.Op.{Op}
use Rattle.disp_model.specs.declared.train.Operation.{Operation}
use Rattle.disp_model.specs.declared.train.Listing.{Listing}
use Rattle.disp_model.specs.declared.decision.Decision.TheVariants.{Go}
use Rattle.disp_model.specs.declared.decision.Choice.{Choice}
use Rattle.disp_model.specs.declared.decision.Choice.TheVariants.{Route, Order, Run}
use Rattle.disp_model.specs.declared.problem.Problem.{Problem}
use Rattle.disp_model.specs.WellFormed.{RefersInside}
use Rattle.disp_model.specs.Train.{next_of}
use Rattle.disp_model.specs.Valid.{train_at}
use Rattle.disp_model.specs.Arcs.{listings_of, shared_listings}
use Rattle.disp_model.specs.Trees.{children_of, IsChoice, FitsOp, FitsChoice, FitsChildren}
use Rattle.disp_laws.proofs.Numbered.{below_count}

-- ---- few children

next_few : (n m : ℕ) (o : Operation) → RefersInside n m o → length o.next ≤ n
next_few n m o inside = length-le_from_distinct_below o.next n (IsDistinct-from_AllPairs {eq = eqb} Decides-eqb o.next
    (λ i j d lt within e. inside.once i j (get_or o.next i d) lt (slice_get-get_or o.next i d (omega (arith, lt, within))) (slice_get-get_or o.next j d within ∙ ap Some (sym e))))
    (λ q there. All-contains (λ w. w < n) o.next q inside.next (Contains-from_any {eq = eqb} eqb-true q o.next there))

few_of : (train : List Operation) (m op : ℕ) (found : Option Operation) → slice_get train op ≡ found → All (RefersInside (length train) m) train → length (option_map_or (λ p. p.next) found []) ≤ length train
few_of train m op None at inside = omega arith
few_of train m op (Some p) at inside = next_few (length train) m p (subst (RefersInside (length train) m) (get_or_from_slice_get train op p p at) (inside op p (slice_get_within train op p at)))

train_few : (problem : Problem) (t op : ℕ) → length (next_of (train_at problem t) op) ≤ MOST_OPERATIONS
train_few problem t op = elim (cases_lt t (length problem.trains)) [
  | inl there ↦ omega (
    arith,
    few_of (train_at problem t) (length problem.names) op (slice_get (train_at problem t) op) refl (problem.well_formed.references t [] there),
    get_or-le-sum_by (λ (train : List Operation). length train) problem.trains t [] there,
    problem.well_formed.operations_fit,
  )
  | inr past ↦ rw (get_or_past problem.trains t [] past) (omega arith)
]

-- a choice has few children
pub children_few : (problem : Problem) (choice : Choice) → length (children_of problem choice) < 2 ^ 32
children_few problem (Route o) = omega (arith, length-map (next_of (train_at problem o.train) o.op) (λ s. Go o s), train_few problem o.train o.op)
children_few problem (Order a b) = omega arith
children_few problem (Run o) = omega arith

-- ---- operations of the problem

train_there : (problem : Problem) (t op : ℕ) → op < length (train_at problem t) → t < length problem.trains
train_there problem t op inside = elim (cases_lt t (length problem.trains)) [
  | inl there ↦ there
  | inr past ↦
      let none : length (train_at problem t) ≡ 0 = ap (λ (train : List Operation). length train) (get_or_past problem.trains t [] past) in
      absurd (omega (arith, inside, none))
]

op_fits : (problem : Problem) (o : Op) → o.op < length (train_at problem o.train) → FitsOp o
op_fits problem o inside =
    let there = train_there problem o.train o.op inside in
    (omega (arith, there, problem.well_formed.trains_fit), omega (arith, below_count problem o there inside, problem.well_formed.operations_fit))

goes_inside : (train : List Operation) (op : ℕ) → 0 < length (next_of train op) → op < length train
goes_inside train op some = elim (cases_lt op (length train)) [
  | inl inside ↦ inside
  | inr past ↦
      let none : length (next_of train op) ≡ 0 = ap (λ (o : Option Operation). length (option_map_or (λ p. p.next) o [])) (slice_get_past train op past) in
      absurd (omega (arith, some, none))
]

lists_inside : (problem : Problem) (o : Op) → listings_of problem o ≢ [] → o.op < length (train_at problem o.train)
lists_inside problem o some = elim (cases_lt o.op (length (train_at problem o.train))) [
  | inl inside ↦ inside
  | inr past ↦ absurd (some (ap (λ (p : Option Operation). option_map_or (λ p. p.listings) p []) (slice_get_past (train_at problem o.train) o.op past)))
]

none_shared : (a : List Listing) → shared_listings a [] ≡ []
none_shared [] = refl
none_shared (l ∷ a) = none_shared a

-- ---- what can be written

-- the operations of a choice can be written, and so can the number of its children
pub choice_fits : (problem : Problem) (choice : Choice) → IsChoice problem choice → FitsChoice choice
choice_fits problem (Route o) is = op_fits problem o (goes_inside (train_at problem o.train) o.op (omega (arith, is)))
choice_fits problem (Order a b) is = (
  op_fits problem a (lists_inside problem a (λ none. is.shared (ap (λ (l : List Listing). shared_listings l (listings_of problem b)) none))),
  op_fits problem b (lists_inside problem b (λ none. is.shared (ap (λ (l : List Listing). shared_listings (listings_of problem a) l) none ∙ none_shared (listings_of problem a)))),
)
choice_fits problem (Run o) is = op_fits problem o is

pub children_fit : (problem : Problem) (choice : Choice) → IsChoice problem choice → FitsChildren choice (length (children_of problem choice))
children_fit problem (Route o) is =
    let same = length-map (next_of (train_at problem o.train) o.op) (λ s. Go o s) in
    (omega (arith, same, is), omega (arith, same, train_few problem o.train o.op))
children_fit problem (Order a b) is = refl
children_fit problem (Run o) is = refl
