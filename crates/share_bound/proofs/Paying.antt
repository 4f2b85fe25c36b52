-- What is left to pay from operations on, one operation after another.
use Rattle.std.proofs.Common.{◌≡◌, ℕ, ◌+◌, ◌<◌, ◌≤◌, List, [], ◌∷◌, length, set, Some, refl, sym, subst, ◌∙◌, inl, inr, arith}
use Rattle.std.specs.Prelude.{slice_get, slice_index, Contains}
use Rattle.std.proofs.lemmas.Bool.{cases_lt}
use Rattle.std.proofs.lemmas.Option.{same_Some}
use Rattle.std.proofs.lemmas.List.{length-set, get_or-set_same, get_or-set_other}
use Rattle.disp_model.specs.declared.train.Operation.{Operation}
use Rattle.train_orders.proofs.Places.{contains_none}
use Rattle.train_orders.proofs.Ordered.{contains_here}
use Rattle.route_marks.specs.Ways.{StepsAlong, Goes, last_of}
use Rattle.route_marks.specs.Marks.{IsLaid}
use Rattle.share_bound.proofs.Stepping.{steps_row, row_steps, last_here}
use Rattle.share_bound.specs.Prices.{fitted, priced_along}
use Rattle.share_bound.specs.Leasts.{IsCheapest, IsPaidBehind, ArePaidTo}

-- an operation that is paid for next
pub record IsPaying (train : List Operation) (order : List ℕ) (rows : List (List ℕ)) (price : ℕ → ℕ)
    (place at own behind cost : ℕ) (row costs : List ℕ) : Type 0 where
  pub laid : IsLaid train order rows
  pub here : slice_get order place ≡ Some at
  pub row_is : slice_get rows place ≡ Some row
  pub own_is : own ≡ fitted (price at)
  pub before : ArePaidTo train order rows price place costs
  pub least : IsPaidBehind costs row behind
  pub cost_is : cost ≡ fitted (own + behind)

-- the cost of a step's operation is known
step_paid : (train : List Operation) (order : List ℕ) (rows : List (List ℕ)) (price : ℕ → ℕ)
    (place at s : ℕ) (costs : List ℕ) → IsLaid train order rows → slice_get order place ≡ Some at
    → ArePaidTo train order rows price place costs
    → StepsAlong order rows at s → IsCheapest order rows price s (slice_index costs s)
step_paid train order rows price place at s costs laid here before step = let down = laid.down place
    at s here step in before.each down.0 s down.1 down.2

own_cheapest : (train : List Operation) (order : List ℕ) (rows : List (List ℕ)) (price : ℕ → ℕ)
    (place at own behind cost : ℕ) (row costs : List ℕ)
    → IsPaying train order rows price place at own behind cost row costs
    → IsCheapest order rows price at cost
own_cheapest train order rows price place at own behind cost row costs is = by is.least
  where
    steps : (s : ℕ) → Contains row s → StepsAlong order rows at s
    steps s has = row_steps order rows place at s row is.here is.row_is has

    paid : (s : ℕ) → Contains row s → IsCheapest order rows price s (slice_index costs s)
    paid s has = step_paid train order rows price place at s costs is.laid is.here is.before
        (steps s has)

    through : (s : ℕ) → Contains row s → behind ≡ slice_index costs s → (rest : List ℕ)
        × Goes order rows at rest × (cost ≡ fitted (priced_along price (at ∷ rest)))
    through s has same = let later = (paid s has).there in
        (s ∷ later.0, (steps s has, later.1), omega (arith, is.cost_is, is.own_is, same, later.2))

    first : (row : List ℕ) → (row ≡ [] → ⊥) → (s : ℕ) × Contains row s
    first [] some = absurd (some refl)
    first (s ∷ rest) some = (s, contains_here s rest)

    by : IsPaidBehind costs row behind → IsCheapest order rows price at cost
    by (inl (none, nothing)) = record {
      there = (
        [],
        λ s step. contains_none s
            (subst (λ (l : List ℕ). Contains l s) none
            (steps_row train order rows place at s row is.laid is.here is.row_is step)),
        omega (arith, is.cost_is, is.own_is, nothing),
      );
      least = λ rest goes. at_most rest goes;
    }
      where
        at_most : (rest : List ℕ) → Goes order rows at rest → cost ≤ priced_along price (at ∷ rest)
        at_most [] goes = omega (arith, is.cost_is, is.own_is, nothing)
        at_most (s ∷ rest) goes = omega (arith, is.cost_is, is.own_is, nothing)
    by (inr (some, lowest)) = record {
      there = elim lowest.from [
        | inr found ↦ through found.0 found.1 found.2
        | inl greatest ↦
            let one = first row some in
            let within = (paid one.0 one.1).there in
            let most : behind ≤ slice_index costs one.0 = lowest.each one.0 one.1 in
            through one.0 one.1 (omega (arith, greatest, most, within.2))
      ];
      least = λ rest goes. at_most rest goes;
    }
      where
        at_most : (rest : List ℕ) → Goes order rows at rest → cost ≤ priced_along price (at ∷ rest)
        at_most [] stops = let one = first row some in absurd (stops one.0 (steps one.0 one.1))
        at_most (s ∷ rest) goes =
            let has = steps_row train order rows place at s row is.laid is.here is.row_is goes.0 in
            omega (arith, is.cost_is, is.own_is, lowest.each s has, (paid s has).least rest goes.1)

pub paid_more : (train : List Operation) (order : List ℕ) (rows : List (List ℕ)) (price : ℕ → ℕ)
    (place at own behind cost : ℕ) (row costs : List ℕ)
    → IsPaying train order rows price place at own behind cost row costs
    → ArePaidTo train order rows price (place + 1) (set costs at cost)
paid_more train order rows price place at own behind cost row costs is = record {
  long = length-set costs at cost ∙ is.before.long;
  each = λ k o less here. elim (cases_lt k place) [
    | inl early ↦
        let other : o ≡ at
        → ⊥ = λ same. omega (
          arith,
          early,
          is.laid.one_place k place at (subst (λ (x : ℕ). slice_get order k ≡ Some x) same here)
              is.here,
        ) in
        subst (IsCheapest order rows price o) (sym (get_or-set_other costs at o cost 0 other))
        (is.before.each k o early here)
    | inr late ↦
        let same : k ≡ place = omega (arith, less, late) in
        let own_op : at ≡ o = same_Some at o (sym is.here
        ∙ subst (λ (n : ℕ). slice_get order n ≡ Some o) same here) in
        subst (λ (x : ℕ). IsCheapest order rows price x (slice_index (set costs at cost) x)) own_op
        (subst (IsCheapest order rows price at) (sym (get_or-set_same costs at cost 0 inside))
        (own_cheapest train order rows price place at own behind cost row costs is))
  ];
}
  where
    inside : at < length costs
    inside = omega (arith, is.laid.within place at is.here, is.before.long)

pub paid_all : (train : List Operation) (order : List ℕ) (rows : List (List ℕ)) (price : ℕ → ℕ)
    (count : ℕ) (costs : List ℕ) → IsLaid train order rows → length order ≤ count
    → ArePaidTo train order rows price count costs
    → IsCheapest order rows price (last_of order) (slice_index costs (last_of order))
paid_all train order rows price count costs laid past before = let last = last_here train order rows
    laid in before.each last.0 (last_of order) (omega (arith, last.1, past)) last.2
