-- No share is more than twice what the train's components cost at the horizon.
use Rattle.std.proofs.Common.{◌≡◌, ℕ, zero, suc, ◌+◌, ◌-◌, ◌*◌, ◌^◌, ◌<◌, ◌≤◌, List, [], ◌∷◌, length, get_or, take, cond, Option, Some, refl, sym, ap, subst, inl, inr, arith, mul-le-mul_left}
use Rattle.std.specs.Prelude.{nat_eq, slice_get, sum_by, max}
use Rattle.std.specs.Option.{option_map_or}
use Rattle.std.proofs.lemmas.Bool.{cases_Bool, cases_lt, eqb-true, eq-eqb, ne_eqb, le-leb, lt-leb}
use Rattle.std.proofs.lemmas.Option.{none-some, same_Some, get_or_from_slice_get}
use Rattle.std.proofs.lemmas.List.Sums.{sum_by-cons, sum_by_more, sum_by-take-le, get_or-le-sum_by}
use Rattle.disp_model.specs.declared.train.Op.{Op}
use Rattle.disp_model.specs.declared.train.Operation.{Operation}
use Rattle.disp_model.specs.declared.train.Component.{Component}
use Rattle.disp_model.specs.declared.problem.Problem.{Problem}
use Rattle.disp_model.specs.Train.{duration_of, GoesOn}
use Rattle.disp_model.specs.WellFormed.{span_of, horizon, most_of, IsAcyclic}
use Rattle.disp_model.specs.Valid.{train_at}
use Rattle.disp_model.specs.Cost.{cost_at}
use Rattle.disp_model.specs.Node.{Node}
use Rattle.disp_model.specs.Routes.{IsAllowed}
use Rattle.disp_model.specs.Walks.{HasCycle}
use Rattle.disp_model.specs.Shares.{reached_from, cost_along, IsShareOver, IsBase}
use Rattle.disp_laws.proofs.Paths.{IsIn, never_again, contains_in}
use Rattle.disp_laws.proofs.RouteSearch.{each_within}
use Rattle.disp_laws.proofs.Shares.{sum_le, sum_plus, along_or_not, train_there}
use Rattle.disp_laws.proofs.HorizonBounds.{AreSmall, within_horizon, lower_within, get_within}
use Rattle.share_bound.specs.Prices.{most_own, most_below, most_together}

-- ---- sums over numbers

sum_to : (ℕ → ℕ) → ℕ → ℕ
sum_to f zero = 0
sum_to f (suc n) = sum_to f n + f n

without : ℕ → (ℕ → ℕ) → ℕ → ℕ
without o f k = cond (nat_eq k o) 0 (f k)

without_own : (o : ℕ) (f : ℕ → ℕ) → without o f o ≡ 0
unfolding without
without_own o f = rw (eq-eqb o o refl) refl

without_other : (o : ℕ) (f : ℕ → ℕ) (k : ℕ) → (k ≡ o → ⊥) → without o f k ≡ f k
unfolding without
without_other o f k other = rw (ne_eqb k o other) refl

sum_past : (o : ℕ) (f : ℕ → ℕ) (n : ℕ) → n ≤ o → sum_to (without o f) n ≡ sum_to f n
unfolding sum_to
sum_past o f zero le = refl
sum_past o f (suc n) le = omega (
  arith,
  sum_past o f n (omega (arith, le)),
  without_other o f n (λ same. omega (arith, same, le)),
)

sum_without : (o : ℕ) (f : ℕ → ℕ) (n : ℕ) → o < n → sum_to (without o f) n + f o ≡ sum_to f n
unfolding sum_to
sum_without o f zero lt = absurd (omega (arith, lt))
sum_without o f (suc n) lt = elim (cases_lt o n) [
  | inl before ↦ omega (
    arith,
    sum_without o f n before,
    without_other o f n (λ same. omega (arith, same, before)),
  )
  | inr late ↦
      let same : n ≡ o = omega (arith, late, lt) in
      let none : without o f n ≡ 0 = subst (λ (k : ℕ). without o f k ≡ 0) (sym same)
      (without_own o f) in
      let value = ap f same in
      omega (arith, sum_past o f n (omega (arith, same)), none, value)
]

same_on : (f g : ℕ → ℕ) (xs : List ℕ) → ((x : ℕ) → IsIn x xs → f x ≡ g x)
    → sum_by f xs ≡ sum_by g xs
same_on f g [] each = refl
same_on f g (x ∷ xs) each = rw (sum_by-cons f x xs, sum_by-cons g x xs)
    (omega (arith, each x (inl refl), same_on f g xs (λ y there. each y (inr there))))

-- the operations of a way stand once in it
way_sum : (train : List Operation) (n : ℕ) (f : ℕ → ℕ) (p : ℕ) (rest : List ℕ) → IsAcyclic train
    → GoesOn train p rest → ((x : ℕ) → IsIn x (p ∷ rest) → x < n) → sum_by f (p ∷ rest) ≤ sum_to f n
way_sum train n f p [] acyclic goes within = omega (
  arith,
  sum_by-cons f p [],
  sum_without p f n (within p (inl refl)),
)
way_sum train n f p (s ∷ rest) acyclic goes within =
    let later = way_sum train n (without p f) s rest acyclic goes.1
    (λ x there. within x (inr there)) in
    let same = same_on (without p f) f (s ∷ rest)
    (λ x there. without_other p f x
    (λ e. never_again train p (s ∷ rest) acyclic goes
    (subst (λ (y : ℕ). IsIn y (s ∷ rest)) e there))) in
    omega (arith, sum_by-cons f p (s ∷ rest), later, same, sum_without p f n (within p (inl refl)))

-- ---- durations along a route

span_at_least : (train : List Operation) (k : ℕ) (p : Operation) → slice_get train k ≡ Some p
    → duration_of train k ≤ span_of p
span_at_least train k p at = let same : duration_of train k ≡ p.min = ap
    (λ (found : Option Operation). option_map_or (λ q. q.min) found 0) at in omega (arith, same)

durations : (train : List Operation) (k : ℕ) → k ≤ length train
    → sum_to (duration_of train) k ≤ sum_by span_of (take k train)
unfolding sum_to
durations train zero le = omega arith
durations train (suc k) le =
    let at = get_within train k (omega (arith, le)) in
    let more = sum_by_more span_of train k at.0 (omega (arith, le)) in
    let same : get_or train k at.0 ≡ at.0 = get_or_from_slice_get train k at.0 at.0 at.1 in
    let value : span_of (get_or train k at.0) ≡ span_of at.0 = ap span_of same in
    let suc_is : k + 1 ≡ suc k = omega arith in
    let next : sum_by span_of (take (suc k) train) ≡ sum_by span_of (take k train) + span_of
    (get_or train k at.0) = subst
    (λ (n : ℕ). sum_by span_of (take n train) ≡ sum_by span_of (take k train) + span_of
    (get_or train k at.0)) suc_is more in
    omega (
      arith,
      next,
      value,
      span_at_least train k at.0 at.1,
      durations train k (omega (arith, le)),
    )

route_within : (node : Node) (t : ℕ) (route : List ℕ) → IsAllowed node t route
    → sum_by (duration_of (train_at node.problem t)) route ≤ horizon node.problem.trains
route_within node t [] allowed = absurd allowed.is_route
route_within node t (p ∷ rest) allowed =
    let train = train_at node.problem t in
    let there = train_there node t (p ∷ rest) allowed in
    let whole = way_sum train (length train) (duration_of train) p rest
    (node.problem.well_formed.acyclic t [] there) allowed.is_route.1
    (λ x on. each_within train p rest allowed.is_route.1 x on) in
    omega (
      arith,
      whole,
      durations train (length train) (omega arith),
      sum_by-take-le span_of train (length train),
      get_or-le-sum_by (λ (l : List Operation). sum_by span_of l) node.problem.trains t [] there,
    )

-- ---- reaches

reached_within : (base : ℕ → ℕ) (train : List Operation) (most time : ℕ) (route : List ℕ)
    (o total : ℕ) → ((p : ℕ) → base p ≤ most) → reached_from base train time route o ≡ Some total
    → total ≤ max time most + sum_by (duration_of train) route
reached_within base train most time [] o total each at = absurd (none-some total at)
reached_within base train most time (p ∷ route) o total each at = elim (cases_Bool (nat_eq p o)) [
  | inl is ↦ let value = same_Some (max time (base p)) total (rw is at at) in
      omega (arith, value, each p)
  | inr not ↦ omega (
    arith,
    reached_within base train most (max time (base p) + duration_of train p) route o total each
        (rw not at at),
    each p,
    sum_by-cons (duration_of train) p route,
  )
]

-- the base of an operation is within the horizon
pub base_within : (node : Node) (o : Op) (base : ℕ) → AreSmall node.fixings → (HasCycle node → ⊥)
    → o.train < length node.problem.trains → IsBase node o base → base ≤ horizon node.problem.trains
base_within node o base small no_cycle there (inl (forced, longest)) = within_horizon node
    longest.reached.0 base small no_cycle longest.reached.3
base_within node o base small no_cycle there (inr (not, is)) = omega (
  arith,
  is,
  lower_within node o small there,
)

-- ---- costs

cost_within : (c : Component) (s last : ℕ) → s ≤ last → cost_at c s ≤ most_of last c
cost_within c s last le =
    let product : c.coeff * (s - c.threshold) ≤ c.coeff * last = mul-le-mul_left c.coeff
    (omega (arith, le)) in
    elim (cases_lt s c.threshold) [
      | inl lt ↦ rw (lt-leb c.threshold s lt) (omega (arith, product))
      | inr ge ↦ rw (le-leb c.threshold s ge) (omega (arith, product))
    ]

pub share_within : (node : Node) (t : ℕ) (base : ℕ → ℕ) (share : ℕ) → IsShareOver node t base share
    → ((o : ℕ) → base o ≤ horizon node.problem.trains)
    → share ≤ sum_by (most_own (horizon node.problem.trains) t) node.problem.components
share_within node t base share over each = omega (
  arith,
  over.there.2,
  sum_le (cost_along t over.reach route) (most_own last t) node.problem.components along,
)
  where
    last : ℕ
    last = horizon node.problem.trains

    route : List ℕ
    route = over.there.0

    reach : (o : ℕ) → IsIn o route → over.reach o ≤ last + last
    reach o on =
        let is = over.reach_is route o over.there.1 (contains_in o route on) in
        omega (
          arith,
          reached_within base (train_at node.problem t) last 0 is.there.0 o (over.reach o) each
              is.there.2,
          route_within node t is.there.0 is.there.1,
        )

    along : (c : Component) → cost_along t over.reach route c ≤ most_own last t c
    along c = elim (along_or_not t over.reach route c) [
      | inr off ↦ omega (arith, off)
      | inl on ↦
          let own : most_own last t c ≡ 2 * most_of last c = rw (eq-eqb c.train t on.0) refl in
          let twice : c.coeff * (last + last) ≡ c.coeff * last + c.coeff * last = omega arith in
          omega (
            arith,
            on.2,
            own,
            twice,
            cost_within c (over.reach c.operation) (last + last) (reach c.operation on.1),
          )
    ]

-- ---- over the first trains

below_none : (last n : ℕ) (c : Component) → n ≤ c.train → most_below last n c ≡ 0
below_none last zero c le = refl
below_none last (suc n) c le =
    let none : most_own last n c ≡ 0 = rw (ne_eqb c.train n (λ same. omega (arith, same, le))) refl
    in
    omega (arith, below_none last n c (omega (arith, le)), none)

below_once : (last n : ℕ) (c : Component) → most_below last n c ≤ 2 * most_of last c
below_once last zero c = omega arith
below_once last (suc n) c = elim (cases_Bool (nat_eq c.train n)) [
  | inl is ↦
      let own : most_own last n c ≡ 2 * most_of last c = rw is refl in
      omega (
        arith,
        own,
        below_none last n c (let same = eqb-true c.train n is in omega (arith, same)),
      )
  | inr not ↦
      let none : most_own last n c ≡ 0 = rw not refl in
      omega (arith, none, below_once last n c)
]

pub below_zero : (last : ℕ) (components : List Component) → most_together last components 0 ≡ 0
below_zero last components = none components
  where
    none : (components : List Component) → sum_by (most_below last 0) components ≡ 0
    none [] = refl
    none (c ∷ rest) = omega (arith, sum_by-cons (most_below last 0) c rest, none rest)

pub below_more : (last : ℕ) (components : List Component) (n : ℕ)
    → most_together last components (n + 1) ≡ most_together last components n + sum_by
    (most_own last n) components
below_more last components n =
    let next : suc n ≡ n + 1 = omega arith in
    subst (λ (m : ℕ). sum_by (most_below last m) components ≡ sum_by (most_below last n) components
    + sum_by (most_own last n) components) next
    (sym (sum_plus (most_below last n) (most_own last n) components))

twice : (last : ℕ) (components : List Component)
    → sum_by (λ c. 2 * most_of last c) components ≡ 2 * sum_by (most_of last) components
twice last [] = refl
twice last (c ∷ rest) = rw (
  sum_by-cons (λ c. 2 * most_of last c) c rest,
  sum_by-cons (most_of last) c rest,
) (omega (arith, twice last rest))

pub below_fits : (problem : Problem) (n : ℕ)
    → most_together (horizon problem.trains) problem.components n < 2 ^ 64
below_fits problem n =
    let last = horizon problem.trains in
    omega (
      arith,
      sum_le (most_below last n) (λ c. 2 * most_of last c) problem.components
          (λ c. below_once last n c),
      twice last problem.components,
      problem.well_formed.costs_fit,
    )
