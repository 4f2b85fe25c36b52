-- How many trains have no allowed route.
use Rattle.std.proofs.Common.{◌≡◌, ℕ, zero, suc, ◌+◌, ◌-◌, ◌<◌, ◌≤◌, List, [], ◌∷◌, length, get_or, set, Option, Some, None, true, false, nat_lt, refl, sym, ap, arith}
use Rattle.std.specs.Prelude.{IsTrue, IsSome, ◌↔◌, slice_get, sum_by}
use Rattle.std.specs.Option.{option_map_or}
use Rattle.std.proofs.lemmas.Bool.{false≢true, lt-ltb}
use Rattle.std.proofs.lemmas.Option.{slice_get_within}
use Rattle.std.proofs.lemmas.List.{length-set}
use Rattle.std.proofs.lemmas.List.Sums.{sum_by-cons, sum_by-set}
use Rattle.disp_model.specs.Node.{Node}
use Rattle.disp_model.specs.Routes.{HasRoute, HasNoRoute}
use Rattle.node_facts.specs.declared.train.TrainKnowledge.{TrainKnowledge}
use Rattle.route_marks.specs.Marks.{sum_at}
use Rattle.node_facts.specs.Known.{IsKnown, without_route}
use Rattle.node_facts.specs.Orders.{AreKnown}
use Rattle.node_facts.proofs.Knowing.{left_is}

-- ---- one train

abbrev counted : Option ℕ → ℕ
counted sum = option_map_or (λ n. 0) sum 1

zero_some : (sum : Option ℕ) → counted sum ≡ 0 → IsSome sum
zero_some None e = absurd (omega (arith, e))
zero_some (Some n) e = refl

some_zero : (sum : Option ℕ) → 0 < counted sum → IsSome sum → ⊥
some_zero None lt some = false≢true some
some_zero (Some n) lt some = omega (arith, lt)

at_most_one : (sum : Option ℕ) → counted sum ≤ 1
at_most_one None = omega arith
at_most_one (Some n) = omega arith

has_route : (node : Node) (t : ℕ) (known : TrainKnowledge) → IsKnown node t known → without_route known ≡ 0 → HasRoute node t
has_route node t known is none = (left_is node t known true is (λ _. zero_some (sum_at known.sums.items known.entry) none, λ _. refl)).0 refl

has_none : (node : Node) (t : ℕ) (known : TrainKnowledge) → IsKnown node t known → 0 < without_route known → HasRoute node t → ⊥
has_none node t known is some route =
    false≢true ((left_is node t known false is (λ h. absurd (false≢true h), λ left. absurd (some_zero (sum_at known.sums.items known.entry) some left))).1 route)

-- ---- sums over lists

module _ {X : Type 0} (f : X → ℕ) where
  -- where a sum is 0 each of its terms is
  all_zero : (xs : List X) → sum_by f xs ≡ 0 → (i : ℕ) → i < length xs → (x : X) × (slice_get xs i ≡ Some x) × (f x ≡ 0)
  all_zero [] none i lt = absurd (omega (arith, lt))
  all_zero (x ∷ xs) none zero lt = (x, refl, omega (arith, none, sum_by-cons f x xs))
  all_zero (x ∷ xs) none (suc i) lt = all_zero xs (omega (arith, none, sum_by-cons f x xs)) i (omega (arith, lt))

  -- where it is more, some term is
  some_more : (xs : List X) → 0 < sum_by f xs → (i : ℕ) × (x : X) × (slice_get xs i ≡ Some x) × (0 < f x)
  some_more [] some = absurd (omega (arith, some))
  some_more (x ∷ xs) some = by (f x) refl (λ more. some_more xs more)
    where
      by : (n : ℕ) → f x ≡ n → (0 < sum_by f xs → (i : ℕ) × (y : X) × (slice_get xs i ≡ Some y) × (0 < f y)) → (i : ℕ) × (y : X) × (slice_get (x ∷ xs) i ≡ Some y) × (0 < f y)
      by zero e more = let later = more (omega (arith, some, e, sum_by-cons f x xs)) in (suc later.0, later.1, later.2, later.3)
      by (suc n) e more = (0, x, refl, omega (arith, e))

  few : ((x : X) → f x ≤ 1) → (xs : List X) → sum_by f xs ≤ length xs
  few one [] = omega arith
  few one (x ∷ xs) = omega (arith, one x, few one xs, sum_by-cons f x xs)

-- ---- all trains

pub stranded_is : (node : Node) (trains : List TrainKnowledge) (count : ℕ) → AreKnown node trains → count ≡ sum_by without_route trains → IsTrue (nat_lt 0 count) ↔ HasNoRoute node
stranded_is node trains zero are is = (
  λ h. absurd (false≢true h),
  λ none. let there = all_zero without_route trains (sym is) none.0 (omega (arith, none.1, are.long)) in absurd (none.2 (has_route node none.0 there.0 (are.each none.0 there.0 there.1) there.2)),
)
stranded_is node trains (suc n) are is = (
  λ _. let there = some_more without_route trains (omega (arith, is)) in (there.0, omega (arith, slice_get_within trains there.0 there.1 there.2, are.long), has_none node there.0 there.1 (are.each there.0 there.1 there.2) there.3),
  λ _. lt-ltb 0 (suc n) (omega arith),
)

-- what the number of the others and of the one that is put in place of another add up to
pub stranded_set : (trains : List TrainKnowledge) (t count : ℕ) (before known : TrainKnowledge) → t < length trains → before ≡ get_or trains t before → count ≡ sum_by without_route trains
    → count - without_route before + without_route known ≡ sum_by without_route (set trains t known)
stranded_set trains t count before known lt at is =
    let sums = sum_by-set without_route trains t known before lt in
    let same = ap without_route at in
    let part = part_of trains t before lt in
    omega (arith, sums, same, is, part)
  where
    part_of : (xs : List TrainKnowledge) (i : ℕ) (d : TrainKnowledge) → i < length xs → without_route (get_or xs i d) ≤ sum_by without_route xs
    part_of [] i d lt = absurd (omega (arith, lt))
    part_of (x ∷ xs) zero d lt = omega (arith, sum_by-cons without_route x xs)
    part_of (x ∷ xs) (suc i) d lt = omega (arith, sum_by-cons without_route x xs, part_of xs i d (omega (arith, lt)))

-- there are no more of them than trains
pub stranded_few : (trains : List TrainKnowledge) (t : ℕ) (known : TrainKnowledge) → sum_by without_route (set trains t known) ≤ length trains
stranded_few trains t known = omega (arith, few without_route (λ k. at_most_one (sum_at k.sums.items k.entry)) (set trains t known), length-set trains t known)
