-- Stops by time, train and operation.
use Rattle.std.proofs.Common.{◌≡◌, ℕ, ◌-◌, List, length, get_or, reverse, Bool, true, refl, subst, arith, inl, inr, Less, Equal}
use Rattle.std.specs.Prelude.{AllPairs}
use Rattle.std.specs.declared.cmp.Ordering.{Ordering}
use Rattle.std.specs.Ordering.{nat_cmp, ordering_then, is_lt}
use Rattle.std.specs.Cmp.{IsTotalOrder, IsStrictWeakOrder, nat_cmp_is}
use Rattle.std.specs.List.Sorted.{IsSortedBy}
use Rattle.std.proofs.lemmas.Bool.{both_ways}
use Rattle.std.proofs.lemmas.Cmp.{nat_cmp_total, then_total}
use Rattle.std.proofs.lemmas.List.{get_or-reverse, length-reverse}
use Rattle.std.proofs.lemmas.List.Sorted.{ranks_by, sorted_far}
use Rattle.disp_model.specs.Earliest.{ComesBefore}
use Rattle.plan_builder.specs.declared.stop.Stop.{Stop}

abbrev pub stop_cmp : Stop → Stop → Ordering
stop_cmp s t = ordering_then (ordering_then (nat_cmp s.event.time t.event.time) (nat_cmp s.event.train t.event.train)) (nat_cmp s.event.operation t.event.operation)

by_key : (key : Stop → ℕ) → IsTotalOrder (λ s t. nat_cmp (key s) (key t))
by_key key = record {
  antisymm = λ x y. nat_cmp_total.antisymm (key x) (key y);
  trans = λ x y z. nat_cmp_total.trans (key x) (key y) (key z);
  congr = λ x y z. nat_cmp_total.congr (key x) (key y) (key z);
}

abbrev pub is_before : Stop → Stop → Bool
is_before s t = is_lt (stop_cmp s t)

stop_order : IsStrictWeakOrder is_before
stop_order = ranks_by (then_total (then_total (by_key (λ s. s.event.time)) (by_key (λ s. s.event.train))) (by_key (λ s. s.event.operation))) (λ s. s)

before_is_less : (s t : Stop) → ComesBefore s.event t.event → is_before s t ≡ true
before_is_less s t (inl time) =
    let less : Less ≡ nat_cmp s.event.time t.event.time = nat_cmp_is s.event.time t.event.time Less time in rw (← less) refl
before_is_less s t (inr (time, inl train)) =
    let alike : Equal ≡ nat_cmp s.event.time t.event.time = nat_cmp_is s.event.time t.event.time Equal time in
    let less : Less ≡ nat_cmp s.event.train t.event.train = nat_cmp_is s.event.train t.event.train Less train in
    rw (← alike, ← less) refl
before_is_less s t (inr (time, inr (train, operation))) =
    let alike : Equal ≡ nat_cmp s.event.time t.event.time = nat_cmp_is s.event.time t.event.time Equal time in
    let own : Equal ≡ nat_cmp s.event.train t.event.train = nat_cmp_is s.event.train t.event.train Equal train in
    let less : Less ≡ nat_cmp s.event.operation t.event.operation = nat_cmp_is s.event.operation t.event.operation Less operation in
    rw (← alike, ← own, ← less) refl

-- the last first
pub falls : (stops : List Stop) → IsSortedBy is_before stops → AllPairs (λ s t. ComesBefore s.event t.event → ⊥) (reverse stops)
falls stops up i j d less within before =
    let long = length-reverse stops in
    let one = get_or-reverse stops i d (omega (arith, less, within, long)) in
    let other = get_or-reverse stops j d (omega (arith, within, long)) in
    let far = sorted_far is_before stop_order stops up (length stops - 1 - j) (length stops - 1 - i) d (omega (arith, less)) (omega (arith, less, within, long)) in
    both_ways (is_before (get_or stops (length stops - 1 - i) d) (get_or stops (length stops - 1 - j) d)) far
    (before_is_less (get_or stops (length stops - 1 - i) d) (get_or stops (length stops - 1 - j) d) (subst (λ (x : Stop). ComesBefore (get_or stops (length stops - 1 - i) d).event x.event) other (subst (λ (x : Stop). ComesBefore x.event (get_or (reverse stops) j d).event) one before)))
