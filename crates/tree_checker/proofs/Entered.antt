-- When operations are entered, one operation left after another.
use Rattle.std.proofs.Common.{◌≡◌, ℕ, zero, suc, ◌+◌, ◌-◌, ◌*◌, ◌^◌, ◌<◌, ◌≤◌, ◌⊎◌, List, [], ◌∷◌, ◌++◌, length, take, get_or, set, replicate, Option, Some, None, refl, sym, ap, subst, ◌∙◌, inl, inr, arith}
use Rattle.std.specs.Prelude.{slice_get, slice_index, Contains, max, min, MatchOption}
use Rattle.std.proofs.lemmas.Bool.{cases_lt}
use Rattle.std.proofs.lemmas.Option.{none-some, same_Some}
use Rattle.std.proofs.lemmas.List.{length-set, take_more, take_all, get_or-set_same, get_or-set_other, get_or_past, length-replicate}
use Rattle.std.proofs.lemmas.List.Elements.{Contains-append_left, Contains-push, Contains-push_cases}
use Rattle.disp_model.specs.declared.train.Operation.{Operation}
use Rattle.disp_model.specs.Train.{next_of, duration_of, IsSuccessor}
use Rattle.disp_laws.proofs.RouteSearch.{within_train}
use Rattle.train_orders.specs.Orders.{IsOrder}
use Rattle.train_orders.proofs.Places.{contains_at, contains_none, same_number}
use Rattle.train_orders.proofs.Ordered.{contains_cases}
use Rattle.node_facts.specs.declared.demands.Demand.{Demand}
use Rattle.node_facts.specs.Ways.{MayGo, lesser}
use Rattle.route_marks.specs.Marks.{ArePlaces, sum_at}
use Rattle.node_facts.proofs.Placing.{falls, apart, place_within}
use Rattle.tree_checker.specs.TrainCosts.{Comes, EntersNexts, LeavesCosts, AreEntered, base_by}
use Rattle.tree_checker.proofs.Coming.{comes_more, comes_last}

-- ---- one step

-- what is kept is kept of an operation that there is
pub kept_within : (kept : List (Option ℕ)) (o x : ℕ) → sum_at kept o ≡ Some x → o < length kept
kept_within kept o x at = elim (cases_lt o (length kept)) [ inl lt ↦ lt | inr past ↦ absurd (none-some x (sym (get_or_past kept o None past) ∙ at)) ]

lesser_is : (number : Option ℕ) (time : ℕ) → (y : ℕ) × (lesser number (Some time) ≡ Some y) × (y ≤ time) × (((y ≡ time) ⊎ (number ≡ Some y)) × ((x : ℕ) → number ≡ Some x → y ≤ x))
lesser_is None time = (time, refl, omega arith, (inl refl, λ x e. absurd (none-some x e)))
lesser_is (Some n) time = (
  min n time,
  refl,
  omega arith,
  (
    elim (cases_lt n time) [ inl lt ↦ inr (let e : n ≡ min n time = omega (arith, lt) in ap (λ (x : ℕ). Some x) e) | inr ge ↦ inl (omega (arith, ge)) ],
    λ x e. omega (arith, same_Some n x e),
  ),
)

-- an operation that may come next is entered
pub enters_one : (places : List ℕ) (demands : List Demand) (o s time : ℕ) (old new : List (Option ℕ)) → s < length old → MayGo places demands o (Some s) → new ≡ set old s (lesser (sum_at old s) (Some time))
    → EntersNexts places demands o (s ∷ []) time old new
enters_one places demands o s time old new there may is = rw is (record {
  long = length-set old s value;
  sooner = λ p x at. elim (same_number p s) [
    | inl e ↦ (less.0, subst (λ (q : ℕ). sum_at (set old s value) q ≡ Some less.0) (sym e) own, less.3.1 x (subst (λ (q : ℕ). sum_at old q ≡ Some x) e at))
    | inr other ↦ (x, get_or-set_other old s p value None other ∙ at, omega arith)
  ];
  each = λ p among goes. elim (contains_cases s p [] among) [
    | inl e ↦ (less.0, subst (λ (q : ℕ). sum_at (set old s value) q ≡ Some less.0) e own, less.2)
    | inr none ↦ absurd (contains_none p none)
  ];
  only = λ p y at. elim (same_number p s) [
    | inr other ↦ inl (sym (get_or-set_other old s p value None other) ∙ at)
    | inl e ↦ here p y e (same_Some less.0 y (sym own ∙ subst (λ (q : ℕ). sum_at (set old s value) q ≡ Some y) e at)) less.3.0
  ];
})
  where
    value : Option ℕ
    value = lesser (sum_at old s) (Some time)

    less : (y : ℕ) × (value ≡ Some y) × (y ≤ time) × (((y ≡ time) ⊎ (sum_at old s ≡ Some y)) × ((x : ℕ) → sum_at old s ≡ Some x → y ≤ x))
    less = lesser_is (sum_at old s) time

    own : sum_at (set old s value) s ≡ Some less.0
    own = get_or-set_same old s value None there ∙ less.1

    here : (p y : ℕ) → p ≡ s → less.0 ≡ y → (less.0 ≡ time) ⊎ (sum_at old s ≡ Some less.0) → (sum_at old p ≡ Some y) ⊎ (Contains (s ∷ []) p × MayGo places demands o (Some p) × (y ≡ time))
    here p y e same (inl now) =
        inr (subst (λ (q : ℕ). Contains (s ∷ []) q × MayGo places demands o (Some q) × (y ≡ time)) (sym e) ((0, omega arith, refl), may, sym same ∙ now))
    here p y e same (inr before) = inl (subst (λ (q : ℕ). sum_at old q ≡ Some y) (sym e) (before ∙ ap (λ (n : ℕ). Some n) same))

-- one that may not is not
pub enters_not : (places : List ℕ) (demands : List Demand) (o s time : ℕ) (old : List (Option ℕ)) → (MayGo places demands o (Some s) → ⊥) → EntersNexts places demands o (s ∷ []) time old old
enters_not places demands o s time old not = record {
  long = refl;
  sooner = λ p x at. (x, at, omega arith);
  each = λ p among goes. elim (contains_cases s p [] among) [ inl e ↦ absurd (not (subst (λ (q : ℕ). MayGo places demands o (Some q)) (sym e) goes)) | inr none ↦ absurd (contains_none p none) ];
  only = λ p y at. inl at;
}

-- ---- all steps from an operation

pub enters_none : (places : List ℕ) (demands : List Demand) (o time : ℕ) (old : List (Option ℕ)) → EntersNexts places demands o [] time old old
enters_none places demands o time old = record { long = refl; sooner = λ p x at. (x, at, omega arith); each = λ p among goes. absurd (contains_none p among); only = λ p y at. inl at }

pub enters_more : (places : List ℕ) (demands : List Demand) (o time : ℕ) (nexts : List ℕ) (i d : ℕ) (old middle new : List (Option ℕ)) → i < length nexts → EntersNexts places demands o (take i nexts) time old middle
    → EntersNexts places demands o (get_or nexts i d ∷ []) time middle new → EntersNexts places demands o (take (i + 1) nexts) time old new
enters_more places demands o time nexts i d old middle new lt before step = rw (take_more nexts i d lt) (record {
  long = step.long ∙ before.long;
  sooner = λ p x at. let first = before.sooner p x at in let second = step.sooner p first.0 first.1 in (second.0, second.1, omega (arith, first.2, second.2));
  each = λ p among goes. elim (Contains-push_cases (take i nexts) s p among) [
    | inl early ↦ let first = before.each p early goes in let second = step.sooner p first.0 first.1 in (second.0, second.1, omega (arith, first.2, second.2))
    | inr e ↦ step.each p (0, omega arith, e) goes
  ];
  only = λ p y at. elim (step.only p y at) [
    | inr now ↦ inr (last p now.0, now.1, now.2)
    | inl earlier ↦ elim (before.only p y earlier) [ inl old ↦ inl old | inr early ↦ inr (front p early.0, early.1, early.2) ]
  ];
})
  where
    s : ℕ
    s = get_or nexts i d

    front : (p : ℕ) → Contains (take i nexts) p → Contains (take i nexts ++ s ∷ []) p
    front p there = Contains-append_left (take i nexts) (s ∷ []) p there

    last : (p : ℕ) → Contains (s ∷ []) p → Contains (take i nexts ++ s ∷ []) p
    last p there = elim (contains_cases s p [] there) [ inl e ↦ subst (λ (q : ℕ). Contains (take i nexts ++ s ∷ []) q) e (Contains-push (take i nexts) s) | inr none ↦ absurd (contains_none p none) ]

pub enters_all : (places : List ℕ) (demands : List Demand) (o time : ℕ) (nexts : List ℕ) (i : ℕ) (old new : List (Option ℕ)) → length nexts ≤ i → EntersNexts places demands o (take i nexts) time old new → EntersNexts places demands o nexts time old new
enters_all places demands o time nexts i old new past is = subst (λ (l : List ℕ). EntersNexts places demands o l time old new) (take_all i nexts past) is

-- ---- the operations left so far

-- those are left that stand within so many of the last places of the order
pub record AreLeft (train : List Operation) (order places : List ℕ) (demands : List Demand) (bases : List ℕ) (e i : ℕ) (entered : List (Option ℕ)) : Type 0 where
  pub long : length entered ≡ length train
  pub begun : sum_at entered e ≡ Some 0
  pub there : (o x : ℕ) → sum_at entered o ≡ Some x → (rest : List ℕ) × Comes train places demands (base_by bases) e 0 rest o (max x (base_by bases o))
  pub left : (p n : ℕ) (rest : List ℕ) (s : ℕ) → p < length train → length order ≤ get_or places p 0 + i → Comes train places demands (base_by bases) e 0 rest p n → IsSuccessor train p s → MayGo places demands p (Some s)
      → (y : ℕ) × (sum_at entered s ≡ Some y) × (y ≤ n + duration_of train p)
  pub small : (o x : ℕ) → sum_at entered o ≡ Some x → x ≤ 2 ^ 127 + i * 2 ^ 33

-- where all operations before one are left it was entered in time
pub entered_in_time : (train : List Operation) (order places : List ℕ) (demands : List Demand) (bases : List ℕ) (e i : ℕ) (entered : List (Option ℕ)) → IsOrder train order → ArePlaces train order places → AreLeft train order places demands bases e i entered
    → (o n : ℕ) (rest : List ℕ) → length order ≤ get_or places o 0 + i + 1 → Comes train places demands (base_by bases) e 0 rest o n → (x : ℕ) × (sum_at entered o ≡ Some x) × (max x (base_by bases o) ≤ n)
entered_in_time train order places demands bases e i entered ordered placed before o n rest late comes = elim (comes_last train places demands (base_by bases) e 0 rest o n comes) [
  | inl first ↦
      let same = ap (base_by bases) first.0 in
      (0, subst (λ (p : ℕ). sum_at entered p ≡ Some 0) first.0 before.begun, omega (arith, first.1, same))
  | inr last ↦
      let within = within_train train last.before o last.next in
      let above = falls train order places last.before o ordered placed within last.next in
      let found = before.left last.before last.reached last.front o within (omega (arith, above, late)) last.comes last.next last.may in
      (found.0, found.1, omega (arith, found.2, last.time_is))
]

pub none_left : (train : List Operation) (order places : List ℕ) (demands : List Demand) (bases : List ℕ) (e : ℕ) (empty : List (Option ℕ)) → IsOrder train order → ArePlaces train order places → e < length train → empty ≡ replicate (length train) None
    → AreLeft train order places demands bases e 0 (set empty e (Some 0))
none_left train order places demands bases e empty ordered placed there none = record {
  long = length-set empty e (Some 0) ∙ long;
  begun = own;
  there = λ o x at. elim (same_number o e) [
    | inl same ↦
        let zero_is : 0 ≡ x = same_Some 0 x (sym own ∙ subst (λ (q : ℕ). sum_at (set empty e (Some 0)) q ≡ Some x) same at) in
        let base = ap (base_by bases) same in
        ([], (sym same, omega (arith, zero_is, base)))
    | inr other ↦ absurd (nowhere o x other at)
  ];
  left = λ p n rest s within late comes next may. absurd (omega (arith, late, place_within train order places p ordered placed within));
  small = λ o x at. elim (same_number o e) [
    | inl same ↦ let zero_is : 0 ≡ x = same_Some 0 x (sym own ∙ subst (λ (q : ℕ). sum_at (set empty e (Some 0)) q ≡ Some x) same at) in omega (arith, zero_is)
    | inr other ↦ absurd (nowhere o x other at)
  ];
}
  where
    long : length empty ≡ length train
    long = ap (λ (l : List (Option ℕ)). length l) none ∙ length-replicate (length train) None

    own : sum_at (set empty e (Some 0)) e ≡ Some 0
    own = get_or-set_same empty e (Some 0) None (omega (arith, there, long))

    nothing : (k o n : ℕ) → sum_at (replicate k None) o ≡ Some n → ⊥
    nothing zero o n at = none-some n at
    nothing (suc k) zero n at = none-some n at
    nothing (suc k) (suc o) n at = nothing k o n at

    nowhere : (o x : ℕ) → (o ≡ e → ⊥) → sum_at (set empty e (Some 0)) o ≡ Some x → ⊥
    nowhere o x other at = nothing (length train) o x (subst (λ (l : List (Option ℕ)). sum_at l o ≡ Some x) none (sym (get_or-set_other empty e o (Some 0) None other) ∙ at))

-- ---- one more operation

pub left_more : (train : List Operation) (order places : List ℕ) (demands : List Demand) (bases : List ℕ) (e i op : ℕ) (entered after : List (Option ℕ)) → IsOrder train order → ArePlaces train order places → i < length order
    → slice_get order (length order - 1 - i) ≡ Some op → ((o : ℕ) → slice_index bases o ≤ 2 ^ 127) → duration_of train op < 2 ^ 32 → AreLeft train order places demands bases e i entered → LeavesCosts train places demands bases op entered after
    → AreLeft train order places demands bases e (i + 1) after
left_more train order places demands bases e i op entered after ordered placed lt at small short before leaves = by (sum_at entered op) refl leaves
  where
    there : op < length train
    there = ordered.is_behind.within op (contains_at order op (length order - 1 - i) at)

    place : get_or places op 0 ≡ length order - 1 - i
    place = placed.at (length order - 1 - i) op at

    -- an operation that is left by now is left before, or is this one
    now_or_before : (p : ℕ) → p < length train → length order ≤ get_or places p 0 + (i + 1) → (length order ≤ get_or places p 0 + i) ⊎ (p ≡ op)
    now_or_before p within late = elim (cases_lt (get_or places p 0 + i) (length order)) [
      | inl lt ↦ inr (apart train order places p op ordered placed within there (omega (arith, lt, late, place)))
      | inr ge ↦ inl ge
    ]

    in_time : (n : ℕ) (rest : List ℕ) → Comes train places demands (base_by bases) e 0 rest op n → (x : ℕ) × (sum_at entered op ≡ Some x) × (max x (base_by bases op) ≤ n)
    in_time n rest comes = entered_in_time train order places demands bases e i entered ordered placed before op n rest (omega (arith, place, lt)) comes

    by : (found : Option ℕ) → sum_at entered op ≡ found → MatchOption found (after ≡ entered) (λ x. EntersNexts places demands op (next_of train op) (max x (slice_index bases op) + duration_of train op) entered after)
        → AreLeft train order places demands bases e (i + 1) after
    by None none same = rw same (record {
      long = before.long;
      begun = before.begun;
      there = before.there;
      left = λ p n rest s within late comes next may. elim (now_or_before p within late) [
        | inl early ↦ before.left p n rest s within early comes next may
        | inr is ↦ let found = in_time n rest (subst (λ (q : ℕ). Comes train places demands (base_by bases) e 0 rest q n) is comes) in absurd (none-some found.0 (sym none ∙ found.1))
      ];
      small = λ o x at. omega (arith, before.small o x at);
    })
    by (Some x) is enters = record {
      long = enters.long ∙ before.long;
      begun = let first = enters.sooner e 0 before.begun in let none : first.0 ≡ 0 = omega (arith, first.2) in first.1 ∙ ap (λ (n : ℕ). Some n) none;
      there = λ o y at. elim (enters.only o y at) [
        | inl earlier ↦ before.there o y earlier
        | inr now ↦
            let way = before.there op x is in
            let more = comes_more train places demands (base_by bases) e 0 way.0 op (max x (base_by bases op)) o way.1 now.0 now.1 in
            let same : max (max x (base_by bases op) + duration_of train op) (base_by bases o) ≡ max y (base_by bases o) = omega (arith, now.2) in
            (way.0 ++ o ∷ [], subst (Comes train places demands (base_by bases) e 0 (way.0 ++ o ∷ []) o) same more)
      ];
      left = λ p n rest s within late comes next may. elim (now_or_before p within late) [
        | inl early ↦ let first = before.left p n rest s within early comes next may in let second = enters.sooner s first.0 first.1 in (second.0, second.1, omega (arith, first.2, second.2))
        | inr same ↦ own p n rest s (subst (λ (q : ℕ). Comes train places demands (base_by bases) e 0 rest q n) same comes) (subst (λ (q : ℕ). IsSuccessor train q s) same next)
            (subst (λ (q : ℕ). MayGo places demands q (Some s)) same may) (ap (duration_of train) same)
      ];
      small = λ o y at. elim (enters.only o y at) [
        | inl earlier ↦ omega (arith, before.small o y earlier)
        | inr now ↦ omega (arith, now.2, before.small op x is, small op, short)
      ];
    }
      where
        own : (p n : ℕ) (rest : List ℕ) (s : ℕ) → Comes train places demands (base_by bases) e 0 rest op n → IsSuccessor train op s → MayGo places demands op (Some s) → duration_of train p ≡ duration_of train op
            → (y : ℕ) × (sum_at after s ≡ Some y) × (y ≤ n + duration_of train p)
        own p n rest s comes next may lasts =
            let found = in_time n rest comes in
            let same : found.0 ≡ x = same_Some found.0 x (sym found.1 ∙ is) in
            let first = enters.each s next may in
            (first.0, first.1, omega (arith, first.2, found.2, same, lasts))

pub left_all : (train : List Operation) (order places : List ℕ) (demands : List Demand) (bases : List ℕ) (e i : ℕ) (entered : List (Option ℕ)) → IsOrder train order → ArePlaces train order places → length order ≤ i
    → AreLeft train order places demands bases e i entered → AreEntered train places demands (base_by bases) e entered
left_all train order places demands bases e i entered ordered placed past before = record {
  there = before.there;
  least = λ o n rest comes. entered_in_time train order places demands bases e i entered ordered placed before o n rest (omega (arith, past)) comes;
}
