-- What is held of the operations of an order, one after another.
use Rattle.std.proofs.Common.{◌≡◌, ℕ, zero, suc, ◌+◌, ◌<◌, ◌≤◌, ◌⊎◌, List, [], ◌∷◌, ◌++◌, length, take, get_or, set, replicate, cond, Option, Some, None, Bool, true, false, refl, sym, ap, subst, ◌∙◌, inl, inr, arith}
use Rattle.std.specs.Prelude.{nat_lt, slice_get, Contains, IsTrue, ◌↔◌}
use Rattle.std.proofs.lemmas.Bool.{cases_Bool, false≢true, lt-ltb}
use Rattle.std.proofs.lemmas.Option.{none-some, same_Some, slice_get-get_or}
use Rattle.std.proofs.lemmas.List.{length-set, length_push, take_more, take_all, get_or_default}
use Rattle.std.proofs.lemmas.List.Elements.{Contains-append_left, Contains-push, Contains-push_cases}
use Rattle.disp_model.specs.declared.train.Operation.{Operation}
use Rattle.disp_model.specs.Train.{next_of, IsSuccessor}
use Rattle.route_sets.specs.declared.asks.Ask.{Ask}
use Rattle.route_sets.specs.Asks.{ask_at, free}
use Rattle.train_orders.specs.Orders.{IsBehind}
use Rattle.route_sets.specs.Sweeps.{AskMayGo, IsWantedAsk, IsWayLeft, HasWay, IsHeld, counted, CanEnd, IsKept, IsRow, AreRows, IsSwept}
use Rattle.train_orders.proofs.Searching.{next_at}
use Rattle.train_orders.proofs.Places.{contains_at, contains_none, get_push_cases, set_at, set_elsewhere, same_number}
use Rattle.train_orders.proofs.Ordered.{contains_here, contains_later, contains_cases, way_inside}

-- ---- counts

counted_free : (ask : Ask) (count : ℕ) → ask.wanted ≡ false → counted ask count ≡ count
counted_free ask count e = rw e refl

counted_wanted : (ask : Ask) (count : ℕ) → ask.wanted ≡ true → counted ask count ≡ count + 1
counted_wanted ask count e = rw e refl

counted_within : (ask : Ask) (count : ℕ) → (count ≤ counted ask count) × (counted ask count ≤ count + 1)
counted_within ask count = elim (cases_Bool ask.wanted) [
  | inl e ↦ rw e (omega arith, omega arith)
  | inr e ↦ rw e (omega arith, omega arith)
]

-- ---- rows

-- a row has an operation where it is not empty
pub some_there : (row : List ℕ) (E : Type 0) → (E → ⊥) → (IsTrue (nat_lt 0 (length row)) → E ⊎ ((s : ℕ) × Contains row s)) × (E ⊎ ((s : ℕ) × Contains row s) → IsTrue (nat_lt 0 (length row)))
some_there [] E never = (λ e. absurd (false≢true e), λ h. elim h [ inl end ↦ absurd (never end) | inr on ↦ absurd (contains_none on.0 on.1) ])
some_there (s ∷ row) E never = (λ e. inr (s, contains_here s row), λ h. lt-ltb 0 (length (s ∷ row)) (omega arith))

-- ---- a way of the next operation

pub record IsNext (train : List Operation) (asks : List Ask) (order : List ℕ) (i o : ℕ) (held : List (Option ℕ)) (count : ℕ) : Type 0 where
  pub behind : IsBehind train order
  pub here : slice_get order i ≡ Some o
  pub before : IsHeld train asks (take i order) held count

not_done : (train : List Operation) (asks : List Ask) (order : List ℕ) (i o : ℕ) (held : List (Option ℕ)) (count : ℕ) → IsNext train asks order i o held count → (q : ℕ) → Contains (take i order) q → q ≡ o → ⊥
not_done train asks order i o held count next q done e = next.behind.once i o next.here (subst (λ (x : ℕ). Contains (take i order) x) e done)

within : (train : List Operation) (asks : List Ask) (order : List ℕ) (i o : ℕ) (held : List (Option ℕ)) (count : ℕ) → IsNext train asks order i o held count → o < length train
within train asks order i o held count next = next.behind.within o (contains_at order o i next.here)

-- the row of the next operation: those of its successors that go on with all that is wanted
pub row_is : (train : List Operation) (asks : List Ask) (order : List ℕ) (i o : ℕ) (held : List (Option ℕ)) (count : ℕ) (operation : Operation) (row : List ℕ) → IsNext train asks order i o held count → next_of train o ≡ operation.next
    → ((s : ℕ) → Contains row s ↔ (Contains operation.next s × IsKept (ask_at asks o) held count s)) → IsRow train asks (take i order) o row
row_is train asks order i o held count operation row next is says s = (
  λ there. let kept = (says s).0 there in (subst (λ (l : List ℕ). Contains l s) (sym is) kept.0, kept.1.may, (next.before.sound s kept.1.holds).1),
  λ h. (says s).1 (subst (λ (l : List ℕ). Contains l s) is h.0, record { may = h.1; holds = next.before.complete s (next.behind.behind i o s next.here h.0) h.2 }),
)

way_ends : (train : List Operation) (asks : List Ask) (order : List ℕ) (i o : ℕ) (held : List (Option ℕ)) (count : ℕ) (operation : Operation) → IsNext train asks order i o held count → next_of train o ≡ operation.next
    → CanEnd operation (ask_at asks o) count → HasWay train asks (take i order ++ o ∷ []) o
way_ends train asks order i o held count operation next is end = (
  [],
  record {
    goes = record { there = within train asks order i o held count next; last = is ∙ end.last };
    keeps = end.may;
    wanted = λ q done wanted. elim (Contains-push_cases (take i order) o q done) [
      | inl before ↦ absurd (false≢true (sym (next.before.none end.none q before) ∙ wanted))
      | inr e ↦ subst (λ (x : ℕ). Contains (o ∷ []) x) e (contains_here o [])
    ];
  },
)

way_goes_on : (train : List Operation) (asks : List Ask) (order : List ℕ) (i o s : ℕ) → IsSuccessor train o s → AskMayGo (ask_at asks o) s → HasWay train asks (take i order) s → HasWay train asks (take i order ++ o ∷ []) o
way_goes_on train asks order i o s goes may (rest, way) = (
  s ∷ rest,
  record {
    goes = (goes, way.goes);
    keeps = (may, way.keeps);
    wanted = λ q done wanted. elim (Contains-push_cases (take i order) o q done) [
      | inl before ↦ contains_later o q (s ∷ rest) (way.wanted q before wanted)
      | inr e ↦ subst (λ (x : ℕ). Contains (o ∷ s ∷ rest) x) e (contains_here o (s ∷ rest))
    ];
  },
)

zero_or_more : (n : ℕ) → (n ≡ 0) ⊎ (0 < n)
zero_or_more zero = inl refl
zero_or_more (suc n) = inr (omega arith)

can_by_way : (train : List Operation) (asks : List Ask) (order : List ℕ) (i o : ℕ) (held : List (Option ℕ)) (count : ℕ) (operation : Operation) (row : List ℕ) → IsNext train asks order i o held count → next_of train o ≡ operation.next
    → IsRow train asks (take i order) o row → (rest : List ℕ) → IsWayLeft train asks (take i order ++ o ∷ []) o rest → CanEnd operation (ask_at asks o) count ⊎ ((s : ℕ) × Contains row s)
can_by_way train asks order i o held count operation row next is rows [] way = inl (record { last = sym is ∙ way.goes.last; may = way.keeps; none = none (zero_or_more count) })
  where
    none : ((count ≡ 0) ⊎ (0 < count)) → count ≡ 0
    none (inl e) = e
    none (inr more) =
        let found = next.before.some more in
        absurd (elim (contains_cases o found.0 [] (way.wanted found.0 (Contains-append_left (take i order) (o ∷ []) found.0 found.1) found.2)) [ inl e ↦ not_done train asks order i o held count next found.0 found.1 (sym e) | inr later ↦ contains_none found.0 later ])
can_by_way train asks order i o held count operation row next is rows (s ∷ rest) way =
    inr (
      s,
      (rows s).1 (
        way.goes.0,
        way.keeps.0,
        (
          rest,
          record {
            goes = way.goes.1;
            keeps = way.keeps.1;
            wanted = λ q done wanted. elim (contains_cases o q (s ∷ rest) (way.wanted q (Contains-append_left (take i order) (o ∷ []) q done) wanted)) [ inl e ↦ absurd (not_done train asks order i o held count next q done (sym e)) | inr later ↦ later ];
          },
        ),
      ),
    )

pub way_holds : (train : List Operation) (asks : List Ask) (order : List ℕ) (i o : ℕ) (held : List (Option ℕ)) (count : ℕ) (operation : Operation) (row : List ℕ) (holds : Bool) → IsNext train asks order i o held count → next_of train o ≡ operation.next
    → IsRow train asks (take i order) o row → (IsTrue holds ↔ (CanEnd operation (ask_at asks o) count ⊎ ((s : ℕ) × Contains row s))) → IsTrue holds ↔ HasWay train asks (take i order ++ o ∷ []) o
way_holds train asks order i o held count operation row holds next is rows says = (
  λ true. elim (says.0 true) [
    | inl end ↦ way_ends train asks order i o held count operation next is end
    | inr on ↦ let step = (rows on.0).0 on.1 in way_goes_on train asks order i o on.0 step.0 step.1 step.2
  ],
  λ way. says.1 (can_by_way train asks order i o held count operation row next is rows way.0 way.1),
)

-- ---- what is held then

held_value : (holds : Bool) (count k : ℕ) → cond holds (Some count) None ≡ Some k → (holds ≡ true) × (count ≡ k)
held_value true count k e = (refl, same_Some count k e)
held_value false count k e = absurd (none-some k e)

held_true : (holds : Bool) (count : ℕ) → holds ≡ true → cond holds (Some count) None ≡ Some count
held_true holds count e = rw e refl

pub held_more : (train : List Operation) (asks : List Ask) (order : List ℕ) (i o : ℕ) (held : List (Option ℕ)) (count : ℕ) (holds : Bool) → IsNext train asks order i o held count
    → (IsTrue holds ↔ HasWay train asks (take i order ++ o ∷ []) o)
    → IsHeld train asks (take i order ++ o ∷ []) (set held o (cond holds (Some (counted (ask_at asks o) count)) None)) (counted (ask_at asks o) count)
held_more train asks order i o held count holds next says = record {
  long = length-set held o value ∙ next.before.long;
  fits = omega (arith, next.before.fits, bounds.1, length_push done o);
  some = λ more. elim (cases_Bool ask.wanted) [
    | inr not_wanted ↦ let found = next.before.some (omega (arith, more, counted_free ask count not_wanted)) in (found.0, Contains-append_left done (o ∷ []) found.0 found.1, found.2)
    | inl wanted ↦ (o, Contains-push done o, wanted)
  ];
  none = λ zeroes q there. elim (Contains-push_cases done o q there) [
    | inl before ↦ next.before.none (omega (arith, zeroes, bounds.0)) q before
    | inr e ↦ elim (cases_Bool ask.wanted) [
      | inr not_wanted ↦ subst (λ (x : ℕ). (ask_at asks x).wanted ≡ false) e not_wanted
      | inl wanted ↦ absurd (omega (arith, zeroes, counted_wanted ask count wanted))
    ]
  ];
  at_most = λ p k is. elim (same_number p o) [
    | inl e ↦ omega (arith, (own p k e is).1)
    | inr other ↦ omega (arith, next.before.at_most p k (sym (set_elsewhere held o p value other) ∙ is), bounds.0)
  ];
  sound = λ p is. elim (same_number p o) [
    | inl e ↦ (subst (λ (x : ℕ). Contains (done ++ o ∷ []) x) (sym e) (Contains-push done o), subst (λ (x : ℕ). HasWay train asks (done ++ o ∷ []) x) (sym e) (says.0 (own p (counted ask count) e is).0))
    | inr other ↦ older p (sym (set_elsewhere held o p value other) ∙ is)
  ];
  complete = λ p there way. elim (Contains-push_cases done o p there) [
    | inr e ↦ subst (λ (x : ℕ). slice_get (set held o value) x ≡ Some (Some (counted ask count))) e (set_at held o value inside ∙ ap Some (held_true holds (counted ask count) (says.1 (subst (λ (x : ℕ). HasWay train asks (done ++ o ∷ []) x) (sym e) way))))
    | inl before ↦ set_elsewhere held o p value (fresh p before) ∙ kept p before way
  ];
}
  where
    done : List ℕ
    done = take i order

    ask : Ask
    ask = ask_at asks o

    bounds : (count ≤ counted ask count) × (counted ask count ≤ count + 1)
    bounds = counted_within ask count

    value : Option ℕ
    value = cond holds (Some (counted ask count)) None

    fresh : (q : ℕ) → Contains done q → q ≡ o → ⊥
    fresh = not_done train asks order i o held count next

    inside : o < length held
    inside = omega (arith, within train asks order i o held count next, next.before.long)

    own : (p k : ℕ) → p ≡ o → slice_get (set held o value) p ≡ Some (Some k) → (holds ≡ true) × (counted ask count ≡ k)
    own p k e is = held_value holds (counted ask count) k (same_Some value (Some k) (sym (set_at held o value inside) ∙ subst (λ (x : ℕ). slice_get (set held o value) x ≡ Some (Some k)) e is))

    older : (p : ℕ) → slice_get held p ≡ Some (Some (counted ask count)) → Contains (done ++ o ∷ []) p × HasWay train asks (done ++ o ∷ []) p
    older p is = elim (cases_Bool ask.wanted) [
      | inl wanted ↦ absurd (omega (arith, next.before.at_most p (counted ask count) is, counted_wanted ask count wanted))
      | inr not_wanted ↦ more not_wanted (next.before.sound p (subst (λ (k : ℕ). slice_get held p ≡ Some (Some k)) (counted_free ask count not_wanted) is))
    ]
      where
        more : ask.wanted ≡ false → (Contains done p × HasWay train asks done p) → Contains (done ++ o ∷ []) p × HasWay train asks (done ++ o ∷ []) p
        more not_wanted (there, way) = (
          Contains-append_left done (o ∷ []) p there,
          (
            way.0,
            record {
              goes = way.1.goes;
              keeps = way.1.keeps;
              wanted = λ q at wanted. elim (Contains-push_cases done o q at) [ inl before ↦ way.1.wanted q before wanted | inr e ↦ absurd (false≢true (sym not_wanted ∙ subst (λ (x : ℕ). IsWantedAsk asks x) (sym e) wanted)) ];
            },
          ),
        )

    kept : (p : ℕ) → Contains done p → HasWay train asks (done ++ o ∷ []) p → slice_get held p ≡ Some (Some (counted ask count))
    kept p there way = elim (cases_Bool ask.wanted) [
      | inl wanted ↦ absurd (fresh o (way_inside train order i p way.0 next.behind there way.1.goes o (way.1.wanted o (Contains-push done o) wanted)) refl)
      | inr not_wanted ↦ subst (λ (k : ℕ). slice_get held p ≡ Some (Some k)) (sym (counted_free ask count not_wanted)) (next.before.complete p there (
        way.0,
        record {
          goes = way.1.goes;
          keeps = way.1.keeps;
          wanted = λ q at wanted. way.1.wanted q (Contains-append_left done (o ∷ []) q at) wanted;
        },
      ))
    ]

pub none_held : (train : List Operation) (asks : List Ask) (held : List (Option ℕ)) → length held ≡ length train → held ≡ replicate (length train) None → IsHeld train asks [] held 0
none_held train asks held long is = record {
  long = long;
  fits = omega arith;
  some = λ more. absurd (omega (arith, more));
  none = λ zeroes q there. absurd (contains_none q there);
  at_most = λ p k here. absurd (nothing (length train) p k (subst (λ (l : List (Option ℕ)). slice_get l p ≡ Some (Some k)) is here));
  sound = λ p here. absurd (nothing (length train) p 0 (subst (λ (l : List (Option ℕ)). slice_get l p ≡ Some (Some 0)) is here));
  complete = λ p there way. absurd (contains_none p there);
}
  where
    nothing : (n p k : ℕ) → slice_get (replicate n None) p ≡ Some (Some k) → ⊥
    nothing zero p k here = none-some (Some k) here
    nothing (suc n) zero k here = none-some k (same_Some None (Some k) here)
    nothing (suc n) (suc p) k here = nothing n p k here

-- ---- the rows so far, and one more

pub rows_more : (train : List Operation) (asks : List Ask) (order : List ℕ) (i o : ℕ) (rows : List (List ℕ)) (row : List ℕ) → slice_get order i ≡ Some o → AreRows train asks order i rows → IsRow train asks (take i order) o row
    → AreRows train asks order (i + 1) (rows ++ row ∷ [])
rows_more train asks order i o rows row here before is = record {
  long = length_push rows row ∙ ap (λ (n : ℕ). n + 1) before.long;
  each = λ k p found at there. elim (get_push_cases rows row found k there) [
    | inl early ↦ before.each k p found at early
    | inr last ↦
        let place : k ≡ i = omega (arith, last.0, before.long) in
        let same : o ≡ p = same_Some o p (sym here ∙ subst (λ (n : ℕ). slice_get order n ≡ Some p) place at) in
        subst (λ (l : List ℕ). IsRow train asks (take k order) p l) last.1 (subst (λ (n : ℕ). IsRow train asks (take n order) p row) (sym place) (subst (λ (x : ℕ). IsRow train asks (take i order) x row) same is))
  ];
}

-- ---- one turn of the sweep

pub record Turns (train : List Operation) (asks : List Ask) (order : List ℕ) (i : ℕ) (held : List (Option ℕ)) (count : ℕ) (rows : List (List ℕ)) (holds : Bool) : Type 0 where
  pub held_is : IsHeld train asks (take i order) held count
  pub rows_are : AreRows train asks order i rows
  pub last : (k o : ℕ) → i ≡ k + 1 → slice_get order k ≡ Some o → IsTrue holds ↔ HasWay train asks (take i order) o

pub sweep_turn : (train : List Operation) (asks : List Ask) (order : List ℕ) (i : ℕ) (held read : List (Option ℕ)) (count more : ℕ) (rows : List (List ℕ)) (was : Bool) (d : Ask) (operation other : Operation) (row : List ℕ) (holds : Bool) (value : Option ℕ)
    → IsBehind train order → i < length order → Turns train asks order i held count rows was → get_or order i 0 < length asks → operation ≡ get_or train (get_or order i 0) operation → other ≡ get_or train (get_or order i 0) other → read ≡ held
    → ((s : ℕ) → Contains row s ↔ (Contains operation.next s × IsKept (get_or asks (get_or order i 0) d) read count s))
    → (IsTrue holds ↔ (CanEnd other (get_or asks (get_or order i 0) d) count ⊎ ((s : ℕ) × Contains row s)))
    → more ≡ counted (get_or asks (get_or order i 0) d) count → value ≡ cond holds (Some more) None
    → Turns train asks order (i + 1) (set held (get_or order i 0) value) more (rows ++ row ∷ []) holds
sweep_turn train asks order i held read count more rows was d operation other row holds value behind lt before inside is is_other same says can counts values = record {
  held_is = rw (take_more order i 0 lt, values, counts, ask) (held_more train asks order i o held count holds next way);
  rows_are = rows_more train asks order i o rows row here before.rows_are kept;
  last = λ k p e at.
      let place : k ≡ i = omega (arith, e) in
      let found : o ≡ p = same_Some o p (sym here ∙ subst (λ (n : ℕ). slice_get order n ≡ Some p) place at) in
      subst (λ (x : ℕ). IsTrue holds ↔ HasWay train asks (take (i + 1) order) x) found (rw (take_more order i 0 lt) way);
}
  where
    o : ℕ
    o = get_or order i 0

    here : slice_get order i ≡ Some o
    here = slice_get-get_or order i 0 lt

    next : IsNext train asks order i o held count
    next = record { behind = behind; here = here; before = before.held_is }

    ask : get_or asks o d ≡ ask_at asks o
    ask = get_or_default asks o d free inside

    there : o < length train
    there = behind.within o (contains_at order o i here)

    kept : IsRow train asks (take i order) o row
    kept = row_is train asks order i o held count operation row next (next_at train o operation is there) (rw (ask, same) at says)

    way : IsTrue holds ↔ HasWay train asks (take i order ++ o ∷ []) o
    way = way_holds train asks order i o held count other row holds next (next_at train o other is_other there) kept (rw ask at can)

-- ---- the beginning and the end

pub nothing_swept : (train : List Operation) (asks : List Ask) (order : List ℕ) (held : List (Option ℕ)) (rows : List (List ℕ)) → length held ≡ length train → held ≡ replicate (length train) None → rows ≡ [] → Turns train asks order 0 held 0 rows false
nothing_swept train asks order held rows long none empty = record {
  held_is = none_held train asks held long none;
  rows_are = rw empty (record { long = refl; each = λ k o row here at. absurd (none-some row at) });
  last = λ k o e here. absurd (omega (arith, e));
}

pub swept_all : (train : List Operation) (asks : List Ask) (order : List ℕ) (i : ℕ) (held : List (Option ℕ)) (count : ℕ) (rows : List (List ℕ)) (holds : Bool) → length order ≡ i → Turns train asks order i held count rows holds
    → IsSwept train asks order (record { rows = rows; holds = holds })
swept_all train asks order i held count rows holds long turns = record {
  rows = subst (λ (n : ℕ). AreRows train asks order n rows) (sym long) turns.rows_are;
  last = λ k e count last. subst (λ (l : List ℕ). IsTrue holds ↔ HasWay train asks l e) (take_all i order (omega (arith, long))) (turns.last k e (sym long ∙ count) last);
}
