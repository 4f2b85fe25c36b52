-- Whether trains have a cycle is decided, by a search on lists alone.
use Rattle.std.proofs.Common.{◌≡◌, ℕ, zero, suc, ◌+◌, ◌<◌, ◌≤◌, ◌⊎◌, List, [], ◌∷◌, ◌++◌, length, get_or, set, replicate, Option, Some, None, Bool, true, false, refl, sym, ap, subst, ◌∙◌, inl, inr, arith, le_refl}
use Rattle.std.specs.Prelude.{slice_get, All}
use Rattle.std.specs.List.{AllByRecursion}
use Rattle.std.proofs.lemmas.Bool.{false≢true, cases_lt}
use Rattle.std.proofs.lemmas.Option.{same_Some, slice_get_within, slice_get-get_or}
use Rattle.std.proofs.lemmas.List.{length-replicate}
use Rattle.std.proofs.lemmas.List.Elements.{recursion_from_All}
use Rattle.plain_values.proofs.Lists.{contains_none, contains_one}
use Rattle.disp_model.specs.declared.train.Operation.{Operation}
use Rattle.disp_model.specs.Train.{next_of}
use Rattle.train_graphs.specs.Graphs.{IsOnCycle, HasNoCycle, AreInside, IsLeastOnCycle, IsFirstLoop}
use Rattle.train_graphs.specs.Reach.{Visits, AreMarksReached, unmarked}
use Rattle.train_graphs.proofs.Reached.{visits_new, visits_then, reached_first, reached_more, marked_on_cycle, on_cycle_within, no_cycle_more}

-- ---- one search

visits_none : (marks : List Bool) (ahead : List ℕ) → Visits [] marks marks ahead ahead
visits_none marks ahead = record {
  long = refl;
  marks = λ s h. absurd (contains_none s h);
  kept = λ s m. m;
  found = λ s m. inl m;
  waiting = λ x h. h;
  ahead = λ x h. inl h;
  work = refl;
}

visits_old : (marks : List Bool) (ahead : List ℕ) (n : ℕ) → get_or marks n false ≡ true → Visits (n ∷ []) marks marks ahead ahead
visits_old marks ahead n e = record {
  long = refl;
  marks = λ s h. record { is = subst (λ i. get_or marks i false ≡ true) (sym (contains_one n s h)) e };
  kept = λ s m. m;
  found = λ s m. inl m;
  waiting = λ x h. h;
  ahead = λ x h. inl h;
  work = refl;
}

visit_one : (n : ℕ) (marks : List Bool) (ahead : List ℕ) → n < length marks → (b : Bool) → get_or marks n false ≡ b → (then : List Bool) × (later : List ℕ) × Visits (n ∷ []) marks then ahead later
visit_one n marks ahead lt true e = (marks, ahead, visits_old marks ahead n e)
visit_one n marks ahead lt false e = (set marks n true, ahead ++ n ∷ [], visits_new marks ahead n lt e)

visit : (ns : List ℕ) (marks : List Bool) (ahead : List ℕ) → AllByRecursion (λ s. s < length marks) ns → (then : List Bool) × (later : List ℕ) × Visits ns marks then ahead later
visit [] marks ahead inside = (marks, ahead, visits_none marks ahead)
visit (n ∷ ns) marks ahead inside =
    let one = visit_one n marks ahead inside.0 (get_or marks n false) refl in
    let rest = visit ns one.0 one.1 (subst (λ k. AllByRecursion (λ s. s < k) ns) (sym one.2.long) inside.1) in
    (rest.0, rest.1, visits_then {ns = n ∷ []} {ms = ns} one.2 rest.2)

next_within : (train : List Operation) → AreInside train → (o : ℕ) → AllByRecursion (λ s. s < length train) (next_of train o)
next_within train inside o = by (slice_get train o) refl
  where
    by : (found : Option Operation) → slice_get train o ≡ found → AllByRecursion (λ s. s < length train) (next_of train o)
    by None e = rw e tt
    by (Some p) e =
        let lt = slice_get_within train o p e in
        let same : get_or train o p ≡ p = same_Some _ _ (sym (slice_get-get_or train o p lt) ∙ e) in
        let here : All (λ s. s < length train) p.next = subst (λ (q : Operation). All (λ s. s < length train) q.next) same (inside o p lt) in
        rw e (recursion_from_All (λ s. s < length train) p.next here)

-- the last of a list, and those before it
last_of : (xs : List ℕ) → (xs ≡ []) ⊎ ((rest : List ℕ) × (o : ℕ) × (xs ≡ rest ++ o ∷ []))
last_of [] = inl refl
last_of (x ∷ xs) = by (last_of xs)
  where
    by : (xs ≡ []) ⊎ ((rest : List ℕ) × (o : ℕ) × (xs ≡ rest ++ o ∷ [])) → (x ∷ xs ≡ []) ⊎ ((rest : List ℕ) × (o : ℕ) × (x ∷ xs ≡ rest ++ o ∷ []))
    by (inl e) = inr ([], x, ap (λ l. x ∷ l) e)
    by (inr p) = inr (x ∷ p.0, p.1, ap (λ l. x ∷ l) p.2)

length_push : (xs : List ℕ) (o : ℕ) → length (xs ++ o ∷ []) ≡ length xs + 1
length_push [] o = omega arith
length_push (x ∷ xs) o = omega (arith, length_push xs o)

none_left : (xs : List ℕ) → length xs ≤ 0 → xs ≡ []
none_left [] le = refl
none_left (x ∷ xs) le = absurd (omega arith)

go_on : (train : List Operation) → AreInside train → (start fuel : ℕ) (marks : List Bool) (ahead : List ℕ) → unmarked marks + length ahead ≤ fuel → AreMarksReached train start marks ahead → (all : List Bool) × AreMarksReached train start all []
go_on train inside start zero marks ahead le r = let none : ahead ≡ [] = none_left ahead (omega arith) in (marks, subst (λ l. AreMarksReached train start marks l) none r)
go_on train inside start (suc fuel) marks ahead le r = elim (last_of ahead) [
  | inl e ↦ (marks, subst (λ l. AreMarksReached train start marks l) e r)
  | inr p ↦
      let waits : AreMarksReached train start marks (p.0 ++ p.1 ∷ []) = subst (λ l. AreMarksReached train start marks l) p.2 r in
      let v = visit (next_of train p.1) marks p.0 (subst (λ n. AllByRecursion (λ s. s < n) (next_of train p.1)) (sym r.long) (next_within train inside p.1)) in
      let long : length ahead ≡ length p.0 + 1 = ap length p.2 ∙ length_push p.0 p.1 in
      go_on train inside start fuel v.0 v.1 (omega (arith, v.2.work, le, long)) (reached_more train start p.1 marks v.0 p.0 v.1 waits v.2)
]

search_from : (train : List Operation) → AreInside train → (start : ℕ) → (all : List Bool) × AreMarksReached train start all []
search_from train inside start =
    let v = visit (next_of train start) (replicate (length train) false) [] (subst (λ n. AllByRecursion (λ s. s < n) (next_of train start)) (sym (length-replicate (length train) false)) (next_within train inside start)) in
    go_on train inside start (unmarked v.0 + length v.1) v.0 v.1 (le_refl _) (reached_first train start v.0 v.1 v.2)

-- ---- cycles

by_mark : (train : List Operation) (o : ℕ) (marks : List Bool) → AreMarksReached train o marks [] → (b : Bool) → get_or marks o false ≡ b → IsOnCycle train o ⊎ (IsOnCycle train o → ⊥)
by_mark train o marks r true e = inl ((marked_on_cycle train o marks r).0 e)
by_mark train o marks r false e = inr (λ way. false≢true (sym e ∙ (marked_on_cycle train o marks r).1 way))

on_cycle_or_not : (train : List Operation) → AreInside train → (o : ℕ) → IsOnCycle train o ⊎ (IsOnCycle train o → ⊥)
on_cycle_or_not train inside o = let r = search_from train inside o in by_mark train o r.0 r.1 (get_or r.0 o false) refl

least_or_none : (train : List Operation) → AreInside train → (n : ℕ) → ((o : ℕ) × IsLeastOnCycle train o) ⊎ ((o : ℕ) → o < n → IsOnCycle train o → ⊥)
least_or_none train inside zero = inr (λ o lt. absurd (omega arith))
least_or_none train inside (suc n) = elim (least_or_none train inside n) [
  | inl found ↦ inl found
  | inr none ↦ elim (on_cycle_or_not train inside n) [
    | inl on ↦ inl (n, record { on = on; least = none })
    | inr off ↦ inr (λ o lt on. elim (cases_lt o n) [
      | inl less ↦ none o less on
      | inr more ↦ let same : o ≡ n = omega arith in off (subst (λ i. IsOnCycle train i) same on)
    ])
  ]
]

cycle_or_none : (train : List Operation) → AreInside train → ((o : ℕ) × IsLeastOnCycle train o) ⊎ HasNoCycle train
cycle_or_none train inside = elim (least_or_none train inside (length train)) [
  | inl found ↦ inl found
  | inr none ↦ inr (λ o on. none o (on_cycle_within train o on) on)
]

-- ---- the first train with a cycle

loop_before : (trains : List (List Operation)) → All AreInside trains → (n : ℕ) → n ≤ length trains
    → ((t : ℕ) × (o : ℕ) × IsFirstLoop trains t o) ⊎ ((k : ℕ) (other : List Operation) → k < n → slice_get trains k ≡ Some other → HasNoCycle other)
loop_before trains inside zero le = inr (λ k other lt at. absurd (omega arith))
loop_before trains inside (suc n) le = elim (loop_before trains inside n (omega arith)) [
  | inl found ↦ inl found
  | inr none ↦
      let lt : n < length trains = omega arith in
      let at : slice_get trains n ≡ Some (get_or trains n []) = slice_get-get_or trains n [] lt in
      elim (cycle_or_none (get_or trains n []) (inside n [] lt)) [
        | inl p ↦ inl (n, p.0, record { train = get_or trains n []; at = at; least = p.1; before = none })
        | inr clear ↦
            let is : get_or trains n [] ≡ get_or trains n (get_or trains n []) = same_Some _ _ (sym at ∙ slice_get-get_or trains n (get_or trains n []) lt) in
            inr (λ k other less there. no_cycle_more trains n (get_or trains n []) lt is clear none k other (omega arith) there)
      ]
]

-- some train is the first with a cycle, or none has one
pub first_loop_or_none : (trains : List (List Operation)) → All AreInside trains → ((t : ℕ) × (o : ℕ) × IsFirstLoop trains t o) ⊎ All HasNoCycle trains
first_loop_or_none trains inside = elim (loop_before trains inside (length trains) (le_refl _)) [
  | inl found ↦ inl found
  | inr none ↦ inr (λ k d lt. none k (get_or trains k d) lt (slice_get-get_or trains k d lt))
]
