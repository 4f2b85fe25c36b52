-- What is marked on the way from an operation, and what ranks that rise say of cycles.
use Rattle.std.proofs.Common.{◌≡◌, ℕ, zero, suc, ◌+◌, ◌<◌, ◌≤◌, ◌⊎◌, List, [], ◌∷◌, ◌++◌, length, get_or, set, replicate, Option, Some, None, Bool, true, false, not, cond, refl, sym, ap, subst, ◌∙◌, inl, inr, arith}
use Rattle.std.specs.Prelude.{◌↔◌, nat_eq, slice_get, slice_index, Contains, All}
use Rattle.std.proofs.lemmas.Bool.{eq-eqb, eqb-true, false≢true, cases_lt}
use Rattle.std.proofs.lemmas.Option.{same_Some, slice_get_within, slice_get-get_or}
use Rattle.std.proofs.lemmas.List.{length-set, length-replicate, get_or-set_same, get_or-set_other, get_or-replicate, get_or_past}
use Rattle.std.proofs.lemmas.List.Elements.{Contains-append_left, Contains-append_right, Contains-push, Contains-push_cases, Contains-append_cases, All-contains}
use Rattle.plain_values.proofs.Lists.{contains_none, contains_one}
use Rattle.disp_model.specs.declared.train.Operation.{Operation}
use Rattle.disp_model.specs.Train.{next_of, IsSuccessor}
use Rattle.disp_model.specs.WellFormed.{LeadsTo}
use Rattle.train_graphs.specs.Graphs.{IsOnCycle, HasNoCycle, AreInside}
use Rattle.train_graphs.specs.Ranks.{HasRankAbove, IsNotBelow, Rises, RisesBefore, NeverFalls}
use Rattle.train_graphs.specs.Reach.{IsReached, IsMarked, unmarked, Visits, AreMarksReached}
use Rattle.train_graphs.proofs.Marks.{count_cons}

contains_itself : (a : ℕ) → Contains (a ∷ []) a
contains_itself a = (0, omega arith, refl)

-- ---- one visit

unmarked_set : (marks : List Bool) (n : ℕ) → n < length marks → get_or marks n false ≡ false → unmarked (set marks n true) + 1 ≡ unmarked marks
unmarked_set [] n lt e = absurd (omega arith)
unmarked_set (b ∷ marks) zero lt e = omega (arith, count_cons (λ x. not x) true marks, count_cons (λ x. not x) b marks ∙ ap (λ x. cond (not x) 1 0 + unmarked marks) e)
unmarked_set (b ∷ marks) (suc n) lt e =
    omega (arith, count_cons (λ x. not x) b (set marks n true), count_cons (λ x. not x) b marks, unmarked_set marks n (omega arith) e)

pub visits_new : (marks : List Bool) (ahead : List ℕ) (n : ℕ) → n < length marks → get_or marks n false ≡ false → Visits (n ∷ []) marks (set marks n true) ahead (ahead ++ n ∷ [])
visits_new marks ahead n lt clear = record {
  long = length-set marks n true;
  marks = λ s h. record { is = let e : s ≡ n = contains_one n s h in subst (λ i. get_or (set marks n true) i false ≡ true) (sym e) (get_or-set_same marks n true false lt) };
  kept = λ s m. by s (nat_eq s n) refl m;
  found = λ s m. back s (nat_eq s n) refl m;
  waiting = λ x h. Contains-append_left ahead (n ∷ []) x h;
  ahead = λ x h. from x (Contains-push_cases ahead n x h);
  work = omega (arith, unmarked_set marks n lt clear, length_push ahead);
}
  where
    length_push : (xs : List ℕ) → length (xs ++ n ∷ []) ≡ length xs + 1
    length_push [] = omega arith
    length_push (x ∷ xs) = omega (arith, length_push xs)

    by : (s : ℕ) (b : Bool) → nat_eq s n ≡ b → IsMarked marks s → IsMarked (set marks n true) s
    by s true e m = record { is = subst (λ i. get_or (set marks n true) i false ≡ true) (sym (eqb-true s n e)) (get_or-set_same marks n true false lt) }
    by s false e m = record { is = get_or-set_other marks n s true false (λ same. let t : nat_eq s n ≡ true = eq-eqb s n same in false≢true (sym e ∙ t)) ∙ m.is }

    back : (s : ℕ) (b : Bool) → nat_eq s n ≡ b → IsMarked (set marks n true) s → IsMarked marks s ⊎ (Contains (n ∷ []) s × Contains (ahead ++ n ∷ []) s)
    back s true e m = let same : s ≡ n = eqb-true s n e in inr (subst (λ i. Contains (n ∷ []) i) (sym same) (contains_itself n), subst (λ i. Contains (ahead ++ n ∷ []) i) (sym same) (Contains-push ahead n))
    back s false e m = inl (record { is = sym (get_or-set_other marks n s true false (λ same. let t : nat_eq s n ≡ true = eq-eqb s n same in false≢true (sym e ∙ t))) ∙ m.is })

    from : (x : ℕ) → Contains ahead x ⊎ (n ≡ x) → Contains ahead x ⊎ Contains (n ∷ []) x
    from x (inl h) = inl h
    from x (inr e) = inr (subst (λ i. Contains (n ∷ []) i) e (contains_itself n))

-- ---- visits one after another

pub visits_then : {ns ms : List ℕ} {a b c : List Bool} {x y z : List ℕ} → Visits ns a b x y → Visits ms b c y z → Visits (ns ++ ms) a c x z
visits_then {ns} {ms} {a} {b} {c} {x} {y} {z} first second = record {
  long = second.long ∙ first.long;
  marks = λ s h. both s (Contains-append_cases ns ms s h);
  kept = λ s m. second.kept s (first.kept s m);
  found = λ s m. back s (second.found s m);
  waiting = λ s h. second.waiting s (first.waiting s h);
  ahead = λ s h. from s (second.ahead s h);
  work = omega (arith, first.work, second.work);
}
  where
    both : (s : ℕ) → Contains ns s ⊎ Contains ms s → IsMarked c s
    both s (inl h) = second.kept s (first.marks s h)
    both s (inr h) = second.marks s h

    earlier : (s : ℕ) → IsMarked a s ⊎ (Contains ns s × Contains y s) → IsMarked a s ⊎ (Contains (ns ++ ms) s × Contains z s)
    earlier s (inl m) = inl m
    earlier s (inr (h, w)) = inr (Contains-append_left ns ms s h, second.waiting s w)

    back : (s : ℕ) → IsMarked b s ⊎ (Contains ms s × Contains z s) → IsMarked a s ⊎ (Contains (ns ++ ms) s × Contains z s)
    back s (inl m) = earlier s (first.found s m)
    back s (inr (h, w)) = inr (Contains-append_right ns ms s h, w)

    before : (s : ℕ) → Contains x s ⊎ Contains ns s → Contains x s ⊎ Contains (ns ++ ms) s
    before s (inl h) = inl h
    before s (inr h) = inr (Contains-append_left ns ms s h)

    from : (s : ℕ) → Contains y s ⊎ Contains ms s → Contains x s ⊎ Contains (ns ++ ms) s
    from s (inl h) = before s (first.ahead s h)
    from s (inr h) = inr (Contains-append_right ns ms s h)

-- ---- what is reached

snoc : (train : List Operation) (n start o s : ℕ) → LeadsTo train n start o → IsSuccessor train o s → LeadsTo train (suc n) start s
snoc train zero start o s h next = (o, h, next)
snoc train (suc n) start o s (p, one, rest) next = (p, one, snoc train n p o s rest next)

none_clear : (n s : ℕ) → IsMarked (replicate n false) s → ⊥
none_clear n s m = elim (cases_lt s n) [
  | inl lt ↦ false≢true (sym (get_or-replicate n s false false lt) ∙ m.is)
  | inr le ↦ false≢true (sym (get_or_past (replicate n false) s false (omega (arith, le, length-replicate n false))) ∙ m.is)
]

-- the successors of the first are visited
pub reached_first : (train : List Operation) (start : ℕ) (marks : List Bool) (ahead : List ℕ) → Visits (next_of train start) (replicate (length train) false) marks [] ahead → AreMarksReached train start marks ahead
reached_first train start marks ahead v = record {
  long = v.long ∙ length-replicate (length train) false;
  sound = λ s m. sound s (v.found s m);
  waiting = λ x h. waiting x (v.ahead x h);
  first = v.marks;
  closed = λ p m. closed p (v.found p m);
}
  where
    sound : (s : ℕ) → IsMarked (replicate (length train) false) s ⊎ (Contains (next_of train start) s × Contains ahead s) → IsReached train start s
    sound s (inl m) = absurd (none_clear (length train) s m)
    sound s (inr (h, w)) = (0, h)

    waiting : (x : ℕ) → Contains [] x ⊎ Contains (next_of train start) x → IsMarked marks x
    waiting x (inl h) = absurd (contains_none x h)
    waiting x (inr h) = v.marks x h

    closed : (p : ℕ) → IsMarked (replicate (length train) false) p ⊎ (Contains (next_of train start) p × Contains ahead p) → Contains ahead p ⊎ ((s : ℕ) → IsSuccessor train p s → IsMarked marks s)
    closed p (inl m) = absurd (none_clear (length train) p m)
    closed p (inr (h, w)) = inl w

-- the successors of one that waited are visited
pub reached_more : (train : List Operation) (start o : ℕ) (marks then : List Bool) (ahead later : List ℕ) → AreMarksReached train start marks (ahead ++ o ∷ []) → Visits (next_of train o) marks then ahead later → AreMarksReached train start then later
reached_more train start o marks then ahead later r v = record {
  long = v.long ∙ r.long;
  sound = λ s m. sound s (v.found s m);
  waiting = λ x h. waiting x (v.ahead x h);
  first = λ s h. v.kept s (r.first s h);
  closed = λ p m. closed p (v.found p m);
}
  where
    sound : (s : ℕ) → IsMarked marks s ⊎ (Contains (next_of train o) s × Contains later s) → IsReached train start s
    sound s (inl m) = r.sound s m
    sound s (inr (h, w)) = let way = r.sound o (r.waiting o (Contains-push ahead o)) in (suc way.0, snoc train way.0 start o s way.1 h)

    waiting : (x : ℕ) → Contains ahead x ⊎ Contains (next_of train o) x → IsMarked then x
    waiting x (inl h) = v.kept x (r.waiting x (Contains-append_left ahead (o ∷ []) x h))
    waiting x (inr h) = v.marks x h

    waited : (p : ℕ) → Contains ahead p ⊎ (o ≡ p) → Contains later p ⊎ ((s : ℕ) → IsSuccessor train p s → IsMarked then s)
    waited p (inl h) = inl (v.waiting p h)
    waited p (inr e) = inr (λ s h. v.marks s (subst (λ q. Contains (next_of train q) s) (sym e) h))

    was : (p : ℕ) → Contains (ahead ++ o ∷ []) p ⊎ ((s : ℕ) → IsSuccessor train p s → IsMarked marks s) → Contains later p ⊎ ((s : ℕ) → IsSuccessor train p s → IsMarked then s)
    was p (inl h) = waited p (Contains-push_cases ahead o p h)
    was p (inr f) = inr (λ s h. v.kept s (f s h))

    closed : (p : ℕ) → IsMarked marks p ⊎ (Contains (next_of train o) p × Contains later p) → Contains later p ⊎ ((s : ℕ) → IsSuccessor train p s → IsMarked then s)
    closed p (inl m) = was p (r.closed p m)
    closed p (inr (h, w)) = inl w

-- where none waits, all that is reached is marked
complete : (train : List Operation) (start : ℕ) (marks : List Bool) → AreMarksReached train start marks [] → (n p s : ℕ) → ((q : ℕ) → IsSuccessor train p q → IsMarked marks q) → LeadsTo train n p s → IsMarked marks s
complete train start marks r zero p s next h = next s h
complete train start marks r (suc n) p s next (q, one, rest) = complete train start marks r n q s (behind (r.closed q (next q one))) rest
  where
    behind : Contains [] q ⊎ ((t : ℕ) → IsSuccessor train q t → IsMarked marks t) → (t : ℕ) → IsSuccessor train q t → IsMarked marks t
    behind (inl h) = absurd (contains_none q h)
    behind (inr f) = f

pub marked_on_cycle : (train : List Operation) (start : ℕ) (marks : List Bool) → AreMarksReached train start marks [] → (get_or marks start false ≡ true) ↔ IsOnCycle train start
marked_on_cycle train start marks r = (λ e. r.sound start (record { is = e }), λ way. (complete train start marks r way.0 start start r.first way.1).is)

marked_within : (marks : List Bool) (s : ℕ) → IsMarked marks s → s < length marks
marked_within marks s m = elim (cases_lt s (length marks)) [
  | inl lt ↦ lt
  | inr le ↦ absurd (false≢true (sym (get_or_past marks s false le) ∙ m.is))
]

-- ---- the steps of the search

next_at : (train : List Operation) (o : ℕ) (p : Operation) → o < length train → p ≡ get_or train o p → next_of train o ≡ p.next
next_at train o p lt is = let at : slice_get train o ≡ Some p = slice_get-get_or train o p lt ∙ ap Some (sym is) in rw at refl

pub waiting_within : (train : List Operation) (start o : ℕ) (marks : List Bool) (ahead rest : List ℕ) → AreMarksReached train start marks ahead → ahead ≡ rest ++ o ∷ [] → o < length train
waiting_within train start o marks ahead rest r is =
    let m = r.waiting o (subst (λ l. Contains l o) (sym is) (Contains-push rest o)) in
    omega (arith, marked_within marks o m, r.long)

pub next_inside : (train : List Operation) (o : ℕ) (p : Operation) (ns : List ℕ) (marks : List Bool) → AreInside train → o < length train → p ≡ get_or train o p → ns ≡ p.next → length marks ≡ length train → All (λ s. s < length marks) ns
next_inside train o p ns marks inside lt is ns-is long =
    let here : All (λ s. s < length train) (get_or train o p).next = inside o p lt in
    let there : All (λ s. s < length train) p.next = subst (λ (q : Operation). All (λ s. s < length train) q.next) (sym is) here in
    subst (λ n. All (λ s. s < n) ns) (sym long) (subst (λ (l : List ℕ). All (λ s. s < length train) l) (sym ns-is) there)

pub first_visited : (train : List Operation) (start : ℕ) (p : Operation) (ns : List ℕ) (old marks : List Bool) (before ahead : List ℕ) → start < length train → p ≡ get_or train start p → ns ≡ p.next
    → old ≡ replicate (length train) false → before ≡ [] → Visits ns old marks before ahead → AreMarksReached train start marks ahead
first_visited train start p ns old marks before ahead lt is ns-is clear none v =
    let e : ns ≡ next_of train start = ns-is ∙ sym (next_at train start p lt is) in
    reached_first train start marks ahead (subst (λ b. Visits (next_of train start) (replicate (length train) false) marks b ahead) none (subst (λ o. Visits (next_of train start) o marks before ahead) clear (subst (λ l. Visits l old marks before ahead) e v)))

pub more_visited : (train : List Operation) (start o : ℕ) (p : Operation) (ns : List ℕ) (marks then : List Bool) (ahead rest later : List ℕ) → AreMarksReached train start marks ahead → ahead ≡ rest ++ o ∷ []
    → p ≡ get_or train o p → ns ≡ p.next → Visits ns marks then rest later → AreMarksReached train start then later
more_visited train start o p ns marks then ahead rest later r ahead-is is ns-is v =
    let lt = waiting_within train start o marks ahead rest r ahead-is in
    let e : ns ≡ next_of train o = ns-is ∙ sym (next_at train o p lt is) in
    reached_more train start o marks then rest later (subst (λ l. AreMarksReached train start marks l) ahead-is r) (subst (λ l. Visits l marks then rest later) e v)

-- one more train without a cycle
pub no_cycle_more : (trains : List (List Operation)) (t : ℕ) (train : List Operation) → t < length trains → train ≡ get_or trains t train → HasNoCycle train
    → ((k : ℕ) (other : List Operation) → k < t → slice_get trains k ≡ Some other → HasNoCycle other) → (k : ℕ) (other : List Operation) → k < t + 1 → slice_get trains k ≡ Some other → HasNoCycle other
no_cycle_more trains t train lt is none below k other le at =
    elim (cases_lt k t) [
      | inl less ↦ below k other less at
      | inr more ↦
          let same : k ≡ t = omega arith in
          let here : slice_get trains t ≡ Some train = slice_get-get_or trains t train lt ∙ ap Some (sym is) in
          let equal : train ≡ other = same_Some train other (sym here ∙ subst (λ i. slice_get trains i ≡ Some other) same at) in
          subst HasNoCycle equal none
    ]

-- ---- cycles

successor_within : (train : List Operation) (o s : ℕ) → IsSuccessor train o s → (p : Operation) × (slice_get train o ≡ Some p) × Contains p.next s
successor_within train o s h = by (slice_get train o) refl
  where
    by : (found : Option Operation) → slice_get train o ≡ found → (p : Operation) × (slice_get train o ≡ Some p) × Contains p.next s
    by None e = absurd (contains_none s (rw e at h))
    by (Some p) e = (p, e, rw e at h)

first_step : (train : List Operation) (n o s : ℕ) → LeadsTo train n o s → (t : ℕ) × IsSuccessor train o t
first_step train zero o s h = (s, h)
first_step train (suc n) o s (p, one, rest) = (p, one)

-- an operation on a cycle is one of the train
pub on_cycle_within : (train : List Operation) (o : ℕ) → IsOnCycle train o → o < length train
on_cycle_within train o way =
    let step = first_step train way.0 o o way.1 in
    let p = successor_within train o step.0 step.1 in
    slice_get_within train o p.0 p.1

rises_step : (train : List Operation) (ranks : List ℕ) (o s : ℕ) → Rises train ranks → IsSuccessor train o s → slice_index ranks o < slice_index ranks s
rises_step train ranks o s rises h =
    let p = successor_within train o s h in
    All-contains (HasRankAbove ranks (slice_index ranks o)) p.0.next s (rises o p.0 p.1) p.2

rises_along : (train : List Operation) (ranks : List ℕ) (n o s : ℕ) → Rises train ranks → LeadsTo train n o s → slice_index ranks o < slice_index ranks s
rises_along train ranks zero o s rises h = rises_step train ranks o s rises h
rises_along train ranks (suc n) o s rises (p, one, rest) =
    let first = rises_step train ranks o p rises one in
    let later = rises_along train ranks n p s rises rest in
    omega (arith, first, later)

keeps_step : (train : List Operation) (ranks : List ℕ) (o s : ℕ) → NeverFalls train ranks → IsSuccessor train o s → slice_index ranks o ≤ slice_index ranks s
keeps_step train ranks o s keeps h =
    let p = successor_within train o s h in
    All-contains (IsNotBelow ranks (slice_index ranks o)) p.0.next s (keeps o p.0 p.1) p.2

keeps_along : (train : List Operation) (ranks : List ℕ) (n o s : ℕ) → NeverFalls train ranks → LeadsTo train n o s → slice_index ranks o ≤ slice_index ranks s
keeps_along train ranks zero o s keeps h = keeps_step train ranks o s keeps h
keeps_along train ranks (suc n) o s keeps (p, one, rest) =
    let first = keeps_step train ranks o p keeps one in
    let later = keeps_along train ranks n p s keeps rest in
    omega (arith, first, later)

before_step : (train : List Operation) (ranks : List ℕ) (v o s : ℕ) → RisesBefore train ranks v → o < v → IsSuccessor train o s → slice_index ranks o < slice_index ranks s
before_step train ranks v o s rises lt h =
    let p = successor_within train o s h in
    All-contains (HasRankAbove ranks (slice_index ranks o)) p.0.next s (rises o p.0 lt p.1) p.2

-- ranks that never fall, and rise behind each operation before this one: none before it lies on a cycle
pub none_before : (train : List Operation) (ranks : List ℕ) (v : ℕ) → NeverFalls train ranks → RisesBefore train ranks v → (o : ℕ) → o < v → IsOnCycle train o → ⊥
none_before train ranks v keeps rises o lt (zero, one) = let up = before_step train ranks v o o rises lt one in omega (arith, up)
none_before train ranks v keeps rises o lt (suc n, (p, one, rest)) =
    let up = before_step train ranks v o p rises lt one in
    let back = keeps_along train ranks n p o keeps rest in
    omega (arith, up, back)

pub rises_has_no_cycle : (train : List Operation) (ranks : List ℕ) → Rises train ranks → HasNoCycle train
rises_has_no_cycle train ranks rises = λ o way. omega (arith, rises_along train ranks way.0 o o rises way.1)

pub none_below : (train : List Operation) → ((p : ℕ) → p < length train → IsOnCycle train p → ⊥) → HasNoCycle train
none_below train none = λ o way. none o (on_cycle_within train o way) way
