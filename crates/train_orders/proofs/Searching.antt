-- What a search for an order keeps as it goes on.
use Rattle.std.proofs.Common.{◌≡◌, ℕ, zero, suc, ◌+◌, ◌<◌, ◌≤◌, ◌⊎◌, List, [], ◌∷◌, ◌++◌, length, take, get_or, set, replicate, Option, Some, None, Bool, true, false, refl, sym, ap, subst, ◌∙◌, inl, inr, arith}
use Rattle.std.specs.Prelude.{nat_eq, slice_get, Contains, All}
use Rattle.std.specs.Option.{option_map_or}
use Rattle.std.proofs.lemmas.Bool.{cases_Bool, cases_lt, eqb-true, eqb-false, false≢true}
use Rattle.std.proofs.lemmas.Option.{none-some, same_Some, slice_get_within, slice_get-get_or}
use Rattle.std.proofs.lemmas.List.{length-set, get_or-set_same, get_or-set_other, get_or_past, take-append-le, take_at}
use Rattle.std.proofs.lemmas.List.Elements.{Contains-append_left, Contains-push, Contains-push_cases, All-contains}
use Rattle.disp_model.specs.declared.train.Operation.{Operation}
use Rattle.disp_model.specs.Train.{next_of, IsSuccessor}
use Rattle.disp_model.specs.WellFormed.{LeadsTo, IsAcyclic}
use Rattle.train_orders.specs.Orders.{IsBehind, IsOrder, IsOpened, IsSearch, IsAt, unopened, unpassed}
use Rattle.train_orders.proofs.Places.{at_contains, contains_at, get_kept, get_last, get_push_cases, contains_none}

-- a way goes on by one step
pub leads_more : (train : List Operation) (n o p s : ℕ) → LeadsTo train n o p → IsSuccessor train p s → LeadsTo train (suc n) o s
leads_more train zero o p s leads next = (p, leads, next)
leads_more train (suc n) o p s leads next = (leads.0, leads.1, leads_more train n leads.0 p s leads.2 next)

-- the operations of a path that ends with one lead to each of its successors
pub path_leads : (train : List Operation) (opened : List Bool) (passed front order : List ℕ) (at s : ℕ) → IsSearch train opened passed (front ++ at ∷ []) order → IsSuccessor train at s
    → (o : ℕ) → Contains (front ++ at ∷ []) o → (n : ℕ) × LeadsTo train n o s
path_leads train opened passed front order at s search next o there =
    let found = at_contains (front ++ at ∷ []) o there in
    elim (get_push_cases front at o found.0 found.1) [
      | inl early ↦ let way = search.leads found.0 (length front) o at (slice_get_within front found.0 o early) found.1 (get_last front at) in (suc way.0, leads_more train way.0 o at s way.1 next)
      | inr last ↦ (0, subst (λ (x : ℕ). IsSuccessor train x s) last.1 next)
    ]

-- ---- coming to an operation

pub opened_kept : (opened : List Bool) (s o : ℕ) → s < length opened → IsOpened opened o → IsOpened (set opened s true) o
opened_kept opened s o lt is = elim (cases_Bool (nat_eq o s)) [
  | inl same ↦ subst (λ (x : ℕ). IsOpened (set opened s true) x) (sym (eqb-true o s same)) (get_or-set_same opened s true false lt)
  | inr other ↦ get_or-set_other opened s o true false (λ e. eqb-false o s other e) ∙ is
]

opened_before : (opened : List Bool) (s o : ℕ) → IsOpened (set opened s true) o → (s ≡ o) ⊎ IsOpened opened o
opened_before opened s o is = elim (cases_Bool (nat_eq o s)) [
  | inl same ↦ inl (sym (eqb-true o s same))
  | inr other ↦ inr (sym (get_or-set_other opened s o true false (λ e. eqb-false o s other e)) ∙ is)
]

pub opens : (train : List Operation) (opened : List Bool) (passed path order : List ℕ) (s : ℕ) → IsSearch train opened passed path order → s < length train → (IsOpened opened s → ⊥)
    → ((o : ℕ) → Contains path o → (n : ℕ) × LeadsTo train n o s) → IsSearch train (set opened s true) passed (path ++ s ∷ []) order
opens train opened passed path order s search lt new leads = record {
  opened_long = length-set opened s true ∙ search.opened_long;
  passed_long = search.passed_long;
  known = λ o is. elim (opened_before opened s o is) [
    | inl same ↦ inl (subst (λ (x : ℕ). Contains (path ++ s ∷ []) x) same (Contains-push path s))
    | inr before ↦ elim (search.known o before) [ inl h ↦ inl (Contains-append_left path (s ∷ []) o h) | inr h ↦ inr h ]
  ];
  path_opened = λ o there. elim (Contains-push_cases path s o there) [
    | inl h ↦ opened_kept opened s o within (search.path_opened o h)
    | inr same ↦ subst (λ (x : ℕ). IsOpened (set opened s true) x) same (get_or-set_same opened s true false within)
  ];
  order_opened = λ o there. opened_kept opened s o within (search.order_opened o there);
  leads = λ i j o p before first second. elim (get_push_cases path s p j second) [
    | inl early ↦ search.leads i j o p before (earlier i o first (omega (arith, before, slice_get_within path j p early))) early
    | inr last ↦ let way = leads o (contains_at path o i (earlier i o first (omega (arith, before, last.0)))) in (way.0, subst (λ (x : ℕ). LeadsTo train way.0 o x) last.1 way.1)
  ];
  apart = λ o there done. elim (Contains-push_cases path s o there) [
    | inl h ↦ search.apart o h done
    | inr same ↦ new (subst (λ (x : ℕ). IsOpened opened x) (sym same) (search.order_opened o done))
  ];
  are_passed = search.are_passed;
  is_behind = search.is_behind;
}
  where
    within : s < length opened
    within = omega (arith, lt, search.opened_long)

    earlier : (i o : ℕ) → slice_get (path ++ s ∷ []) i ≡ Some o → i < length path → slice_get path i ≡ Some o
    earlier i o first before = elim (get_push_cases path s o i first) [ inl h ↦ h | inr last ↦ absurd (omega (arith, before, last.0)) ]

-- ---- putting the operation at the end of the path into the order

behind_more : (train : List Operation) (order : List ℕ) (at : ℕ) → IsBehind train order → ((s : ℕ) → IsSuccessor train at s → Contains order s) → (Contains order at → ⊥) → at < length train
    → IsBehind train (order ++ at ∷ [])
behind_more train order at before each new lt = record {
  behind = λ i o s here next. elim (get_push_cases order at o i here) [
    | inl early ↦ subst (λ (l : List ℕ). Contains l s) (sym (front i (slice_get_within order i o early))) (before.behind i o s early next)
    | inr last ↦ subst (λ (l : List ℕ). Contains l s) (sym (whole i last.0)) (each s (subst (λ (x : ℕ). IsSuccessor train x s) (sym last.1) next))
  ];
  once = λ i o here there. elim (get_push_cases order at o i here) [
    | inl early ↦ before.once i o early (subst (λ (l : List ℕ). Contains l o) (front i (slice_get_within order i o early)) there)
    | inr last ↦ new (subst (λ (x : ℕ). Contains order x) (sym last.1) (subst (λ (l : List ℕ). Contains l o) (whole i last.0) there))
  ];
  within = λ o there. elim (Contains-push_cases order at o there) [ inl h ↦ before.within o h | inr same ↦ subst (λ (x : ℕ). x < length train) same lt ];
}
  where
    front : (i : ℕ) → i < length order → take i (order ++ at ∷ []) ≡ take i order
    front i before = take-append-le i order (at ∷ []) (omega (arith, before))

    whole : (i : ℕ) → i ≡ length order → take i (order ++ at ∷ []) ≡ order
    whole i e = take_at order (at ∷ []) i (sym e)

pub closes : (train : List Operation) (opened : List Bool) (passed path order : List ℕ) (at : ℕ) → IsAcyclic train → IsSearch train opened passed (path ++ at ∷ []) order → at < length train
    → ((s : ℕ) → IsSuccessor train at s → Contains order s) → IsSearch train opened passed path (order ++ at ∷ [])
closes train opened passed path order at acyclic search lt each = record {
  opened_long = search.opened_long;
  passed_long = search.passed_long;
  known = λ o is. elim (search.known o is) [
    | inl there ↦ elim (Contains-push_cases path at o there) [ inl h ↦ inl h | inr same ↦ inr (subst (λ (x : ℕ). Contains (order ++ at ∷ []) x) same (Contains-push order at)) ]
    | inr there ↦ inr (Contains-append_left order (at ∷ []) o there)
  ];
  path_opened = λ o there. search.path_opened o (Contains-append_left path (at ∷ []) o there);
  order_opened = λ o there. elim (Contains-push_cases order at o there) [ inl h ↦ search.order_opened o h | inr same ↦ subst (λ (x : ℕ). IsOpened opened x) same (search.path_opened at (Contains-push path at)) ];
  leads = λ i j o p before first second. search.leads i j o p before (get_kept path (at ∷ []) o i first) (get_kept path (at ∷ []) p j second);
  apart = λ o there done. elim (Contains-push_cases order at o done) [
    | inl h ↦ search.apart o (Contains-append_left path (at ∷ []) o there) h
    | inr same ↦ again (subst (λ (x : ℕ). Contains path x) (sym same) there)
  ];
  are_passed = λ o k s less here. Contains-append_left order (at ∷ []) s (search.are_passed o k s less here);
  is_behind = behind_more train order at search.is_behind each (λ done. search.apart at (Contains-push path at) done) lt;
}
  where
    again : Contains path at → ⊥
    again there =
        let found = at_contains path at there in
        let way = search.leads found.0 (length path) at at (slice_get_within path found.0 at found.1) (get_kept path (at ∷ []) at found.0 found.1) (get_last path at) in
        acyclic.no_cycle way.0 at way.1

-- ---- passing a successor

pub passes : (train : List Operation) (opened : List Bool) (passed path order : List ℕ) (at s : ℕ) → IsSearch train opened passed path order
    → slice_get (next_of train at) (get_or passed at 0) ≡ Some s → Contains order s → IsSearch train opened (set passed at (get_or passed at 0 + 1)) path order
passes train opened passed path order at s search here done = record {
  opened_long = search.opened_long;
  passed_long = length-set passed at (get_or passed at 0 + 1) ∙ search.passed_long;
  known = search.known;
  path_opened = search.path_opened;
  order_opened = search.order_opened;
  leads = search.leads;
  apart = search.apart;
  are_passed = λ o k t less there. elim (cases_Bool (nat_eq o at)) [
    | inr other ↦ search.are_passed o k t (subst (λ (n : ℕ). k < n) (get_or-set_other passed at o (get_or passed at 0 + 1) 0 (λ e. eqb-false o at other e)) less) there
    | inl same ↦ let e : o ≡ at = eqb-true o at same in own k t (within k (subst (λ (x : ℕ). k < get_or (set passed at (get_or passed at 0 + 1)) x 0) e less)) (subst (λ (x : ℕ). slice_get (next_of train x) k ≡ Some t) e there)
  ];
  is_behind = search.is_behind;
}
  where
    own : (k t : ℕ) → k < get_or passed at 0 + 1 → slice_get (next_of train at) k ≡ Some t → Contains order t
    own k t less there = elim (cases_lt k (get_or passed at 0)) [
      | inl before ↦ search.are_passed at k t before there
      | inr now ↦ let e : k ≡ get_or passed at 0 = omega (arith, less, now) in subst (λ (x : ℕ). Contains order x) (same_Some s t (sym here ∙ subst (λ (n : ℕ). slice_get (next_of train at) n ≡ Some t) e there)) done
    ]

    within : (k : ℕ) → k < get_or (set passed at (get_or passed at 0 + 1)) at 0 → k < get_or passed at 0 + 1
    within k less = elim (cases_lt at (length passed)) [
      | inl lt ↦ subst (λ (n : ℕ). k < n) (get_or-set_same passed at (get_or passed at 0 + 1) 0 lt) less
      | inr past ↦ absurd (omega (arith, less, get_or_past (set passed at (get_or passed at 0 + 1)) at 0 (omega (arith, past, length-set passed at (get_or passed at 0 + 1)))))
    ]

-- ---- what is left gets less

pub fewer_unopened : (opened : List Bool) (s : ℕ) → s < length opened → (IsOpened opened s → ⊥) → unopened (set opened s true) + 1 ≡ unopened opened
fewer_unopened [] s lt new = absurd (omega arith)
fewer_unopened (true ∷ opened) zero lt new = absurd (new refl)
fewer_unopened (false ∷ opened) zero lt new = omega arith
fewer_unopened (true ∷ opened) (suc s) lt new = fewer_unopened opened s (omega arith) new
fewer_unopened (false ∷ opened) (suc s) lt new = omega (arith, fewer_unopened opened s (omega arith) new)

pub fewer_unpassed : (train : List Operation) (passed : List ℕ) (at s : ℕ) → length passed ≡ length train → slice_get (next_of train at) (get_or passed at 0) ≡ Some s
    → unpassed train (set passed at (get_or passed at 0 + 1)) < unpassed train passed
fewer_unpassed [] passed at s long here = absurd (none-some s here)
fewer_unpassed (o ∷ train) [] at s long here = absurd (omega arith)
fewer_unpassed (o ∷ train) (k ∷ passed) zero s long here = omega (arith, slice_get_within o.next k s here)
fewer_unpassed (o ∷ train) (k ∷ passed) (suc at) s long here = omega (arith, fewer_unpassed train passed at s (omega arith) here)

-- ---- the beginning and the end

none_opened : (n o : ℕ) → IsOpened (replicate n false) o → ⊥
none_opened zero o is = false≢true is
none_opened (suc n) zero is = false≢true is
none_opened (suc n) (suc o) is = none_opened n o is

none_passed : (n o : ℕ) → get_or (replicate n zero) o zero ≡ zero
none_passed zero o = refl
none_passed (suc n) zero = refl
none_passed (suc n) (suc o) = none_passed n o

pub begins : (train : List Operation) (opened : List Bool) (passed : List ℕ) → opened ≡ replicate (length train) false → passed ≡ replicate (length train) 0 → length opened ≡ length train → length passed ≡ length train
    → IsSearch train opened passed [] []
begins train opened passed o p opened_long passed_long = record {
  opened_long = opened_long;
  passed_long = passed_long;
  known = λ q is. absurd (none_opened (length train) q (subst (λ (l : List Bool). IsOpened l q) o is));
  path_opened = λ q there. absurd (contains_none q there);
  order_opened = λ q there. absurd (contains_none q there);
  leads = λ i j q r before first second. absurd (none-some q first);
  apart = λ q there done. contains_none q there;
  are_passed = λ q k s less here. absurd (omega (arith, less, ap (λ (l : List ℕ). get_or l q 0) p ∙ none_passed (length train) q));
  is_behind = record { behind = λ i q s here next. absurd (none-some q here); once = λ i q here there. none-some q here; within = λ q there. absurd (contains_none q there) };
}

pub ends : (train : List Operation) (opened : List Bool) (passed path order : List ℕ) → IsSearch train opened passed path order → path ≡ [] → ((o : ℕ) → o < length train → IsOpened opened o) → IsOrder train order
ends train opened passed path order search empty all = record {
  is_behind = search.is_behind;
  has = λ o lt. elim (search.known o (all o lt)) [ inl there ↦ absurd (contains_none o (subst (λ (l : List ℕ). Contains l o) empty there)) | inr done ↦ done ];
}

-- ---- where the search is

opened_within : (opened : List Bool) (o : ℕ) → IsOpened opened o → o < length opened
opened_within [] o is = absurd (false≢true is)
opened_within (b ∷ opened) zero is = omega arith
opened_within (b ∷ opened) (suc o) is = omega (arith, opened_within opened o is)

pub at_within : (train : List Operation) (opened : List Bool) (passed path order : List ℕ) (at : ℕ) → IsSearch train opened passed path order → IsAt path at → at < length train
at_within train opened passed path order at search (front, e) =
    omega (arith, opened_within opened at (search.path_opened at (subst (λ (l : List ℕ). Contains l at) (sym e) (Contains-push front at))), search.opened_long)

-- the successors of the operation at a place
pub next_at : (train : List Operation) (at : ℕ) (operation : Operation) → operation ≡ get_or train at operation → at < length train → next_of train at ≡ operation.next
next_at train at operation is lt = ap (λ (found : Option Operation). option_map_or (λ p. p.next) found []) (slice_get-get_or train at operation lt ∙ ap Some (sym is))

pub inside_at : (train : List Operation) (at : ℕ) (operation : Operation) → All (λ o. All (λ s. s < length train) o.next) train → operation ≡ get_or train at operation → at < length train → All (λ s. s < length train) operation.next
inside_at train at operation inside is lt = subst (λ (q : Operation). All (λ s. s < length train) q.next) (sym is) (inside at operation lt)

-- the successor is within the train
pub next_within : (train : List Operation) (at s : ℕ) (operation : Operation) → All (λ o. All (λ s. s < length train) o.next) train → operation ≡ get_or train at operation → at < length train → Contains operation.next s → s < length train
next_within train at s operation inside is lt there = All-contains (λ (s : ℕ). s < length train) operation.next s (inside_at train at operation inside is lt) there

-- ---- a step

pub step_opens : (train : List Operation) (opened : List Bool) (passed path order : List ℕ) (at s : ℕ) → IsSearch train opened passed path order → IsAt path at → IsSuccessor train at s → s < length train → (IsOpened opened s → ⊥)
    → IsSearch train (set opened s true) passed (path ++ s ∷ []) order
step_opens train opened passed path order at s search (front, e) next lt new =
    opens train opened passed path order s search lt new
    (λ o there. path_leads train opened passed front order at s (subst (λ (l : List ℕ). IsSearch train opened passed l order) e search) next o (subst (λ (l : List ℕ). Contains l o) e there))

-- an operation that the search has come to and that follows the end of the path is in the order
pub in_order : (train : List Operation) (opened : List Bool) (passed path order : List ℕ) (at s : ℕ) → IsAcyclic train → IsSearch train opened passed path order → IsAt path at → IsSuccessor train at s → IsOpened opened s → Contains order s
in_order train opened passed path order at s acyclic search (front, e) next is = elim (search.known s is) [
  | inr done ↦ done
  | inl there ↦
      let way = path_leads train opened passed front order at s (subst (λ (l : List ℕ). IsSearch train opened passed l order) e search) next s (subst (λ (l : List ℕ). Contains l s) e there) in
      absurd (acyclic.no_cycle way.0 s way.1)
]

-- where all successors are passed they are in the order
pub all_passed : (train : List Operation) (opened : List Bool) (passed path order : List ℕ) (at : ℕ) → IsSearch train opened passed path order → length (next_of train at) ≤ get_or passed at 0
    → (s : ℕ) → IsSuccessor train at s → Contains order s
all_passed train opened passed path order at search le s next =
    let found = at_contains (next_of train at) s next in
    search.are_passed at found.0 s (omega (arith, le, slice_get_within (next_of train at) found.0 s found.1)) found.1

-- the successor at a place
pub successor_at : (train : List Operation) (at place s : ℕ) (operation : Operation) → operation ≡ get_or train at operation → at < length train → slice_get operation.next place ≡ Some s → slice_get (next_of train at) place ≡ Some s
successor_at train at place s operation is lt here = rw (next_at train at operation is lt) here

pub successor_within : (train : List Operation) (at place s : ℕ) (operation : Operation) → All (λ o. All (λ s. s < length train) o.next) train → operation ≡ get_or train at operation → at < length train → slice_get operation.next place ≡ Some s → s < length train
successor_within train at place s operation inside is lt here = next_within train at s operation inside is lt (contains_at operation.next s place here)

pub past_all : (xs : List ℕ) (place : ℕ) → slice_get xs place ≡ None → length xs ≤ place
past_all [] place none = omega arith
past_all (x ∷ xs) zero none = absurd (none-some x (sym none))
past_all (x ∷ xs) (suc place) none = omega (arith, past_all xs place none)

pub opens_first : (train : List Operation) (opened : List Bool) (passed path order : List ℕ) (s : ℕ) → IsSearch train opened passed path order → path ≡ [] → s < length train → (IsOpened opened s → ⊥)
    → IsSearch train (set opened s true) passed (path ++ s ∷ []) order
opens_first train opened passed path order s search empty lt new =
    opens train opened passed path order s search lt new (λ o there. absurd (contains_none o (subst (λ (l : List ℕ). Contains l o) empty there)))
