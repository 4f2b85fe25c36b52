-- A pass from the entry on: one operation of the order after another.
use Rattle.std.proofs.Common.{◌≡◌, ◌≢◌, ℕ, zero, suc, ◌+◌, ◌^◌, ◌<◌, ◌≤◌, ◌⊎◌, List, [], ◌∷◌, ◌++◌, length, get_or, set, replicate, Option, Some, None, refl, sym, ap, subst, ◌∙◌, inl, inr, arith}
use Rattle.std.specs.Prelude.{slice_get, Contains, All, sum_by, MatchOption, ◌↔◌}
use Rattle.std.specs.Option.{option_map_or}
use Rattle.std.proofs.lemmas.Bool.{cases_lt}
use Rattle.std.proofs.lemmas.Option.{none-some, same_Some, slice_get-get_or, slice_get_within}
use Rattle.std.proofs.lemmas.List.{length-set, length-replicate, get_or-set_same, get_or-set_other, get_or_past}
use Rattle.std.proofs.lemmas.List.Elements.{Contains-get_or, All-contains}
use Rattle.std.proofs.lemmas.List.Sums.{sum_by-append, sum_by-cons}
use Rattle.disp_model.specs.declared.train.Operation.{Operation}
use Rattle.disp_model.specs.Train.{duration_of}
use Rattle.disp_laws.proofs.Paths.{IsIn, is_in}
use Rattle.disp_laws.proofs.Composed.{in_front_or_back}
use Rattle.disp_laws.proofs.LeastSums.{parted}
use Rattle.train_orders.proofs.Places.{set_at, set_elsewhere, same_number}
use Rattle.train_orders.proofs.Ordered.{contains_here, contains_later}
use Rattle.route_marks.specs.declared.marks.Mark.{Mark}
use Rattle.route_marks.specs.Ways.{StepsAlong, Goes, IsRowWalk, Chain, IsLeastOnRows, IsOnEach, last_of}
use Rattle.route_marks.specs.Marks.{ArePlaces, IsLaid, Relaxes, IsLowest, IsOnly, Makes, IsMark, mark_at, Crosses, IsPass, MarksEntered, HasSums, sum_at}
use Rattle.route_marks.proofs.Chaining.{chain_more, LastStep, chain_last, chain_walk, walk_parts, steps_row, row_steps, goes_on, goes_below, chain_above, ending, last_here}

-- ---- sums and marks

pub sum_more : (train : List Operation) (front : List ℕ) (p : ℕ) → sum_by (duration_of train) (front ++ p ∷ []) ≡ sum_by (duration_of train) front + duration_of train p
sum_more train front p = omega (arith, sum_by-append (duration_of train) front (p ∷ []), sum_by-cons (duration_of train) p [])

pub matched : {X : Type 0} (found : Option X) (P R : Type 0) (Q S : X → Type 0) → MatchOption found P Q → (P → R) → ((x : X) → Q x → S x) → MatchOption found R S
matched None P R Q S h one other = one h
matched (Some x) P R Q S h one other = other x h

all_row : (row : List ℕ) (s : ℕ) → ((q : ℕ) → Contains row q → q ≡ s) → All (λ q. q ≡ s) row
all_row row s says k d lt = says (get_or row k d) (Contains-get_or row k d lt)

only_steps : (train : List Operation) (order : List ℕ) (rows : List (List ℕ)) (k o : ℕ) (row : List ℕ) (next : Option ℕ) → IsLaid train order rows → slice_get order k ≡ Some o → slice_get rows k ≡ Some row → IsOnly row next
    → (s : ℕ) → (next ≡ Some s) ↔ (StepsAlong order rows o s × ((q : ℕ) → StepsAlong order rows o q → q ≡ s))
only_steps train order rows k o row next laid here row_is only s = (
  λ e. let found = (only s).0 e in (row_steps order rows k o s row here row_is found.0, λ q step. All-contains (λ q. q ≡ s) row q found.1 (steps_row train order rows k o q row laid here row_is step)),
  λ h. (only s).1 (steps_row train order rows k o s row laid here row_is h.0, all_row row s (λ q there. h.1 q (row_steps order rows k o q row here row_is there))),
)

-- ---- what is known of the operation that comes next

pub record IsAt (train : List Operation) (order : List ℕ) (rows : List (List ℕ)) (place at : ℕ) (sums : List (Option ℕ)) (reach : ℕ) (marks : List (Option Mark)) : Type 0 where
  pub laid : IsLaid train order rows
  pub here : slice_get order place ≡ Some at
  pub pass : IsPass train order rows (place + 1) sums reach marks

-- the pass has come to each operation that goes on to it
come_before : (train : List Operation) (order : List ℕ) (rows : List (List ℕ)) (place at : ℕ) (sums : List (Option ℕ)) (reach : ℕ) (marks : List (Option Mark)) → IsAt train order rows place at sums reach marks
    → (k p : ℕ) → slice_get order k ≡ Some p → StepsAlong order rows p at → place + 1 ≤ k
come_before train order rows place at sums reach marks is k p on step =
    let down = is.laid.down k p at on step in
    let same = is.laid.one_place down.0 place at down.2 is.here in
    omega (arith, down.1, same)

-- where the pass has come to each operation that goes on to one, the sum of that one is at most that of each chain to it
at_most : (train : List Operation) (order : List ℕ) (rows : List (List ℕ)) (left : ℕ) (sums : List (Option ℕ)) (reach : ℕ) (marks : List (Option Mark)) (o : ℕ) (front : List ℕ) → IsPass train order rows left sums reach marks
    → ((k p : ℕ) → slice_get order k ≡ Some p → StepsAlong order rows p o → left ≤ k) → Chain order rows (last_of order) front o → (n : ℕ) × (slice_get sums o ≡ Some (Some n)) × (n ≤ sum_by (duration_of train) front)
at_most train order rows left sums reach marks o front pass come chain = by (chain_last order rows (last_of order) front o chain)
  where
    by : ((front ≡ []) × (last_of order ≡ o)) ⊎ LastStep order rows (last_of order) front o → (n : ℕ) × (slice_get sums o ≡ Some (Some n)) × (n ≤ sum_by (duration_of train) front)
    by (inl h) = (pass.starts.0, subst (λ (x : ℕ). slice_get sums x ≡ Some (Some pass.starts.0)) h.1 pass.starts.1, omega (arith, pass.starts.2))
    by (inr last) =
        let known = pass.known last.steps.place last.op o last.before last.steps.here (come last.steps.place last.op last.steps.here last.steps) last.chain last.steps in
        (known.0, known.1, subst (λ (l : List ℕ). known.0 ≤ sum_by (duration_of train) l) (sym last.is) known.2)

-- a step so far leads to it, or behind it
reach_below : (train : List Operation) (order : List ℕ) (rows : List (List ℕ)) (place at : ℕ) (sums : List (Option ℕ)) (reach : ℕ) (marks : List (Option Mark)) (front : List ℕ) → IsAt train order rows place at sums reach marks
    → Chain order rows (last_of order) front at → reach ≤ place
reach_below train order rows place at sums reach marks front is chain = by (chain_last order rows (last_of order) front at chain)
  where
    last : (k : ℕ) × (length order ≡ k + 1) × (slice_get order k ≡ Some (last_of order))
    last = last_here train order rows is.laid

    within : ((reach + 1 ≡ length order) ⊎ Crosses order rows (place + 1) reach) → reach < length order
    within (inl e) = omega (arith, e)
    within (inr cross) = slice_get_within order reach cross.next cross.onto

    by : ((front ≡ []) × (last_of order ≡ at)) ⊎ LastStep order rows (last_of order) front at → reach ≤ place
    by (inl h) =
        let same = is.laid.one_place last.0 place at (subst (λ (x : ℕ). slice_get order last.0 ≡ Some x) h.1 last.2) is.here in
        omega (arith, within is.pass.near, last.1, same)
    by (inr step) = is.pass.far step.steps.place step.op at place step.before step.steps.here (come_before train order rows place at sums reach marks is step.steps.place step.op step.steps.here step.steps) step.chain step.steps is.here

-- ---- where no step leads past it each walk has it

stands : (train : List Operation) (order : List ℕ) (place at k p : ℕ) (rest : List ℕ) → slice_get order place ≡ Some at → slice_get order k ≡ Some p → k ≡ place → Contains (p ∷ rest) at
stands train order place at k p rest here on same = subst (λ (x : ℕ). Contains (x ∷ rest) at) (same_Some at p (sym here ∙ subst (λ (n : ℕ). slice_get order n ≡ Some p) same on)) (contains_here at rest)

passes : (train : List Operation) (order : List ℕ) (rows : List (List ℕ)) (place at : ℕ) (sums : List (Option ℕ)) (reach : ℕ) (marks : List (Option Mark)) (own : List ℕ) → IsAt train order rows place at sums reach marks → reach ≡ place
    → Chain order rows (last_of order) own at → (k p : ℕ) (front rest : List ℕ) → place ≤ k → slice_get order k ≡ Some p → Chain order rows (last_of order) front p → Goes order rows p rest → Contains (p ∷ rest) at
passes train order rows place at sums reach marks own is reached chain k p front [] above on lead stops = elim (cases_lt place k) [
  | inr here ↦ stands train order place at k p [] is.here on (omega (arith, above, here))
  | inl over ↦
      let way = goes_on train order rows place at is.laid is.here in
      let end = ending train order rows (last_of order) place at own way.0 is.laid chain is.here way.1 in
      let same = is.laid.one_end p end.op front end.front lead end.chain stops end.stops in
      absurd (omega (arith, over, end.below, is.laid.one_place k end.place p on (subst (λ (x : ℕ). slice_get order end.place ≡ Some x) (sym same) end.here)))
]
passes train order rows place at sums reach marks own is reached chain k p front (s ∷ rest) above on lead goes = elim (cases_lt place k) [
  | inr here ↦ stands train order place at k p (s ∷ rest) is.here on (omega (arith, above, here))
  | inl over ↦
      let down = is.laid.down k p s on goes.0 in
      contains_later p at (s ∷ rest)
      (passes train order rows place at sums reach marks own is reached chain down.0 s (front ++ p ∷ []) rest (omega (arith, reached, is.pass.far k p s down.0 front on (omega (arith, over)) lead goes.0 down.2)) down.2 (chain_more order rows (last_of order) front p s lead goes.0) goes.1)
]

on_each : (train : List Operation) (order : List ℕ) (rows : List (List ℕ)) (place at : ℕ) (sums : List (Option ℕ)) (reach : ℕ) (marks : List (Option Mark)) (own : List ℕ) → IsAt train order rows place at sums reach marks → reach ≡ place
    → Chain order rows (last_of order) own at → IsOnEach order rows (last_of order) at
on_each train order rows place at sums reach marks own is reached chain [] walk = absurd walk
on_each train order rows place at sums reach marks own is reached chain (p ∷ rest) walk =
    let last = last_here train order rows is.laid in
    passes train order rows place at sums reach marks own is reached chain last.0 p [] rest (omega (arith, last.1, slice_get_within order place at is.here)) (subst (λ (x : ℕ). slice_get order last.0 ≡ Some x) walk.0 last.2) walk.0 walk.1

-- ---- where a step leads past it some walk has it not

not_on : (train : List Operation) (order : List ℕ) (rows : List (List ℕ)) (place at : ℕ) (sums : List (Option ℕ)) (reach : ℕ) (marks : List (Option Mark)) → IsAt train order rows place at sums reach marks → reach < place
    → IsOnEach order rows (last_of order) at → ⊥
not_on train order rows place at sums reach marks is less each = by is.pass.near
  where
    by : ((reach + 1 ≡ length order) ⊎ Crosses order rows (place + 1) reach) → ⊥
    by (inl e) = omega (arith, e, less, slice_get_within order place at is.here)
    by (inr cross) = there (in_front_or_back at cross.front (cross.op ∷ cross.next ∷ way.0) (is_in at (cross.front ++ cross.op ∷ cross.next ∷ way.0) (each (cross.front ++ cross.op ∷ cross.next ∷ way.0) (chain_walk order rows (last_of order) cross.front cross.op (cross.next ∷ way.0) cross.chain (cross.steps, way.1)))))
      where
        way : (rest : List ℕ) × Goes order rows cross.next rest
        way = goes_on train order rows reach cross.next is.laid cross.onto

        last : (k : ℕ) × (length order ≡ k + 1) × (slice_get order k ≡ Some (last_of order))
        last = last_here train order rows is.laid

        elsewhere : (j : ℕ) → slice_get order j ≡ Some at → place ≡ j
        elsewhere j on = is.laid.one_place place j at is.here on

        there : IsIn at cross.front ⊎ IsIn at (cross.op ∷ cross.next ∷ way.0) → ⊥
        there (inl early) =
            let found = chain_above train order rows last.0 (last_of order) cross.front cross.place cross.op is.laid last.2 cross.here cross.chain at early in
            omega (arith, found.1, cross.passed, elsewhere found.0 found.2)
        there (inr (inl same)) = omega (arith, cross.passed, elsewhere cross.place (subst (λ (x : ℕ). slice_get order cross.place ≡ Some x) same cross.here))
        there (inr (inr late)) =
            let found = goes_below train order rows reach cross.next way.0 is.laid cross.onto way.1 at late in
            omega (arith, found.1, less, elsewhere found.0 found.2)

-- where no chain leads to it some walk has it not
none_on : (train : List Operation) (order : List ℕ) (rows : List (List ℕ)) (place at : ℕ) (sums : List (Option ℕ)) (reach : ℕ) (marks : List (Option Mark)) → IsAt train order rows place at sums reach marks
    → ((front : List ℕ) → Chain order rows (last_of order) front at → ⊥) → IsOnEach order rows (last_of order) at → ⊥
none_on train order rows place at sums reach marks is none each =
    let last = last_here train order rows is.laid in
    let way = goes_on train order rows last.0 (last_of order) is.laid last.2 in
    let walk : IsRowWalk order rows (last_of order) (last_of order ∷ way.0) = (refl, way.1) in
    let part = parted at (last_of order ∷ way.0) (is_in at (last_of order ∷ way.0) (each (last_of order ∷ way.0) walk)) in
    none part.before (walk_parts order rows (last_of order) part.before at part.rest (subst (IsRowWalk order rows (last_of order)) part.is walk)).0

-- ---- an operation that no chain leads to

pub visits_none : (train : List Operation) (order : List ℕ) (rows : List (List ℕ)) (place at : ℕ) (sums : List (Option ℕ)) (reach : ℕ) (marks : List (Option Mark)) → IsAt train order rows place at sums reach marks
    → slice_get sums at ≡ Some None → IsPass train order rows place sums reach marks
visits_none train order rows place at sums reach marks is empty = record {
  sums_long = is.pass.sums_long;
  marks_long = is.pass.marks_long;
  unmarked = λ k o here less. is.pass.unmarked k o here (omega (arith, less));
  bound = λ o n known. omega (arith, is.pass.bound o n known);
  sound = is.pass.sound;
  starts = is.pass.starts;
  known = λ k p s front on le chain step. elim (cases_lt place k) [
    | inl over ↦ is.pass.known k p s front on (omega (arith, over)) chain step
    | inr here ↦ absurd (none front (subst (λ (x : ℕ). Chain order rows (last_of order) front x) (own k p on le here) chain))
  ];
  far = λ k p s j front on le chain step onto. elim (cases_lt place k) [
    | inl over ↦ is.pass.far k p s j front on (omega (arith, over)) chain step onto
    | inr here ↦ absurd (none front (subst (λ (x : ℕ). Chain order rows (last_of order) front x) (own k p on le here) chain))
  ];
  near = nearer is.pass.near;
  are_marks = λ k o on le. elim (cases_lt place k) [
    | inl over ↦ is.pass.are_marks k o on (omega (arith, over))
    | inr here ↦ unmarked_here k o on (own k o on le here)
  ];
}
  where
    none : (front : List ℕ) → Chain order rows (last_of order) front at → ⊥
    none front chain = let known = at_most train order rows (place + 1) sums reach marks at front is.pass (come_before train order rows place at sums reach marks is) chain in none-some known.0 (same_Some None (Some known.0) (sym empty ∙ known.1))

    own : (k p : ℕ) → slice_get order k ≡ Some p → place ≤ k → k ≤ place → p ≡ at
    own k p on le ge = let same : k ≡ place = omega (arith, le, ge) in same_Some p at (sym on ∙ subst (λ (n : ℕ). slice_get order n ≡ Some at) (sym same) is.here)

    nearer : (reach + 1 ≡ length order) ⊎ Crosses order rows (place + 1) reach → (reach + 1 ≡ length order) ⊎ Crosses order rows place reach
    nearer (inl e) = inl e
    nearer (inr cross) = inr (record { place = cross.place; op = cross.op; next = cross.next; front = cross.front; here = cross.here; passed = omega (arith, cross.passed); chain = cross.chain; steps = cross.steps; onto = cross.onto })

    unmarked_here : (k o : ℕ) → slice_get order k ≡ Some o → o ≡ at → MatchOption (mark_at marks o) (IsOnEach order rows (last_of order) o → ⊥) (IsMark train order rows o)
    unmarked_here k o on same =
        subst (λ (m : Option Mark). MatchOption m (IsOnEach order rows (last_of order) o → ⊥) (IsMark train order rows o)) (sym (is.pass.unmarked place o (subst (λ (x : ℕ). slice_get order place ≡ Some x) (sym same) is.here) (omega arith)))
        (subst (λ (x : ℕ). IsOnEach order rows (last_of order) x → ⊥) (sym same) (none_on train order rows place at sums reach marks is none))

-- ---- an operation with its sum

pub record IsVisited (train : List Operation) (order places : List ℕ) (rows : List (List ℕ)) (place at sum through : ℕ) (row : List ℕ) (sums : List (Option ℕ)) (reach : ℕ) (marks : List (Option Mark)) : Type 0 where
  pub is_at : IsAt train order rows place at sums reach marks
  pub are_places : ArePlaces train order places
  pub row_is : slice_get rows place ≡ Some row
  pub has : slice_get sums at ≡ Some (Some sum)
  pub through_is : through ≡ sum + duration_of train at
  pub short : duration_of train at < 2 ^ 32

pub visits : (train : List Operation) (order places : List ℕ) (rows : List (List ℕ)) (place at sum through : ℕ) (row : List ℕ) (sums : List (Option ℕ)) (reach : ℕ) (marks : List (Option Mark)) (new : List (Option ℕ)) (least : ℕ) (mark : Option Mark)
    → IsVisited train order places rows place at sum through row sums reach marks → Relaxes row through sums new → IsLowest places reach row least → MatchOption mark (reach ≢ place) (Makes reach place sum row)
    → IsPass train order rows place new least (set marks at mark)
visits train order places rows place at sum through row sums reach marks new least mark is relaxed lowest made = record {
  sums_long = relaxed.long ∙ pass.sums_long;
  marks_long = length-set marks at mark ∙ pass.marks_long;
  unmarked = λ k o on less. get_or-set_other marks at o mark None (λ same. omega (arith, less, laid.one_place k place at (subst (λ (x : ℕ). slice_get order k ≡ Some x) same on) here)) ∙ pass.unmarked k o on (omega (arith, less));
  bound = λ o n known. elim (relaxed.from o n known) [
    | inl old ↦ omega (arith, pass.bound o n old)
    | inr h ↦ omega (arith, h.1, pass.bound at sum is.has, is.through_is, is.short)
  ];
  sound = λ o n known. elim (relaxed.from o n known) [
    | inl old ↦ pass.sound o n old
    | inr h ↦ (own_front.0 ++ at ∷ [], chain_more order rows (last_of order) own_front.0 at o own_front.1 (row_steps order rows place at o row here is.row_is h.0), omega (arith, h.1, is.through_is, own_front.2, sum_more train own_front.0 at))
  ];
  starts = let start = pass.starts in let kept = relaxed.kept (last_of order) start.0 start.1 in (kept.0, kept.1, omega (arith, kept.2, start.2));
  known = λ k p s front on le chain step. elim (cases_lt place k) [
    | inl over ↦ let known = pass.known k p s front on (omega (arith, over)) chain step in let kept = relaxed.kept s known.0 known.1 in (kept.0, kept.1, omega (arith, kept.2, known.2))
    | inr ge ↦ known_here k p s front on (own k p on le ge) chain step
  ];
  far = λ k p s j front on le chain step onto. elim (cases_lt place k) [
    | inl over ↦ omega (arith, lowest.most, pass.far k p s j front on (omega (arith, over)) chain step onto)
    | inr ge ↦ omega (arith, lowest.each s (steps_row train order rows place at s row laid here is.row_is (subst (λ (x : ℕ). StepsAlong order rows x s) (own k p on le ge) step)), is.are_places.at j s onto)
  ];
  near = elim lowest.from [
    | inl same ↦ nearer same pass.near
    | inr h ↦ inr (onto h.0 h.1 h.2)
  ];
  are_marks = λ k o on le. elim (cases_lt place k) [
    | inl over ↦ subst (λ (m : Option Mark). MatchOption m (IsOnEach order rows (last_of order) o → ⊥) (IsMark train order rows o)) (sym (get_or-set_other marks at o mark None (λ same. omega (arith, over, laid.one_place k place at (subst (λ (x : ℕ). slice_get order k ≡ Some x) same on) here)))) (pass.are_marks k o on (omega (arith, over)))
    | inr ge ↦ marked_here o (own k o on le ge)
  ];
}
  where
    pass : IsPass train order rows (place + 1) sums reach marks
    pass = is.is_at.pass

    laid : IsLaid train order rows
    laid = is.is_at.laid

    here : slice_get order place ≡ Some at
    here = is.is_at.here

    own : (k p : ℕ) → slice_get order k ≡ Some p → place ≤ k → k ≤ place → p ≡ at
    own k p on le ge = let same : k ≡ place = omega (arith, le, ge) in same_Some p at (sym on ∙ subst (λ (n : ℕ). slice_get order n ≡ Some at) (sym same) here)

    own_front : (front : List ℕ) × Chain order rows (last_of order) front at × (sum ≡ sum_by (duration_of train) front)
    own_front = pass.sound at sum is.has

    least_here : IsLeastOnRows train order rows (last_of order) at sum
    least_here = record {
      reached = own_front;
      at_most = λ front chain.
          let known = at_most train order rows (place + 1) sums reach marks at front pass (come_before train order rows place at sums reach marks is.is_at) chain in
          let same : known.0 ≡ sum = same_Some known.0 sum (same_Some (Some known.0) (Some sum) (sym known.1 ∙ is.has)) in
          omega (arith, known.2, same);
    }

    known_here : (k p s : ℕ) (front : List ℕ) → slice_get order k ≡ Some p → p ≡ at → Chain order rows (last_of order) front p → StepsAlong order rows p s
        → (n : ℕ) × (slice_get new s ≡ Some (Some n)) × (n ≤ sum_by (duration_of train) (front ++ p ∷ []))
    known_here k p s front on same chain step =
        let lower = relaxed.lower s (steps_row train order rows place at s row laid here is.row_is (subst (λ (x : ℕ). StepsAlong order rows x s) same step)) in
        let most = least_here.at_most front (subst (λ (x : ℕ). Chain order rows (last_of order) front x) same chain) in
        (lower.0, lower.1, omega (arith, lower.2, most, is.through_is, sum_more train front p, ap (duration_of train) same))

    nearer : least ≡ reach → (reach + 1 ≡ length order) ⊎ Crosses order rows (place + 1) reach → (least + 1 ≡ length order) ⊎ Crosses order rows place least
    nearer same (inl e) = inl (omega (arith, same, e))
    nearer same (inr cross) = inr (record { place = cross.place; op = cross.op; next = cross.next; front = cross.front; here = cross.here; passed = omega (arith, cross.passed); chain = cross.chain; steps = cross.steps; onto = subst (λ (n : ℕ). slice_get order n ≡ Some cross.next) (sym same) cross.onto })

    onto : (s : ℕ) → Contains row s → least ≡ get_or places s 0 → Crosses order rows place least
    onto s there e =
        let step = row_steps order rows place at s row here is.row_is there in
        let down = laid.down place at s here step in
        let same : down.0 ≡ least = sym (is.are_places.at down.0 s down.2) ∙ sym e in
        record { place = place; op = at; next = s; front = own_front.0; here = here; passed = omega arith; chain = own_front.1; steps = step; onto = subst (λ (n : ℕ). slice_get order n ≡ Some s) same down.2 }

    not_each : reach ≢ place → IsOnEach order rows (last_of order) at → ⊥
    not_each other = not_on train order rows place at sums reach marks is.is_at (less (reach_below train order rows place at sums reach marks own_front.0 is.is_at own_front.1))
      where
        less : reach ≤ place → reach < place
        less le = elim (cases_lt reach place) [ inl lt ↦ lt | inr ge ↦ absurd (other (omega (arith, le, ge))) ]

    is_mark : (m : Mark) → Makes reach place sum row m → IsMark train order rows at m
    is_mark m makes = record {
      place = subst (λ (n : ℕ). slice_get order n ≡ Some at) (sym makes.place_is) here;
      each = on_each train order rows place at sums reach marks own_front.0 is.is_at makes.reached own_front.1;
      sum = subst (λ (n : ℕ). IsLeastOnRows train order rows (last_of order) at n) (sym makes.sum_is) least_here;
      next = only_steps train order rows place at row m.next laid here is.row_is makes.next_is;
    }

    marked : MatchOption mark (IsOnEach order rows (last_of order) at → ⊥) (IsMark train order rows at)
    marked = matched mark (reach ≢ place) (IsOnEach order rows (last_of order) at → ⊥) (Makes reach place sum row) (IsMark train order rows at) made not_each is_mark

    marked_here : (o : ℕ) → o ≡ at → MatchOption (mark_at (set marks at mark) o) (IsOnEach order rows (last_of order) o → ⊥) (IsMark train order rows o)
    marked_here o same = subst (λ (x : ℕ). MatchOption (mark_at (set marks at mark) x) (IsOnEach order rows (last_of order) x → ⊥) (IsMark train order rows x)) (sym same)
        (subst (λ (m : Option Mark). MatchOption m (IsOnEach order rows (last_of order) at → ⊥) (IsMark train order rows at)) (sym (get_or-set_same marks at mark None (omega (arith, laid.within place at here, pass.marks_long)))) marked)

-- ---- the beginning

none_sum : (n o k : ℕ) → slice_get (replicate n None) o ≡ Some (Some k) → ⊥
none_sum zero o k e = none-some (Some k) e
none_sum (suc n) zero k e = none-some k (same_Some None (Some k) e)
none_sum (suc n) (suc o) k e = none_sum n o k e

none_mark : (n o : ℕ) → mark_at (replicate n None) o ≡ None
none_mark zero o = refl
none_mark (suc n) zero = refl
none_mark (suc n) (suc o) = none_mark n o

pub enters : (train : List Operation) (order : List ℕ) (rows : List (List ℕ)) (left : ℕ) (sums : List (Option ℕ)) (reach : ℕ) (marks : List (Option Mark)) → IsLaid train order rows → left ≡ length order → MarksEntered train order sums reach marks
    → IsPass train order rows left sums reach marks
enters train order rows left sums reach marks laid all is = record {
  sums_long = ap (λ (l : List (Option ℕ)). length l) is.sums_are ∙ length-set (replicate (length train) None) e (Some 0) ∙ length-replicate (length train) None;
  marks_long = ap (λ (l : List (Option Mark)). length l) is.marks_are ∙ length-replicate (length train) None;
  unmarked = λ k o on less. subst (λ (l : List (Option Mark)). mark_at l o ≡ None) (sym is.marks_are) (none_mark (length train) o);
  bound = λ o n known. let only = first o n known in omega (arith, only.1, all);
  sound = λ o n known. let only = first o n known in ([], only.0, only.1);
  starts = (0, subst (λ (l : List (Option ℕ)). slice_get l e ≡ Some (Some 0)) (sym is.sums_are) (set_at (replicate (length train) None) e (Some 0) (omega (arith, inside, length-replicate {A = Option ℕ} (length train) None))), refl);
  known = λ k p s front on le chain step. absurd (omega (arith, le, all, slice_get_within order k p on));
  far = λ k p s j front on le chain step onto. absurd (omega (arith, le, all, slice_get_within order k p on));
  near = inl is.reach_is;
  are_marks = λ k o on le. absurd (omega (arith, le, all, slice_get_within order k o on));
}
  where
    e : ℕ
    e = last_of order

    inside : e < length train
    inside = let last = last_here train order rows laid in laid.within last.0 e last.2

    first : (o n : ℕ) → slice_get sums o ≡ Some (Some n) → (e ≡ o) × (n ≡ 0)
    first o n known = by (subst (λ (l : List (Option ℕ)). slice_get l o ≡ Some (Some n)) is.sums_are known)
      where
        by : slice_get (set (replicate (length train) None) e (Some 0)) o ≡ Some (Some n) → (e ≡ o) × (n ≡ 0)
        by found = elim (same_number o e) [
          | inl same ↦ (sym same, sym (same_Some 0 n (same_Some (Some 0) (Some n) (sym (set_at (replicate (length train) None) e (Some 0) (omega (arith, inside, length-replicate {A = Option ℕ} (length train) None))) ∙ subst (λ (x : ℕ). slice_get (set (replicate (length train) None) e (Some 0)) x ≡ Some (Some n)) same found))))
          | inr other ↦ absurd (none_sum (length train) o n (sym (set_elsewhere (replicate (length train) None) e o (Some 0) other) ∙ found))
        ]

-- ---- the end

pub has_sums : (train : List Operation) (order : List ℕ) (rows : List (List ℕ)) (left : ℕ) (sums : List (Option ℕ)) (reach : ℕ) (marks : List (Option Mark)) → left ≤ 0 → IsPass train order rows left sums reach marks → HasSums train order rows sums
has_sums train order rows left sums reach marks all pass = record {
  are_sums = λ o. elim (cases_lt o (length sums)) [
    | inl lt ↦ by o (sum_at sums o) (slice_get-get_or sums o None lt)
    | inr past ↦
        subst (λ (sum : Option ℕ). MatchOption sum ((front : List ℕ) → Chain order rows (last_of order) front o → ⊥) (IsLeastOnRows train order rows (last_of order) o)) (sym (get_or_past sums o None past))
        (λ front chain. let known = sum_of o front chain in omega (arith, past, slice_get_within sums o (Some known.0) known.1))
  ];
}
  where
    sum_of : (o : ℕ) (front : List ℕ) → Chain order rows (last_of order) front o → (n : ℕ) × (slice_get sums o ≡ Some (Some n)) × (n ≤ sum_by (duration_of train) front)
    sum_of o front chain = at_most train order rows left sums reach marks o front pass (λ k p on step. omega (arith, all)) chain

    by : (o : ℕ) (sum : Option ℕ) → slice_get sums o ≡ Some sum → MatchOption sum ((front : List ℕ) → Chain order rows (last_of order) front o → ⊥) (IsLeastOnRows train order rows (last_of order) o)
    by o None is = λ front chain. let known = sum_of o front chain in none-some known.0 (same_Some None (Some known.0) (sym is ∙ known.1))
    by o (Some n) is = record {
      reached = pass.sound o n is;
      at_most = λ front chain.
          let known = sum_of o front chain in
          omega (arith, known.2, same_Some n known.0 (same_Some (Some n) (Some known.0) (sym is ∙ known.1)));
    }

-- ---- what a pass reads

pub duration_at : (train : List Operation) (at : ℕ) (operation : Operation) → operation ≡ get_or train at operation → at < length train → duration_of train at ≡ operation.min
duration_at train at operation is lt = ap (λ (found : Option Operation). option_map_or (λ p. p.min) found 0) (slice_get-get_or train at operation lt ∙ ap Some (sym is))

-- the row at a place, as it is read
pub row_read : (rows items : List (List ℕ)) (place : ℕ) (found row : List ℕ) → items ≡ rows → found ≡ get_or items place found → row ≡ found → place < length rows → slice_get rows place ≡ Some row
row_read rows items place found row same is read lt = slice_get-get_or rows place found lt ∙ ap Some (sym (subst (λ (l : List (List ℕ)). found ≡ get_or l place found) same is) ∙ sym read)

-- a sum as it is read
pub sum_read : (sums : List (Option ℕ)) (at : ℕ) (read value : Option ℕ) → read ≡ get_or sums at read → read ≡ value → at < length sums → slice_get sums at ≡ Some value
sum_read sums at read value is same lt = slice_get-get_or sums at read lt ∙ ap Some (sym is ∙ same)
