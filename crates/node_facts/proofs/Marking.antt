-- Which operations are on each way, by the marks of walks along rows.
use Rattle.std.proofs.Common.{◌≡◌, ℕ, ◌+◌, ◌-◌, ◌<◌, ◌^◌, ◌++◌, zero, suc, List, [], ◌∷◌, length, get_or, map, replicate, Option, Some, None, Bool, true, false, refl, sym, ap, subst, ◌∙◌, inl, inr, arith}
use Rattle.std.specs.Prelude.{slice_get, slice_index_or, Contains, IsTrue, IsSome, MatchOption, ◌↔◌}
use Rattle.std.specs.Option.{is_some}
use Rattle.std.proofs.lemmas.Bool.{cases_lt, false≢true}
use Rattle.std.proofs.lemmas.Option.{none-some, same_Some, slice_get-get_or, slice_get_within}
use Rattle.std.proofs.lemmas.List.{get_or_past, length_push, length-replicate, length-map}
use Rattle.disp_model.specs.declared.train.Operation.{Operation}
use Rattle.disp_model.specs.Train.{IsSuccessor, IsExit}
use Rattle.disp_model.specs.WellFormed.{IsAcyclic}
use Rattle.train_orders.specs.Orders.{IsOrder}
use Rattle.train_orders.proofs.Ordered.{one_place, has_last}
use Rattle.train_orders.proofs.Places.{at_contains, contains_at, contains_none, get_push_cases}
use Rattle.route_marks.specs.declared.marks.Mark.{Mark}
use Rattle.route_marks.specs.Ways.{StepsAlong, Goes, IsRowWalk, Chain}
use Rattle.route_marks.specs.Ways as walks
use Rattle.route_marks.specs.Marks.{IsLaid, IsMark, mark_at, HasMarks, sum_at}
use Rattle.route_marks.proofs.Keeping.{earlier}
use Rattle.node_facts.specs.declared.demands.Demand.{Demand}
use Rattle.node_facts.specs.Known.{IsOnEachRoute, AreOnEach}
use Rattle.node_facts.specs.Live.{AreRowsTo, AreLiveRows, IsLiveStep}
use Rattle.node_facts.specs.Ways.{IsWay, way_sum, HasSum, AreSums}
use Rattle.route_marks.specs.Ways.{last_of}
use Rattle.node_facts.proofs.Knowing.{some_has}

module _ (train : List Operation) (order places : List ℕ) (demands : List Demand) (sums : List (Option ℕ)) where
  -- ---- one row more

  pub rows_none : (rows : List (List ℕ)) → rows ≡ [] → AreRowsTo 0 train order places demands sums rows
  rows_none rows none = subst (λ (l : List (List ℕ)). AreRowsTo 0 train order places demands sums l) (sym none) (record { long = refl; each = λ k o row here row_is. absurd (none-some row row_is) })

  pub rows_more : (i o : ℕ) (rows : List (List ℕ)) (row : List ℕ) → slice_get order i ≡ Some o
      → ((s : ℕ) → Contains row s ↔ (IsSuccessor train o s × IsLiveStep places demands sums o s)) → AreRowsTo i train order places demands sums rows → AreRowsTo (i + 1) train order places demands sums (rows ++ row ∷ [])
  rows_more i o rows row here says before = record {
    long = length_push rows row ∙ ap (λ (n : ℕ). n + 1) before.long;
    each = λ k p other at other_is. elim (get_push_cases rows row other k other_is) [
      | inl early ↦ before.each k p other at early
      | inr last ↦
          let same : o ≡ p = same_Some o p (sym here ∙ subst (λ (n : ℕ). slice_get order n ≡ Some p) (last.0 ∙ before.long) at) in
          subst (λ (l : List ℕ). (s : ℕ) → Contains l s ↔ (IsSuccessor train p s × IsLiveStep places demands sums p s)) last.1
          (subst (λ (x : ℕ). (s : ℕ) → Contains row s ↔ (IsSuccessor train x s × IsLiveStep places demands sums x s)) same says)
    ];
  }

  -- ---- ways are the walks along the rows

  module _ (rows : List (List ℕ)) (acyclic : IsAcyclic train) (ordered : IsOrder train order) (summed : AreSums train places demands sums) (live : AreLiveRows train order places demands sums rows) where
    -- what has a way has a sum
    way_leads : (o : ℕ) (rest : List ℕ) → IsWay train places demands o rest → IsSome (sum_at sums o)
    way_leads o rest way = (some_has (HasSum train places demands o) (sum_at sums o) (summed o)).1 (way_sum train o rest, record { rest = rest; way = way; sum_is = refl })

    leads_way : (o : ℕ) → IsSome (sum_at sums o) → (rest : List ℕ) × IsWay train places demands o rest
    leads_way o some = let found = (some_has (HasSum train places demands o) (sum_at sums o) (summed o)).0 some in (found.1.rest, found.1.way)

    step_says : (o s : ℕ) → StepsAlong order rows o s → IsSuccessor train o s × IsLiveStep places demands sums o s
    step_says o s step = (live.each step.place o step.row step.here step.row_is s).0 step.has

    steps : (k o s : ℕ) → slice_get order k ≡ Some o → IsSuccessor train o s → IsLiveStep places demands sums o s → StepsAlong order rows o s
    steps k o s here next is = record { place = k; row = get_or rows k []; here = here; row_is = row_is; has = (live.each k o (get_or rows k []) here row_is s).1 (next, is) }
      where
        row_is : slice_get rows k ≡ Some (get_or rows k [])
        row_is = slice_get-get_or rows k [] (omega (arith, slice_get_within order k o here, live.long))

    no_successor : (o s : ℕ) → IsExit train o → IsSuccessor train o s → ⊥
    no_successor o s exit next = contains_none s (subst (λ (l : List ℕ). Contains l s) exit.last next)

    way_goes : (k o : ℕ) (rest : List ℕ) → slice_get order k ≡ Some o → IsWay train places demands o rest → Goes order rows o rest
    way_goes k o [] here way = λ s step. no_successor o s way.0 (step_says o s step).0
    way_goes k o (s ∷ rest) here (next, may, way) =
        let place = earlier train order k o s ordered here next in
        (steps k o s here next (record { may = may; leads = way_leads s rest way }), way_goes place.0 s rest place.2 way)

    -- an operation with a way that goes on to none is the exit
    stops : (k o : ℕ) (rest : List ℕ) → slice_get order k ≡ Some o → Goes order rows o [] → IsWay train places demands o rest → IsWay train places demands o []
    stops k o [] here goes way = way
    stops k o (s ∷ rest) here goes (next, may, way) = absurd (goes s (steps k o s here next (record { may = may; leads = way_leads s rest way })))

    goes_way : (k o : ℕ) (rest : List ℕ) → slice_get order k ≡ Some o → IsSome (sum_at sums o) → Goes order rows o rest → IsWay train places demands o rest
    goes_way k o [] here some goes = let way = leads_way o some in stops k o way.0 here goes way.1
    goes_way k o (s ∷ rest) here some (step, goes) =
        let says = step_says o s step in
        let place = earlier train order k o s ordered here says.0 in
        (says.0, says.1.may, goes_way place.0 s rest place.2 says.1.leads goes)

    -- what a chain leads to has a way, and stands in the order
    chained : (k o z : ℕ) (front : List ℕ) → slice_get order k ≡ Some o → IsSome (sum_at sums o) → Chain order rows o front z → ((j : ℕ) × (slice_get order j ≡ Some z)) × IsSome (sum_at sums z)
    chained k o z [] here some same = subst (λ (x : ℕ). ((j : ℕ) × (slice_get order j ≡ Some x)) × IsSome (sum_at sums x)) same ((k, here), some)
    chained k o z (p ∷ front) here some (same, (s, step, rest)) =
        let says = step_says o s (subst (λ (x : ℕ). StepsAlong order rows x s) (sym same) step) in
        let place = earlier train order k o s ordered here says.0 in
        chained place.0 s z front place.2 says.1.leads rest

    module _ (fits : length order < 2 ^ 31) (some : IsSome (sum_at sums (last_of order))) where
      last : (k : ℕ) × (e : ℕ) × (length order ≡ k + 1) × (slice_get order k ≡ Some e)
      last = has_last train order acyclic ordered

      last_here : slice_get order (length order - 1) ≡ Some (last_of order)
      last_here = slice_get-get_or order (length order - 1) 0 (omega (arith, last.2))

      ends : (front : List ℕ) (o : ℕ) → Chain order rows (last_of order) front o → Goes order rows o [] → IsExit train o
      ends front o chain goes =
          let found = chained (length order - 1) (last_of order) o front last_here some chain in
          (goes_way found.0.0 o [] found.0.1 found.1 goes).0

      pub laid : IsLaid train order rows
      laid = record {
        some = omega (arith, last.2);
        fits = fits;
        long = live.long;
        within = λ k o here. ordered.is_behind.within o (contains_at order o k here);
        one_place = λ i j o first second. one_place train order i j o ordered first second;
        down = λ k o s here step. earlier train order k o s ordered here (step_says o s step).0;
        one_end = λ o z front other first second stops_here ends_here. acyclic.one_exit o z (ends front o first stops_here) (ends other z second ends_here);
      }

      each_way : (o : ℕ) → walks.IsOnEach order rows (last_of order) o → IsOnEachRoute train places demands (last_of order) o
      each_way o on_each rest way = on_each (last_of order ∷ rest) (refl, way_goes (length order - 1) (last_of order) rest last_here way)

      each_walk : (o : ℕ) → IsOnEachRoute train places demands (last_of order) o → walks.IsOnEach order rows (last_of order) o
      each_walk o on_each [] walk = absurd walk
      each_walk o on_each (p ∷ rest) (same, goes) =
          subst (λ (x : ℕ). Contains (x ∷ rest) o) same (on_each rest (goes_way (length order - 1) (last_of order) rest last_here some (subst (λ (x : ℕ). Goes order rows x rest) (sym same) goes)))

      -- the marks tell which operations are on each way
      marked_each : (marks : List (Option Mark)) → HasMarks train order rows marks → (o : ℕ) (mark : Option Mark) → o < length train → mark ≡ mark_at marks o
          → IsTrue (is_some mark) ↔ ((o < length train) × IsOnEachRoute train places demands (last_of order) o)
      marked_each marks has o mark there is =
          let place = at_contains order o (ordered.has o there) in
          by mark (subst (λ (m : Option Mark). MatchOption m (walks.IsOnEach order rows (last_of order) o → ⊥) (IsMark train order rows o)) (sym is) (has.are_marks place.0 o place.1 (omega arith)))
        where
          by : (mark : Option Mark) → MatchOption mark (walks.IsOnEach order rows (last_of order) o → ⊥) (IsMark train order rows o)
              → IsTrue (is_some mark) ↔ ((o < length train) × IsOnEachRoute train places demands (last_of order) o)
          by None not = (λ h. absurd (false≢true h), λ h. absurd (not (each_walk o h.1)))
          by (Some mark) mark_is = (λ h. (there, each_way o mark_is.each), λ h. refl)

      pub needed_marks : (marks : List (Option Mark)) → HasMarks train order rows marks → AreOnEach train places demands (last_of order) (map is_some marks)
      needed_marks marks has o = elim (cases_lt o (length train)) [
        | inl there ↦
            rw (mapped marks o (omega (arith, there, has.long))) (marked_each marks has o (mark_at marks o) there refl)
        | inr past ↦
            rw (get_or_past (map is_some marks) o false (omega (arith, past, has.long, length-map marks is_some))) (λ h. absurd (false≢true h), λ h. absurd (omega (arith, past, h.0)))
      ]
        where
          mapped : (marks : List (Option Mark)) (o : ℕ) → o < length marks → slice_index_or (map is_some marks) o false ≡ is_some (mark_at marks o)
          mapped [] o lt = absurd (omega (arith, lt))
          mapped (mark ∷ marks) zero lt = refl
          mapped (mark ∷ marks) (suc o) lt = mapped marks o (omega (arith, lt))

  -- where there is no way each operation is on each
  pub needed_all : (e : ℕ) (marks : List Bool) → AreSums train places demands sums → (IsSome (sum_at sums e) → ⊥) → marks ≡ replicate (length train) true → AreOnEach train places demands e marks
  needed_all e marks summed none all o = subst (λ (l : List Bool). IsTrue (slice_index_or l o false) ↔ ((o < length train) × IsOnEachRoute train places demands e o)) (sym all) (elim (cases_lt o (length train)) [
    | inl there ↦ rw (get_or_replicate (length train) o there) (λ h. (there, λ rest way. absurd (no_way rest way)), λ h. refl)
    | inr past ↦ rw (get_or_past (replicate (length train) true) o false (omega (arith, past, length-replicate (length train) true))) (λ h. absurd (false≢true h), λ h. absurd (omega (arith, past, h.0)))
  ])
    where
      no_way : (rest : List ℕ) → IsWay train places demands e rest → ⊥
      no_way rest way = none ((some_has (HasSum train places demands e) (sum_at sums e) (summed e)).1 (way_sum train e rest, record { rest = rest; way = way; sum_is = refl }))

      get_or_replicate : (n o : ℕ) → o < n → slice_index_or (replicate n true) o false ≡ true
      get_or_replicate zero o lt = absurd (omega (arith, lt))
      get_or_replicate (suc n) zero lt = refl
      get_or_replicate (suc n) (suc o) lt = get_or_replicate n o (omega (arith, lt))
