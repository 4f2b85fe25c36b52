-- Marked nodes between two places move behind the others that are there.
use Rattle.std.proofs.Common.{◌≡◌, ◌≢◌, ℕ, ◌+◌, ◌-◌, ◌<◌, ◌≤◌, Bool, true, false, List, ◌++◌, ◌⊎◌, inl, inr, length, get_or, take, drop, filter, refl, sym, ap, ◌∙◌, subst, arith, Contains}
use Rattle.std.specs.Prelude.{AllPairs, All, slice_range, not}
use Rattle.std.proofs.Math.Bool.{beq}
use Rattle.std.proofs.lemmas.List.Filters.{length-filter_both}
use Rattle.std.proofs.lemmas.Bool.{cases_lt, cases_eq, cases_Bool, false≢true}
use Rattle.std.proofs.lemmas.List.{get_or_default, get_or-take, get_or-drop, length-append, length-take, length-drop, get_or_append_left, get_or-append_right}
use Rattle.std.proofs.lemmas.List.Kept.{AllPairs-filter}
use Rattle.std.proofs.lemmas.List.Elements.{Contains-append_left, Contains-append_right, Contains-append_cases}
use Rattle.incremental_paths.specs.Ordered.{AreOrdered, IsLifted, is_marked, is_as}
use Rattle.incremental_paths.proofs.Members.{Contains-filter}
use Rattle.incremental_paths.proofs.Pairs.{contains_at, from_filter, beq_is, is_beq, pairs_append, pairs_take, pairs_drop, pairs_weaker}

-- the list with those of a part that are marked behind the others of that part
abbrev pub lifted_nodes : List Bool → List ℕ → ℕ → ℕ → List ℕ
lifted_nodes marks N low end = (take low N ++ (filter (is_as marks false) (slice_range N low end) ++ filter (is_as marks true) (slice_range N low end))) ++ drop end N

other_mark : (b : Bool) → beq b true ≡ not (beq b false)
other_mark true = refl
other_mark false = refl

module _ (P N : List ℕ) (o : AreOrdered P N) (marks : List Bool) (low high : ℕ) (low_high : low ≤ high) (in_list : high < length N) where
  place : ℕ → ℕ
  place v = get_or P v 0

  place_at : (i x : ℕ) → i < length N → get_or N i x ≡ x → get_or P x 0 ≡ i
  place_at i x lt e = ap (λ z. get_or P z 0) (sym e ∙ get_or_default N i x 0 lt) ∙ (o.node_at i lt).1

  in_nodes : (i x : ℕ) → i < length N → get_or N i x ≡ x → x < length P
  in_nodes i x lt e = subst (λ z. z < length P) (sym (get_or_default N i x 0 lt) ∙ e) (o.node_at i lt).0

  front : List ℕ
  front = take low N

  part : List ℕ
  part = slice_range N low (high + 1)

  back : List ℕ
  back = drop (high + 1) N

  others : List ℕ
  unfolding part
  others = filter (is_as marks false) part

  marked : List ℕ
  unfolding part
  marked = filter (is_as marks true) part

  in_front : (x : ℕ) → Contains front x → (get_or P x 0 < low) × (x < length P)
  unfolding front
  in_front x c =
      let all = length-take low N in
      let lt : c.0 < length N = omega (arith, c.1, all) in
      let e : get_or N c.0 x ≡ x = sym (get_or-take low N c.0 x (omega (arith, c.1, all))) ∙ c.2 in
      let at = place_at c.0 x lt e in
      (omega (arith, at, c.1, all), in_nodes c.0 x lt e)

  in_part : (x : ℕ) → Contains part x → (low ≤ get_or P x 0) × (get_or P x 0 ≤ high) × (x < length P)
  unfolding part
  in_part x c =
      let all = length-take (high + 1 - low) (drop low N) in
      let short : c.0 < high + 1 - low = omega (arith, c.1, all) in
      let lt : low + c.0 < length N = omega (arith, short, in_list) in
      let e : get_or N (low + c.0) x ≡ x = sym (get_or-take (high + 1 - low) (drop low N) c.0 x short ∙ get_or-drop low N c.0 x) ∙ c.2 in
      let at = place_at (low + c.0) x lt e in
      (omega (arith, at), omega (arith, at, short), in_nodes (low + c.0) x lt e)

  in_back : (x : ℕ) → Contains back x → (high < get_or P x 0) × (x < length P)
  unfolding back
  in_back x c =
      let lt : high + 1 + c.0 < length N = omega (arith, c.1, length-drop (high + 1) N) in
      let e : get_or N (high + 1 + c.0) x ≡ x = sym (get_or-drop (high + 1) N c.0 x) ∙ c.2 in
      let at = place_at (high + 1 + c.0) x lt e in
      (omega (arith, at), in_nodes (high + 1 + c.0) x lt e)

  in_others : (x : ℕ) → Contains others x → Contains part x × (is_marked marks x ≡ false)
  unfolding others
  in_others x c = let h = from_filter (is_as marks false) part x c in (h.0, beq_is (is_marked marks x) false h.1)

  in_marked : (x : ℕ) → Contains marked x → Contains part x × (is_marked marks x ≡ true)
  unfolding marked
  in_marked x c = let h = from_filter (is_as marks true) part x c in (h.0, beq_is (is_marked marks x) true h.1)

  increases : AllPairs (λ s t. get_or P s 0 < get_or P t 0) N
  increases i j d lt below =
      let at_i = place_at i (get_or N i d) (omega (arith, lt, below)) (get_or_default N i (get_or N i d) d (omega (arith, lt, below))) in
      let at_j = place_at j (get_or N j d) below (get_or_default N j (get_or N j d) d below) in
      omega (arith, at_i, at_j, lt)

  -- s may stand before t: it did, and not as a marked node before another of the part, or it is none of the marked and t is
  Before : ℕ → ℕ → Type 0
  Before s t = ((get_or P s 0 < get_or P t 0) × (is_marked marks s ≡ true → is_marked marks t ≡ false → low ≤ get_or P s 0 → get_or P t 0 ≤ high → ⊥))
      ⊎ ((is_marked marks s ≡ false) × (is_marked marks t ≡ true) × (get_or P s 0 ≤ high) × (low ≤ get_or P t 0))

  Rising : ℕ → ℕ → Type 0
  Rising s t = get_or P s 0 < get_or P t 0

  apart : (b : Bool) → b ≡ true → b ≡ false → ⊥
  apart b e f = false≢true (sym f ∙ e)

  front_before : AllPairs Before front
  unfolding front Before
  front_before = pairs_weaker (λ s t. get_or P s 0 < get_or P t 0) Before front (λ s t cs ct lt. inl (lt, λ m n a b. absurd (omega (arith, a, (in_front s cs).0)))) (pairs_take (λ s t. get_or P s 0 < get_or P t 0) low N increases)

  back_before : AllPairs Before back
  unfolding back Before
  back_before = pairs_weaker (λ s t. get_or P s 0 < get_or P t 0) Before back (λ s t cs ct lt. inl (lt, λ m n a b. absurd (omega (arith, b, (in_back t ct).0)))) (pairs_drop (λ s t. get_or P s 0 < get_or P t 0) (high + 1) N increases)

  part_rising : AllPairs (λ s t. get_or P s 0 < get_or P t 0) part
  unfolding part
  part_rising = pairs_take (λ s t. get_or P s 0 < get_or P t 0) (high + 1 - low) (drop low N) (pairs_drop (λ s t. get_or P s 0 < get_or P t 0) low N increases)

  others_before : AllPairs Before others
  unfolding others Before
  others_before = pairs_weaker (λ s t. get_or P s 0 < get_or P t 0) Before others (λ s t cs ct lt. inl (lt, λ m n a b. apart (is_marked marks s) m (in_others s cs).1)) (AllPairs-filter (λ s t. get_or P s 0 < get_or P t 0) (is_as marks false) part part_rising)

  marked_before : AllPairs Before marked
  unfolding marked Before
  marked_before = pairs_weaker (λ s t. get_or P s 0 < get_or P t 0) Before marked (λ s t cs ct lt. inl (lt, λ m n a b. apart (is_marked marks t) (in_marked t ct).1 n)) (AllPairs-filter (λ s t. get_or P s 0 < get_or P t 0) (is_as marks true) part part_rising)

  middle_before : AllPairs Before (others ++ marked)
  unfolding Before
  middle_before = pairs_append Before others marked others_before marked_before (λ s t cs ct.
      let a = in_others s cs in let b = in_marked t ct in
      inr (a.1, b.1, (in_part s a.0).1, (in_part t b.0).0))

  in_middle : (x : ℕ) → Contains (others ++ marked) x → Contains part x
  in_middle x c = elim (Contains-append_cases others marked x c) [ inl a ↦ (in_others x a).0 | inr b ↦ (in_marked x b).0 ]

  head_before : AllPairs Before (front ++ (others ++ marked))
  unfolding Before
  head_before = pairs_append Before front (others ++ marked) front_before middle_before (λ s t cs ct.
      let a = in_front s cs in let b = in_part t (in_middle t ct) in
      inl (omega (arith, a.0, b.0), λ m n x y. absurd (omega (arith, x, a.0))))

  in_head : (x : ℕ) → Contains (front ++ (others ++ marked)) x → (get_or P x 0 ≤ high) × (x < length P)
  in_head x c = elim (Contains-append_cases front (others ++ marked) x c) [
    | inl a ↦ let h = in_front x a in (omega (arith, h.0, low_high), h.1)
    | inr b ↦ let h = in_part x (in_middle x b) in (h.1, h.2)
  ]

  all : List ℕ
  unfolding front others marked part back
  all = lifted_nodes marks N low (high + 1)

  all_before : AllPairs Before all
  unfolding Before all front others marked part back
  all_before = pairs_append Before (front ++ (others ++ marked)) back head_before back_before (λ s t cs ct.
      let a = in_head s cs in let b = in_back t ct in
      inl (omega (arith, a.0, b.0), λ m n x y. absurd (omega (arith, y, b.0))))

  all_within : (x : ℕ) → Contains all x → x < length P
  unfolding all front others marked part back
  all_within x c = elim (Contains-append_cases (front ++ (others ++ marked)) back x c) [ inl a ↦ (in_head x a).1 | inr b ↦ (in_back x b).1 ]

  has_part : (x : ℕ) → Contains part x → Contains (others ++ marked) x
  unfolding others marked
  has_part x c = elim (cases_Bool (is_marked marks x)) [
    | inl m ↦ Contains-append_right others marked x (Contains-filter (is_as marks true) part x c (is_beq (is_marked marks x) true m))
    | inr m ↦ Contains-append_left others marked x (Contains-filter (is_as marks false) part x c (is_beq (is_marked marks x) false m))
  ]

  has_all : (x : ℕ) → x < length P → Contains all x
  unfolding all front others marked part back
  has_all x lt =
      let i = get_or P x 0 in
      let h = o.place_of x lt in
      let e : get_or N i x ≡ x = get_or_default N i x 0 h.0 ∙ h.1 in
      elim (cases_lt i (high + 1)) [
        | inl less ↦ Contains-append_left (front ++ (others ++ marked)) back x (elim (cases_lt i low) [
          | inl below ↦ Contains-append_left front (others ++ marked) x (i, omega (arith, below, h.0, length-take low N), get_or-take low N i x below ∙ e)
          | inr above ↦
              let back_to : low + (i - low) ≡ i = omega (arith, above) in
              let short : i - low < high + 1 - low = omega (arith, above, less) in
              let at : get_or (drop low N) (i - low) x ≡ x = get_or-drop low N (i - low) x ∙ ap (λ z. get_or N z x) back_to ∙ e in
              Contains-append_right front (others ++ marked) x (has_part x (i - low, omega (arith, short, h.0, above, length-take (high + 1 - low) (drop low N), length-drop low N), get_or-take (high + 1 - low) (drop low N) (i - low) x short ∙ at))
        ])
        | inr over ↦
            let back_to : high + 1 + (i - (high + 1)) ≡ i = omega (arith, over) in
            Contains-append_right (front ++ (others ++ marked)) back x (i - (high + 1), omega (arith, h.0, over, length-drop (high + 1) N), get_or-drop (high + 1) N (i - (high + 1)) x ∙ ap (λ z. get_or N z x) back_to ∙ e)
      ]

  middle_long : length (others ++ marked) ≡ high + 1 - low
  unfolding others marked part
  middle_long =
      let both : length (filter (is_as marks false) part) + length (filter (is_as marks true) part) ≡ length part = length-filter_both (is_as marks false) (is_as marks true) (λ x. other_mark (is_marked marks x)) part in
      omega (arith, length-append others marked, both, length-take (high + 1 - low) (drop low N), length-drop low N, in_list, low_high)

  -- what is written over that part
  pub lifted_written : (moved new : List ℕ) → moved ≡ filter (is_as marks false) (slice_range N low (high + 1)) ++ filter (is_as marks true) (slice_range N low (high + 1))
      → new ≡ (take low N ++ moved) ++ drop (low + length moved) N → new ≡ lifted_nodes marks N low (high + 1)
  unfolding others marked part
  lifted_written moved new em en =
      let end : low + length moved ≡ high + 1 = omega (arith, ap length em, middle_long, low_high) in
      en ∙ ap (λ z. (take low N ++ moved) ++ drop z N) end ∙ ap (λ z. (take low N ++ z) ++ drop (high + 1) N) em

  pub lifted_fits : (moved : List ℕ) → moved ≡ filter (is_as marks false) (slice_range N low (high + 1)) ++ filter (is_as marks true) (slice_range N low (high + 1)) → low + length moved ≤ length N
  unfolding others marked part
  lifted_fits moved em = omega (arith, ap length em, middle_long, low_high, in_list)

  head_long : length (front ++ (others ++ marked)) ≡ high + 1
  unfolding front
  head_long = omega (arith, length-append front (others ++ marked), middle_long, length-take low N, in_list, low_high)

  pub lifted_long : length (lifted_nodes marks N low (high + 1)) ≡ length N
  unfolding front others marked part back
  lifted_long = omega (arith, length-append (front ++ (others ++ marked)) back, head_long, length-drop (high + 1) N, in_list)

  pub lifted_apart : AllPairs (λ u v. u ≢ v) (lifted_nodes marks N low (high + 1))
  unfolding Before all front others marked part back
  lifted_apart = pairs_weaker Before (λ u v. u ≢ v) all (λ s t cs ct b e. elim b [
    | inl lt ↦ absurd (omega (arith, lt.0, ap (λ z. get_or P z 0) e))
    | inr m ↦ apart (is_marked marks t) m.1 (ap (is_marked marks) (sym e) ∙ m.0)
  ]) all_before

  pub lifted_within : All (λ v. v < length N) (lifted_nodes marks N low (high + 1))
  unfolding all front others marked part back
  lifted_within k d lt = omega (arith, all_within (get_or all k d) (contains_at all k d lt), o.as_many)

  pub lifted_front : (i : ℕ) → i < low → get_or P (get_or (lifted_nodes marks N low (high + 1)) i 0) 0 ≡ i
  unfolding front others marked part back
  lifted_front i lt =
      let long = length-take low N in
      let in_first : i < length front = omega (arith, lt, long, in_list, low_high) in
      let in_both : i < length (front ++ (others ++ marked)) = omega (arith, lt, head_long, low_high) in
      let e : get_or ((front ++ (others ++ marked)) ++ back) i 0 ≡ get_or N i 0 = get_or_append_left (front ++ (others ++ marked)) back 0 i in_both ∙ get_or_append_left front (others ++ marked) 0 i in_first ∙ get_or-take low N i 0 lt in
      ap (λ z. get_or P z 0) e ∙ (o.node_at i (omega (arith, lt, low_high, in_list))).1

  pub lifted_rest : (i : ℕ) → high + 1 ≤ i → i < length N → get_or P (get_or (lifted_nodes marks N low (high + 1)) i 0) 0 ≡ i
  unfolding front others marked part back
  lifted_rest i le lt =
      let back_to : high + 1 + (i - (high + 1)) ≡ i = omega (arith, le) in
      let e : get_or ((front ++ (others ++ marked)) ++ back) i 0 ≡ get_or N i 0 = get_or-append_right (front ++ (others ++ marked)) back (high + 1) i 0 head_long le ∙ get_or-drop (high + 1) N (i - (high + 1)) 0 ∙ ap (λ z. get_or N z 0) back_to in
      ap (λ z. get_or P z 0) e ∙ (o.node_at i lt).1

  module _ (Q : List ℕ) (as_long : length Q ≡ length P) (numbered : (i : ℕ) → i < length N → get_or Q (get_or (lifted_nodes marks N low (high + 1)) i 0) 0 ≡ i) where
    new_place : (v : ℕ) → v < length P → (get_or Q v 0 < length N) × (get_or (lifted_nodes marks N low (high + 1)) (get_or Q v 0) 0 ≡ v)
    unfolding all front others marked part back
    new_place v lt =
        let c = has_all v lt in
        let below : c.0 < length N = omega (arith, c.1, lifted_long) in
        let e : get_or all c.0 0 ≡ v = get_or_default all c.0 0 v c.1 ∙ c.2 in
        let at : get_or Q v 0 ≡ c.0 = ap (λ z. get_or Q z 0) (sym e) ∙ numbered c.0 below in
        (omega (arith, at, below), ap (λ z. get_or all z 0) at ∙ e)

    pub lifted_ordered : AreOrdered Q (lifted_nodes marks N low (high + 1))
    unfolding all front others marked part back
    lifted_ordered = record {
      few = omega (arith, o.few, lifted_long);
      as_many = omega (arith, as_long, o.as_many, lifted_long);
      place_of = λ v lt. let h = new_place v (omega (arith, lt, as_long)) in (omega (arith, h.0, lifted_long), h.1);
      node_at = λ i lt. (omega (arith, all_within (get_or all i 0) (contains_at all i 0 lt), as_long), numbered i (omega (arith, lt, lifted_long)));
    }

    -- the node that may not stand before another stands behind it
    behind : (u v : ℕ) → u < length P → v < length P → u ≢ v → (Before v u → ⊥) → get_or Q u 0 < get_or Q v 0
    unfolding all front others marked part back
    behind u v in_u in_v other not =
        let hu = new_place u in_u in
        let hv = new_place v in_v in
        elim (cases_lt (get_or Q u 0) (get_or Q v 0)) [
          | inl lt ↦ lt
          | inr le ↦ elim (cases_eq (get_or Q v 0) (get_or Q u 0)) [
            | inl same ↦ absurd (other (sym hu.1 ∙ ap (λ z. get_or all z 0) (sym same) ∙ hv.1))
            | inr less ↦
                let b = all_before (get_or Q v 0) (get_or Q u 0) 0 (omega (arith, le, less)) (omega (arith, hu.0, lifted_long)) in
                absurd (not (subst (λ z. Before z u) hv.1 (subst (λ z. Before (get_or all (get_or Q v 0) 0) z) hu.1 b)))
          ]
        ]

    pub lifted_is : IsLifted marks low high P Q
    unfolding Before
    lifted_is = record {
      kept = λ u v in_u in_v lt free. behind u v in_u in_v (λ e. absurd (omega (arith, lt, ap (λ z. get_or P z 0) e))) (λ b. elim b [
        | inl h ↦ absurd (omega (arith, h.0, lt))
        | inr h ↦ apart (is_marked marks v) (free h.3 h.2 h.1) h.0
      ]);
      lifted = λ u v in_u in_v mu mv lu hu lv hv. behind u v in_u in_v (λ e. apart (is_marked marks v) mv (ap (is_marked marks) (sym e) ∙ mu)) (λ b. elim b [
        | inl h ↦ h.1 mv mu lv hu
        | inr h ↦ apart (is_marked marks v) mv h.0
      ]);
    }
