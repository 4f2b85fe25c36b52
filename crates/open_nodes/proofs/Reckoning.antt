-- The least bounds of blocks, where places change and blocks are reckoned anew.
use Rattle.std.proofs.Common.{◌≡◌, ◌≢◌, ◌∙◌, ℕ, zero, suc, ◌+◌, ◌-◌, ◌*◌, ◌/◌, ◌<◌, ◌≤◌, List, [], ◌∷◌, ◌++◌, length, get_or, inl, inr, refl, sym, ap, subst, arith}
use Rattle.std.specs.Prelude.{Option, Some, None, ◌⊎◌, slice_get, min}
use Rattle.std.proofs.Math.ListN.{get_or-append}
use Rattle.std.proofs.Math.Seq.{get_or-append_right}
use Rattle.std.proofs.lemmas.Bool.{cases_eq, cases_lt}
use Rattle.std.proofs.lemmas.List.{get_or_past}
use Rattle.std.proofs.lemmas.Option.{same_Some, slice_get_past, slice_get_within}
use Rattle.least_bounds.specs.Tournaments.{bound_at, lesser_bound}
use Rattle.open_nodes.specs.declared.place.Place.{Place}
use Rattle.open_nodes.specs.declared.blocks.Pool.{Pool}
use Rattle.open_nodes.specs.Blocks.{IsRangeLeast, IsBlockLeast, AreBlockLeast, AreBlockLeastBut, IsBlockSet, HaveSameBounds, HaveChanged, IsFirstBlock}
use Rattle.open_nodes.proofs.Paths.{no_some}

-- ---- the lesser of two

lesser_left : (x y : Option ℕ) (b : ℕ) → x ≡ Some b → (m : ℕ) × (lesser_bound x y ≡ Some m) × (m ≤ b)
lesser_left None y b e = absurd (no_some b e)
lesser_left (Some a) None b e = let same : a ≡ b = same_Some a b e in (a, refl, omega (arith, same))
lesser_left (Some a) (Some c) b e = let same : a ≡ b = same_Some a b e in (min a c, refl, omega (arith, same))

lesser_right : (x y : Option ℕ) (b : ℕ) → y ≡ Some b → (m : ℕ) × (lesser_bound x y ≡ Some m) × (m ≤ b)
lesser_right None y b e = (b, e, omega arith)
lesser_right (Some a) None b e = absurd (no_some b e)
lesser_right (Some a) (Some c) b e = let same : c ≡ b = same_Some c b e in (min a c, refl, omega (arith, same))

lesser_either : (x y : Option ℕ) (m : ℕ) → lesser_bound x y ≡ Some m → (x ≡ Some m) ⊎ (y ≡ Some m)
lesser_either None y m e = inr e
lesser_either (Some a) None m e = inl e
lesser_either (Some a) (Some b) m e =
    let least : min a b ≡ m = same_Some (min a b) m e in
    elim (cases_lt a b) [
      | inl lt ↦ let is : a ≡ m = omega (arith, least, lt) in inl (ap Some is)
      | inr le ↦ let is : b ≡ m = omega (arith, least, le) in inr (ap Some is)
    ]

module _ (pool : Pool) (places : List Place) where
  pub range_none : (from : ℕ) → IsRangeLeast pool places from from None
  range_none from = record { lower = λ n p above below at. absurd (omega (arith, above, below)); found = λ b e. absurd (no_some b e) }

  pub range_more : (from mid to : ℕ) (least more : Option ℕ) → from ≤ mid → mid ≤ to → IsRangeLeast pool places from mid least
      → IsRangeLeast pool places mid to more → IsRangeLeast pool places from to (lesser_bound least more)
  range_more from mid to least more le up one other = record {
    lower = λ n p above below at. elim (cases_lt n mid) [
      | inl lt ↦
          let (b, e, small) = one.lower n p above lt at in
          let (m, is, less) = lesser_left least more b e in
          (m, is, omega (arith, small, less))
      | inr past ↦
          let (b, e, small) = other.lower n p past below at in
          let (m, is, less) = lesser_right least more b e in
          (m, is, omega (arith, small, less))
    ];
    found = λ b e. elim (lesser_either least more b e) [
      | inl is ↦ let (n, p, above, below, at, bound) = one.found b is in (n, p, above, omega (arith, below, up), at, bound)
      | inr is ↦ let (n, p, above, below, at, bound) = other.found b is in (n, p, omega (arith, above, le), below, at, bound)
    ];
  }

  -- no place is behind the last
  pub nothing_behind : (block : ℕ) (least : Option ℕ) → length places ≤ 64 * block → least ≡ None → IsBlockLeast pool places block least
  nothing_behind block least past none = record {
    lower = λ n p above below at. let within : n < length places = slice_get_within places n p at.there in absurd (omega (arith, above, past, within));
    found = λ b e. absurd (no_some b (sym none ∙ e));
  }

  none_behind : (bounds : List (Option ℕ)) → AreBlockLeast pool places bounds → (block : ℕ) → length places ≤ 64 * block
      → (o : Option ℕ) → bound_at bounds block ≡ o → o ≡ None
  none_behind bounds are block past None e = refl
  none_behind bounds are block past (Some b) e =
      let (n, p, above, below, at, is) = (are.each block).found b e in
      let within : n < length places = slice_get_within places n p at.there in
      absurd (omega (arith, above, past, within))

  -- ---- one block, or some, reckoned anew

  module _ (bounds after : List (Option ℕ)) (home : ℕ) where
    pub but_more : (from to k : ℕ) → k ≡ from + 1 → AreBlockLeastBut pool places bounds home from to → IsBlockSet pool places from bounds after
        → AreBlockLeastBut pool places after home k to
    but_more from to k ke are set = record {
      each = λ block ne where_is. elim (cases_eq block from) [
        | inl e ↦ subst (λ (b : ℕ). IsBlockLeast pool places b (bound_at after b)) (sym e) set.here
        | inr other ↦ subst (λ (o : Option ℕ). IsBlockLeast pool places block o) (sym (set.same block other))
            (are.each block ne (elim where_is [ inl lt ↦ inl (omega (arith, lt, ke, other)) | inr past ↦ inr past ]))
      ];
      long = omega (arith, are.long, set.long);
    }

    pub all_set : (from to : ℕ) → to ≤ from → AreBlockLeastBut pool places bounds home from to → IsBlockSet pool places home bounds after
        → AreBlockLeast pool places after
    all_set from to le are set = record {
      each = λ block. elim (cases_eq block home) [
        | inl e ↦ subst (λ (b : ℕ). IsBlockLeast pool places b (bound_at after b)) (sym e) set.here
        | inr other ↦ subst (λ (o : Option ℕ). IsBlockLeast pool places block o) (sym (set.same block other))
            (are.each block other (elim (cases_lt block from) [ inl lt ↦ inl lt | inr past ↦ inr (omega (arith, past, le)) ]))
      ];
      long = omega (arith, are.long, set.long);
    }

  -- all blocks are reckoned anew
  pub but_all : (bounds : List (Option ℕ)) (to : ℕ) → length places ≤ 64 * to → length places < 64 * length bounds
      → ((block : ℕ) → length places ≤ 64 * block → bound_at bounds block ≡ None) → AreBlockLeastBut pool places bounds 0 0 to
  but_all bounds to past long none = record {
    each = λ block ne where_is. elim where_is [
      | inl lt ↦ absurd (omega (arith, lt))
      | inr le ↦ let behind : length places ≤ 64 * block = omega (arith, past, le) in nothing_behind block (bound_at bounds block) behind (none block behind)
    ];
    long = long;
  }

-- another pool
pub but_pool : (pool other : Pool) (places : List Place) (bounds : List (Option ℕ)) (to : ℕ) → length places ≤ 64 * to
    → AreBlockLeast other places bounds → AreBlockLeastBut pool places bounds 0 0 to
but_pool pool other places bounds to past are =
    but_all pool places bounds to past are.long (λ block behind. none_behind other places bounds are block behind (bound_at bounds block) refl)

-- ---- more blocks

none_at : (i : ℕ) → get_or {A = Option ℕ} (None ∷ []) i None ≡ None
none_at zero = refl
none_at (suc i) = refl

pub one_more_block : (bounds : List (Option ℕ)) (block : ℕ) → bound_at (bounds ++ None ∷ []) block ≡ bound_at bounds block
one_more_block bounds block = elim (cases_lt block (length bounds)) [
  | inl lt ↦ get_or-append bounds (None ∷ []) None block lt
  | inr past ↦ get_or-append_right bounds (None ∷ []) block None past ∙ none_at (block - length bounds) ∙ sym (get_or_past bounds block None past)
]

pub same_bounds : (bounds : List (Option ℕ)) → HaveSameBounds bounds bounds
same_bounds bounds = record { same = λ block. refl; long = omega arith }

pub equal_bounds : (bounds after : List (Option ℕ)) → after ≡ bounds → HaveSameBounds bounds after
equal_bounds bounds after e = subst (λ (b : List (Option ℕ)). HaveSameBounds bounds b) (sym e) (same_bounds bounds)

pub also_same : (bounds mid after : List (Option ℕ)) → HaveSameBounds bounds mid → HaveSameBounds mid after → HaveSameBounds bounds after
also_same bounds mid after one other = record { same = λ block. other.same block ∙ one.same block; long = omega (arith, one.long, other.long) }

pub least_same : (pool : Pool) (places : List Place) (bounds after : List (Option ℕ)) → HaveSameBounds bounds after → AreBlockLeast pool places bounds → AreBlockLeast pool places after
least_same pool places bounds after same are = record {
  each = λ block. subst (λ (o : Option ℕ). IsBlockLeast pool places block o) (sym (same.same block)) (are.each block);
  long = omega (arith, same.long, are.long);
}

-- ---- places that change

range_moved : (pool : Pool) (old places : List Place) (from to : ℕ) (least : Option ℕ)
    → ((n : ℕ) → from ≤ n → n < to → slice_get places n ≡ slice_get old n) → IsRangeLeast pool old from to least → IsRangeLeast pool places from to least
range_moved pool old places from to least same is = record {
  lower = λ n p above below at. is.lower n p above below (record { there = sym (same n above below) ∙ at.there; pooled = at.pooled });
  found = λ b e. let (n, p, above, below, at, bound) = is.found b e in (n, p, above, below, record { there = same n above below ∙ at.there; pooled = at.pooled }, bound);
}

module _ (old places : List Place) (number first : ℕ) (before now : Place) (changed : HaveChanged old places number first before now) where
  same_at : (block from : ℕ) → block ≢ number / 64 → IsFirstBlock places first from → (block < from) ⊎ (length places / 64 + 1 ≤ block)
      → (n : ℕ) → 64 * block ≤ n → n < 64 * block + 64 → slice_get places n ≡ slice_get old n
  same_at block from ne is where_is n above below = elim (cases_lt n first) [
    | inl lt ↦ changed.same n (λ e. ne (omega (arith, e, above, below))) lt
    | inr new ↦
        let past : length places ≤ n = elim (cases_lt n (length places)) [
          | inr le ↦ le
          | inl lt ↦ absurd (elim where_is [
            | inl early ↦ let behind : 64 * from ≤ n = is.before n new lt in omega (arith, early, behind, below)
            | inr late ↦ omega (arith, late, above, lt)
          ])
        ] in
        slice_get_past places n past ∙ sym (slice_get_past old n (omega (arith, new, changed.first_is)))
  ]

  -- only the blocks of the places that have changed are to be reckoned anew
  pub but_changed : (pool : Pool) (bounds : List (Option ℕ)) (from : ℕ) → IsFirstBlock places first from → length places < 64 * length bounds
      → AreBlockLeast pool old bounds → AreBlockLeastBut pool places bounds (number / 64) from (length places / 64 + 1)
  but_changed pool bounds from is long are = record {
    each = λ block ne where_is. range_moved pool old places (64 * block) (64 * block + 64) (bound_at bounds block) (same_at block from ne is where_is) (are.each block);
    long = long;
  }
