-- Lengths are spread along the arcs of a node.
use Rattle.std.proofs.Common.{◌≡◌, ℕ, ◌+◌, ◌<◌, ◌≤◌, ◌^◌, inl, inr, List, [], ◌∷◌, ◌++◌, length, get_or, set, refl, sym, ap, ◌∙◌, subst, arith, Contains, get_or-set_other, get_or-set_same}
use Rattle.std.proofs.lemmas.Bool.{cases_eq}
use Rattle.std.proofs.lemmas.List.{length-append, length-set, get_or_push, get_or_append_left}
use Rattle.std.proofs.lemmas.List.Elements.{Contains-push}
use Rattle.incremental_paths.specs.declared.arc.Arc.{Arc}
use Rattle.incremental_paths.specs.Walks.{IsWalkTo, walk_length}
use Rattle.incremental_paths.specs.Spread.{AreReached, AreSpread, IsSpread, SpreadsOne, WalksFit}
use Rattle.incremental_paths.proofs.Members.{joined, longest_ge}
use Rattle.incremental_paths.proofs.Walking.{walk_push}

module _ (lowers : List ℕ) (arcs : List Arc) (lengths : List ℕ) (reached : AreReached lowers arcs lengths) (a : Arc) (has : Contains arcs a) (from : a.from < length lengths) where
  -- a walk along this arc that is as long as what it leads to
  reached_by : (nodes : List ℕ) × IsWalkTo lowers arcs a.to nodes × (get_or lengths a.from 0 + a.length ≤ walk_length lowers arcs nodes)
  reached_by =
      let walk = reached.attained a.from (omega (arith, from, reached.sized)) in
      let more = walk_push lowers arcs a.from a.to walk.0 walk.1 (joined arcs a a.from a.to has refl refl) in
      (walk.0 ++ a.to ∷ [], more.0, omega (arith, walk.2, more.1, longest_ge arcs a a.from a.to has refl refl))

  pub reached_fits : WalksFit lowers arcs → get_or lengths a.from 0 + a.length < 2 ^ 64
  reached_fits fit = omega (arith, reached_by.2, fit a.to reached_by.0 reached_by.1)

  pub reached_one : (new : List ℕ) → a.to < length lengths → SpreadsOne a lengths new → AreReached lowers arcs new
  reached_one new to one = elim one [
    | inl kept ↦ subst (AreReached lowers arcs) (sym kept.1) reached
    | inr more ↦
        let value = get_or lengths a.from 0 + a.length in
        let here : get_or (set lengths a.to value) a.to 0 ≡ value = get_or-set_same lengths a.to value 0 to in
        subst (AreReached lowers arcs) (sym more.1) (record {
          sized = length-set lengths a.to value ∙ reached.sized;
          lowest = λ v. elim (cases_eq v a.to) [
            | inl same ↦ rw same (omega (arith, here, more.0, reached.lowest a.to))
            | inr other ↦ omega (arith, get_or-set_other lengths a.to v value 0 other, reached.lowest v)
          ];
          attained = λ v lt. elim (cases_eq v a.to) [
            | inl same ↦ rw same (reached_by.0, reached_by.1, omega (arith, here, reached_by.2))
            | inr other ↦ let h = reached.attained v lt in (h.0, h.1, omega (arith, h.2, get_or-set_other lengths a.to v value 0 other))
          ];
        })
  ]

-- what one arc changes
pub one_grows : (a : Arc) (lengths new : List ℕ) → a.to < length lengths → SpreadsOne a lengths new → (v : ℕ) → get_or lengths v 0 ≤ get_or new v 0
one_grows a lengths new to one v = elim one [
  | inl kept ↦ omega (arith, ap (λ z. get_or z v 0) kept.1)
  | inr more ↦
      let value = get_or lengths a.from 0 + a.length in
      let e = ap (λ z. get_or z v 0) more.1 in
      elim (cases_eq v a.to) [
        | inl same ↦ omega (arith, e, more.0, get_or-set_same lengths a.to value 0 to, ap (λ z. get_or lengths z 0) same, ap (λ z. get_or (set lengths a.to value) z 0) same)
        | inr other ↦ omega (arith, e, get_or-set_other lengths a.to v value 0 other)
      ]
]

pub one_only : (a : Arc) (lengths new : List ℕ) → SpreadsOne a lengths new → (v : ℕ) → (v ≡ a.to → ⊥) → get_or lengths v 0 ≡ get_or new v 0
one_only a lengths new one v other = elim one [
  | inl kept ↦ ap (λ z. get_or z v 0) (sym kept.1)
  | inr more ↦ sym (ap (λ z. get_or z v 0) more.1 ∙ get_or-set_other lengths a.to v (get_or lengths a.from 0 + a.length) 0 other)
]

pub one_long : (a : Arc) (lengths new : List ℕ) → SpreadsOne a lengths new → length new ≡ length lengths
one_long a lengths new one = elim one [ inl kept ↦ ap length kept.1 | inr more ↦ ap length more.1 ∙ length-set lengths a.to (get_or lengths a.from 0 + a.length) ]

pub one_spread : (a : Arc) (lengths new : List ℕ) → a.to < length lengths → (a.from ≡ a.to → ⊥) → SpreadsOne a lengths new → IsSpread new a
one_spread a lengths new to apart one =
    let from = one_only a lengths new one a.from apart in
    elim one [
      | inl kept ↦ omega (arith, kept.0, ap (λ z. get_or z a.from 0) kept.1, ap (λ z. get_or z a.to 0) kept.1)
      | inr more ↦ omega (arith, from, ap (λ z. get_or z a.to 0) more.1, get_or-set_same lengths a.to (get_or lengths a.from 0 + a.length) 0 to)
    ]

pub still_spread : (b : Arc) (lengths new : List ℕ) → ((v : ℕ) → get_or lengths v 0 ≤ get_or new v 0) → IsSpread lengths b → get_or lengths b.from 0 ≡ get_or new b.from 0 → IsSpread new b
still_spread b lengths new grows spread same = omega (arith, spread, same, grows b.to)

pub reached_lowers : (lowers : List ℕ) (arcs : List Arc) → AreReached lowers arcs lowers
reached_lowers lowers arcs = record {
  sized = refl;
  lowest = λ v. omega arith;
  attained = λ v lt. (v ∷ [], (lt, tt, refl), omega arith);
}

pub last_in : (arcs front : List Arc) (a : Arc) → arcs ≡ front ++ a ∷ [] → Contains arcs a
last_in arcs front a is = subst (λ z. Contains z a) (sym is) (Contains-push front a)

pub set_grows : (xs : List ℕ) (i x : ℕ) → i < length xs → get_or xs i 0 < x → (v : ℕ) → get_or xs v 0 ≤ get_or (set xs i x) v 0
set_grows xs i x lt above v = elim (cases_eq v i) [
  | inl same ↦ rw same (omega (arith, above, get_or-set_same xs i x 0 lt))
  | inr other ↦ omega (arith, get_or-set_other xs i v x 0 other)
]

-- with a greater lower of one node, walks are no shorter
raised_walk : (lowers : List ℕ) (node lower : ℕ) → node < length lowers → lower ≤ get_or lowers node 0 → (arcs : List Arc) (v : ℕ) (nodes : List ℕ) → IsWalkTo (set lowers node lower) arcs v nodes
    → IsWalkTo lowers arcs v nodes × (walk_length (set lowers node lower) arcs nodes ≤ walk_length lowers arcs nodes)
raised_walk lowers node lower lt le arcs v [] walk = absurd walk
raised_walk lowers node lower lt le arcs v (u ∷ rest) walk =
    let below : get_or (set lowers node lower) u 0 ≤ get_or lowers u 0 = elim (cases_eq u node) [
      | inl same ↦ rw same (omega (arith, le, get_or-set_same lowers node lower 0 lt))
      | inr other ↦ omega (arith, get_or-set_other lowers node u lower 0 other)
    ] in
    ((omega (arith, walk.0, length-set lowers node lower), walk.1, walk.2), omega (arith, below))

module _ (lowers : List ℕ) (node lower : ℕ) (lt : node < length lowers) (le : lower ≤ get_or lowers node 0) (arcs : List Arc) (lengths : List ℕ) (reached : AreReached (set lowers node lower) arcs lengths) where
  as_long : length lengths ≡ length lowers
  as_long = reached.sized ∙ length-set lowers node lower

  old_walk : (v : ℕ) → v < length lowers → (nodes : List ℕ) × IsWalkTo lowers arcs v nodes × (get_or lengths v 0 ≤ walk_length lowers arcs nodes)
  old_walk v below =
      let h = reached.attained v (omega (arith, below, length-set lowers node lower)) in
      let w = raised_walk lowers node lower lt le arcs v h.0 h.1 in
      (h.0, w.0, omega (arith, w.1, h.2))

  pub reached_still : get_or lowers node 0 ≤ get_or lengths node 0 → AreReached lowers arcs lengths
  reached_still enough = record {
    sized = as_long;
    lowest = λ v. elim (cases_eq v node) [
      | inl same ↦ rw same enough
      | inr other ↦ omega (arith, reached.lowest v, get_or-set_other lowers node v lower 0 other)
    ];
    attained = old_walk;
  }

  pub reached_raised : get_or lengths node 0 < get_or lowers node 0 → AreReached lowers arcs (set lengths node (get_or lowers node 0))
  reached_raised less =
      let value = get_or lowers node 0 in
      let here = get_or-set_same lengths node value 0 (omega (arith, as_long, lt)) in
      record {
        sized = length-set lengths node value ∙ as_long;
        lowest = λ v. elim (cases_eq v node) [
          | inl same ↦ rw same (omega (arith, here))
          | inr other ↦ omega (arith, reached.lowest v, get_or-set_other lowers node v lower 0 other, get_or-set_other lengths node v value 0 other)
        ];
        attained = λ v below. elim (cases_eq v node) [
          | inl same ↦ rw same (node ∷ [], (lt, tt, refl), omega (arith, here))
          | inr other ↦ let h = old_walk v below in (h.0, h.1, omega (arith, h.2, get_or-set_other lengths node v value 0 other))
        ];
      }

-- lengths that are spread along all arcs but the last, and along that one
pub spread_push : (arcs front : List Arc) (a : Arc) (lengths : List ℕ) → arcs ≡ front ++ a ∷ [] → AreSpread front lengths → IsSpread lengths a → AreSpread arcs lengths
spread_push arcs front a lengths is spread here k d lt =
    elim (cases_eq k (length front)) [
      | inl same ↦ subst (IsSpread lengths) (sym (ap (λ l. get_or l k d) is ∙ get_or_push front a d k (sym same))) here
      | inr other ↦
          let less : k < length front = omega (arith, lt, other, ap length is, length-append front (a ∷ [])) in
          subst (IsSpread lengths) (sym (ap (λ l. get_or l k d) is ∙ get_or_append_left front (a ∷ []) d k less)) (spread k d less)
    ]
