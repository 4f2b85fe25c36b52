-- Each step of a cell keeps its rule.
use Rattle.std.proofs.Common.{◌≡◌, ℕ, zero, suc, ◌+◌, ◌-◌, ◌*◌, ◌^◌, ◌<◌, ◌≤◌, ◌≢◌, ◌⊎◌, List, [], ◌∷◌, ◌++◌, length, get_or, set, min, sym, refl, ap, ◌∙◌, subst, inl, inr, ⊎_elim, arith, le_refl, length-set, get_or-set_same}
use Rattle.std.specs.Prelude.{All, Contains}
use Rattle.std.proofs.lemmas.List.Elements.{All-contains_itself, Contains-append_left, Contains-append_right, Contains-append_cases}
use Rattle.std.proofs.Math.Nat.{min-le_left, min-le_right}
use mathlib.Core.Logic.{dite}
use mathlib.Core.Option.{none, some, some-injective, some-ne-none}
use native.Mathlib.Decide.{ℕ_discrete, dec_le}
use lib.ListN.{get_elem?}
use Rattle.atomic_table.specs.Table.{step, keeps, stepped, Allows, Splits, Joins, Final, Seen}
use Rattle.atomic_table.proofs.Lists.{at_set, set_here, set_else, at_snoc, at_longer}
use Rattle.plain_values.proofs.Lists.{contains_last, contains_none_where, contains_one}
use Rattle.incumbent_cell.specs.declared.pass.Known.{Known}
use Rattle.incumbent_cell.specs.Code.{opening_code}
use Rattle.incumbent_cell.specs.Knowledge.{with_put, with_found_code, halved, joined_known, spent, IsWhole, IsAmong, Stands, IsPutBySome, IsTraced, weight, Cells, Kept, CellAtom, Puts, Finds}
use Rattle.incumbent_cell.proofs.Shares.{weights-set, whole_alone, weights-split, weights-join, joined_live}

inside : (l : List Known) (i : ℕ) (v : Known) → get_elem? l i ≡ some v → i < length l
inside [] i v e = absurd (some-ne-none v (sym e))
inside (x ∷ xs) zero v e = omega arith
inside (x ∷ xs) (suc i) v e = let r = inside xs i v e in omega arith

one_view : (l : List Known) (i j : ℕ) (v w : Known) → get_elem? l i ≡ some v → get_elem? l j ≡ some w → j ≡ i → w ≡ v
one_view l i j v w at there e = some-injective w v (sym there ∙ (ap (get_elem? l) e ∙ at))

all_of : (P : ℕ → Type 0) (l : List ℕ) → ((c : ℕ) → Contains l c → P c) → All P l
all_of P l f = λ k d h. f (get_or l k d) (All-contains_itself l k d h)

-- what is put stays put where a view takes in more
put_after : (l : List Known) (i : ℕ) (v w : Known) → get_elem? l i ≡ some v → ((c : ℕ) → Contains v.put c → Contains w.put c) → (c : ℕ) → IsPutBySome l c → IsPutBySome (set l i w) c
put_after l i v w at grows c p = dite (ℕ_discrete p.0 i)
    (λ e. (i, w, set_here l i w (inside l i v at), grows c (subst (λ (z : Known). Contains z.put c) (one_view l i p.0 v p.1 at p.2 e) p.3)))
    (λ apart. (p.0, p.1, set_else l i p.0 w apart ∙ p.2, p.3))

traced_after : (l : List Known) (i : ℕ) (v w : Known) → get_elem? l i ≡ some v → ((c : ℕ) → Contains v.put c → Contains w.put c) → (c : ℕ) → IsTraced l c → IsTraced (set l i w) c
traced_after l i v w at grows c (inl e) = inl e
traced_after l i v w at grows c (inr p) = inr (put_after l i v w at grows c p)

traced_longer : (l m : List Known) (c : ℕ) → IsTraced l c → IsTraced (l ++ m) c
traced_longer l m c (inl e) = inl e
traced_longer l m c (inr p) = inr (p.0, p.1, at_longer l m p.0 p.1 p.2, p.3)

each_after : (P : Known → Type 0) (l : List Known) (i : ℕ) (w : Known) → P w → ((j : ℕ) (u : Known) → get_elem? l j ≡ some u → P u) → (j : ℕ) (u : Known) → get_elem? (set l i w) j ≡ some u → P u
each_after P l i w mine others j u e = ⊎_elim (λ (t : (j ≡ i) × (w ≡ u)). subst P t.1 mine) (λ (t : (j ≢ i) × (get_elem? l j ≡ some u)). others j u t.1) (at_set l i j w u e)

each_snoc : (P : Known → Type 0) (l : List Known) (w : Known) → P w → ((j : ℕ) (u : Known) → get_elem? l j ≡ some u → P u) → (j : ℕ) (u : Known) → get_elem? (l ++ w ∷ []) j ≡ some u → P u
each_snoc P l w mine others j u e = ⊎_elim (others j u) (λ (t : w ≡ u). subst P t mine) (at_snoc l w u j e)

abbrev word : Cells → ℕ
word s = get_or s.words 0 0

found_below : (s : Cells) → Kept s → (c : ℕ) → IsTraced s.views c → word s ≤ c
found_below s k c (inl e) = let b = k.below_opening in let e' : c ≡ opening_code = e in omega arith
found_below s k c (inr p) = k.below_put p.0 p.1 c p.2 p.3

-- what a seat's view says of the word
pub stands : (s : Cells) → Kept s → (i : ℕ) (v : Known) → get_elem? s.views i ≡ some v → Stands v (word s)
stands s k i v at = record {
  below_opening = k.below_opening;
  below_put = all_of (λ c. word s ≤ c) v.put (λ c h. k.below_put i v c at h);
  below_found = all_of (λ c. word s ≤ c) v.found (λ c h. found_below s k c (k.each_is_put i v c at h));
  is_least = λ whole. mine whole (word s) k.is_put;
  each_is_put = λ whole. all_of (IsAmong v.put) v.found (λ c h. mine whole c (k.each_is_put i v c at h));
}
  where
    mine : IsWhole v → (c : ℕ) → IsTraced s.views c → IsAmong v.put c
    mine whole c (inl e) = inl e
    mine whole c (inr p) = inr (dite (ℕ_discrete p.0 i)
        (λ e. subst (λ (z : Known). Contains z.put c) (one_view s.views i p.0 v p.1 at p.2 e) p.3)
        (λ apart. absurd (contains_none_where p.1.put c (k.spent_knows_nothing p.0 p.1 p.2 (whole_alone k.scale s.views i p.0 v p.1 k.scaled k.one_whole at whole p.2 apart)).0 p.3)))

-- The word becomes n, which is no greater, and a seat's view takes in more: the codes put are the old ones and maybe n
moved : (s : Cells) → Kept s → (n i : ℕ) (cs : List (ℕ × Unit {0})) (v w : Known) → get_elem? s.views i ≡ some v → 0 < v.share.parts → w.share ≡ v.share
    → ((c : ℕ) → Contains v.put c → Contains w.put c) → n ≤ word s → ((c : ℕ) → Contains w.put c → n ≤ c) → (n ≡ word s) ⊎ Contains w.put n
    → ((c : ℕ) → Contains w.found c → Contains v.found c ⊎ (c ≡ word s)) → Kept (stepped s 0 n i cs w keeps)
moved s k n i cs v w at live same grows low below from founds = let wide = k.one_word in let now : get_or (set s.words 0 n) 0 0 ≡ n = get_or-set_same s.words 0 n 0 (omega arith) in record {
  one_word = length-set s.words 0 n ∙ wide;
  below_opening = let b = k.below_opening in omega arith;
  below_put = λ j u c e h. subst (λ (z : ℕ). z ≤ c) (sym now)
      (each_after (λ (z : Known). (d : ℕ) → Contains z.put d → n ≤ d) s.views i w below (λ j' u' e' d g. let b = k.below_put j' u' d e' g in omega arith) j u e c h);
  is_put = subst (IsTraced (set s.views i w)) (sym now) (⊎_elim
      (λ (e : n ≡ word s). subst (IsTraced (set s.views i w)) (sym e) (traced_after s.views i v w at grows (word s) k.is_put))
      (λ (h : Contains w.put n). inr (i, w, set_here s.views i w (inside s.views i v at), h)) from);
  each_is_put = λ j u c e h. each_after (λ (z : Known). (d : ℕ) → Contains z.found d → IsTraced (set s.views i w) d) s.views i w
      (λ d g. ⊎_elim (λ (o : Contains v.found d). traced_after s.views i v w at grows d (k.each_is_put i v d at o)) (λ (o : d ≡ word s). subst (IsTraced (set s.views i w)) (sym o) (traced_after s.views i v w at grows (word s) k.is_put)) (founds d g))
      (λ j' u' e' d g. traced_after s.views i v w at grows d (k.each_is_put j' u' d e' g)) j u e c h;
  scale = k.scale;
  scaled = each_after (λ (z : Known). z.share.halvings ≤ k.scale) s.views i w (let b = k.scaled i v at in let e : w.share.halvings ≡ v.share.halvings = ap (λ z. z.halvings) same in omega arith) k.scaled;
  one_whole = let sum = weights-set k.scale s.views i v w at in let total = k.one_whole in let e : weight k.scale w ≡ weight k.scale v = ap (λ z. z.parts * 2 ^ (k.scale - z.halvings)) same in omega arith;
  spent_knows_nothing = each_after (λ (z : Known). z.share.parts ≡ 0 → (z.put ≡ []) × (z.found ≡ [])) s.views i w
      (λ none_left. let e : w.share.parts ≡ v.share.parts = ap (λ z. z.parts) same in absurd (omega arith)) k.spent_knows_nothing;
}

pub puts : (slots i : ℕ) (me : CellAtom) (code : ℕ) → 0 < me.0.share.parts
    → Allows Kept slots i me 0 (λ n. min n code) (λ n w. Puts (step slots 0 code 0 none) me n w)
puts slots i me code live s k _ at _ = let v : Known = me.0 in let x : ℕ = word s in let left = min-le_left x code in let right = min-le_right x code in (
  with_put v code,
  keeps,
  tt,
  moved s k (min x code) i me.1 v (with_put v code) at live refl (λ c h. Contains-append_left v.put (code ∷ []) c h) left
      (λ c h. ⊎_elim (λ (o : Contains v.put c). let b = k.below_put i v c at o in omega arith) (λ (o : Contains (code ∷ []) c). let e = contains_one code c o in omega arith) (Contains-append_cases v.put (code ∷ []) c h))
      (dite (dec_le x code)
      (λ (le : x ≤ code). let e : min x code ≡ x = omega arith in inl e)
      (λ more. let e : min x code ≡ code = omega arith in inr (subst (Contains (v.put ++ code ∷ [])) (sym e) (contains_last v.put code))))
      (λ c h. inl h),
  (refl, refl),
)

pub finds : (slots i : ℕ) (me : CellAtom) → 0 < me.0.share.parts → Allows Kept slots i me 0 (λ n. n) (λ n w. Finds (step slots 0 0 0 none) me n w)
finds slots i me live s k _ at _ = let v : Known = me.0 in let x : ℕ = word s in (
  with_found_code v x,
  keeps,
  tt,
  moved s k x i me.1 v (with_found_code v x) at live refl (λ c h. h) (le_refl x) (λ c h. k.below_put i v c at h) (inl refl)
      (λ c h. ⊎_elim (λ (o : Contains v.found c). inl o) (λ (o : Contains (x ∷ []) c). inr (contains_one x c o)) (Contains-append_cases v.found (x ∷ []) c h)),
  (refl, refl, stands s k i v at),
)

pub splits : (i : ℕ) (v : Known) → 0 < v.share.parts → Splits Kept i v (halved v) (halved v)
splits i v live s k at = let w : Known = halved v in let l : List Known = set s.views i w in
    let old = λ (c : ℕ) (t : IsTraced s.views c). traced_longer l (w ∷ []) c (traced_after s.views i v w at (λ c h. h) c t) in record {
      one_word = k.one_word;
      below_opening = k.below_opening;
      below_put = λ j u c e h. each_snoc (λ (z : Known). (d : ℕ) → Contains z.put d → word s ≤ d) l w (λ d g. k.below_put i v d at g)
          (each_after (λ (z : Known). (d : ℕ) → Contains z.put d → word s ≤ d) s.views i w (λ d g. k.below_put i v d at g) (λ j' u' e' d g. k.below_put j' u' d e' g)) j u e c h;
      is_put = old (word s) k.is_put;
      each_is_put = λ j u c e h. each_snoc (λ (z : Known). (d : ℕ) → Contains z.found d → IsTraced (l ++ w ∷ []) d) l w (λ d g. old d (k.each_is_put i v d at g))
          (each_after (λ (z : Known). (d : ℕ) → Contains z.found d → IsTraced (l ++ w ∷ []) d) s.views i w (λ d g. old d (k.each_is_put i v d at g)) (λ j' u' e' d g. old d (k.each_is_put j' u' d e' g))) j u e c h;
      scale = 1 + k.scale;
      scaled = let mine : w.share.halvings ≤ 1 + k.scale = (let b = k.scaled i v at in omega arith) in
          each_snoc (λ (z : Known). z.share.halvings ≤ 1 + k.scale) l w mine (each_after (λ (z : Known). z.share.halvings ≤ 1 + k.scale) s.views i w mine (λ j' u' e'. let b = k.scaled j' u' e' in omega arith));
      one_whole = weights-split k.scale s.views i v k.scaled at k.one_whole;
      spent_knows_nothing = let P : Known → Type 0 = λ z. z.share.parts ≡ 0 → (z.put ≡ []) × (z.found ≡ []) in
          each_snoc P l w (λ e. absurd (omega arith)) (each_after P s.views i w (λ e. absurd (omega arith)) k.spent_knows_nothing);
    }

-- what was put by a seat that is joined_known is put by the one that takes it in
kept_traced : (l : List Known) (i : ℕ) (v : Known) (other : ℕ) (w : Known) → get_elem? l i ≡ some v → get_elem? l other ≡ some w → other ≢ i
    → (c : ℕ) → IsTraced l c → IsTraced (set (set l i (joined_known v w)) other spent) c
kept_traced l i v other w at there apart c (inl e) = inl e
kept_traced l i v other w at there apart c (inr p) = let b : Known = joined_known v w in
    let mine : get_elem? (set (set l i b) other spent) i ≡ some b = set_else (set l i b) other i spent (λ z. apart (sym z)) ∙ set_here l i b (inside l i v at) in
    inr (dite (ℕ_discrete p.0 other)
    (λ e. (i, b, mine, Contains-append_right v.put w.put c (subst (λ (z : Known). Contains z.put c) (one_view l other p.0 w p.1 there p.2 e) p.3)))
    (λ not_other. dite (ℕ_discrete p.0 i)
    (λ e. (i, b, mine, Contains-append_left v.put w.put c (subst (λ (z : Known). Contains z.put c) (one_view l i p.0 v p.1 at p.2 e) p.3)))
    (λ not_i. (p.0, p.1, set_else (set l i b) other p.0 spent not_other ∙ (set_else l i p.0 b not_i ∙ p.2), p.3))))

pub joins : (i : ℕ) (v : Known) (other : ℕ) (w : Known) → 0 < v.share.parts → Joins Kept i v other w (joined_known v w) spent
joins i v other w live s k at apart still = let b : Known = joined_known v w in let l : List Known = set s.views i b in
    let there : get_elem? s.views other ≡ some w = sym (set_else s.views i other b apart) ∙ still in
    let old = λ (c : ℕ) (t : IsTraced s.views c). kept_traced s.views i v other w at there apart c t in record {
      one_word = k.one_word;
      below_opening = k.below_opening;
      below_put = λ j u c e h. each_after (λ (z : Known). (d : ℕ) → Contains z.put d → word s ≤ d) l other spent (λ d g. absurd (contains_none_where [] d refl g))
          (each_after (λ (z : Known). (d : ℕ) → Contains z.put d → word s ≤ d) s.views i b
          (λ d g. ⊎_elim (λ (o : Contains v.put d). k.below_put i v d at o) (λ (o : Contains w.put d). k.below_put other w d there o) (Contains-append_cases v.put w.put d g))
          (λ j' u' e' d g. k.below_put j' u' d e' g)) j u e c h;
      is_put = old (word s) k.is_put;
      each_is_put = λ j u c e h. let P : Known → Type 0 = λ z. (d : ℕ) → Contains z.found d → IsTraced (set l other spent) d in each_after P l other spent (λ d g. absurd (contains_none_where [] d refl g))
          (each_after P s.views i b
          (λ d g. ⊎_elim (λ (o : Contains v.found d). old d (k.each_is_put i v d at o)) (λ (o : Contains w.found d). old d (k.each_is_put other w d there o)) (Contains-append_cases v.found w.found d g))
          (λ j' u' e' d g. old d (k.each_is_put j' u' d e' g))) j u e c h;
      scale = k.scale + k.scale;
      scaled = let P : Known → Type 0 = λ z. z.share.halvings ≤ k.scale + k.scale in each_after P l other spent (omega arith)
          (each_after P s.views i b (let x = k.scaled i v at in let y = k.scaled other w there in omega arith) (λ j' u' e'. let x = k.scaled j' u' e' in omega arith));
      one_whole = weights-join k.scale s.views i other v w k.scaled at there still k.one_whole;
      spent_knows_nothing = let P : Known → Type 0 = λ z. z.share.parts ≡ 0 → (z.put ≡ []) × (z.found ≡ []) in
          each_after P l other spent (λ _. (refl, refl)) (each_after P s.views i b (λ e. let more = joined_live v w live in absurd (omega arith)) k.spent_knows_nothing);
    }

-- the last state shows the code that is read at the end
pub closes : (i : ℕ) (v : Known) (ws : List ℕ) (xs : List (Unit {0})) (code : ℕ) → Final (Seen Kept i v) ws xs → get_elem? ws 0 ≡ some code → Stands v code
closes i v ws xs code f at = let s : Cells = f.0 in let e : get_or s.words 0 0 ≡ code = ap (λ (l : List ℕ). get_or l 0 0) f.2 ∙ read ws code at in subst (Stands v) e (stands s f.1.0 i v f.1.1)
  where
    read : (l : List ℕ) (c : ℕ) → get_elem? l 0 ≡ some c → get_or l 0 0 ≡ c
    read [] c e = absurd (some-ne-none c (sym e))
    read (x ∷ l) c e = some-injective x c e
