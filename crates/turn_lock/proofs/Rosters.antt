-- What the roster of a lock says of one pass, and how it is kept.
use Rattle.std.proofs.Common.{◌≡◌, ◌≢◌, ℕ, zero, suc, ◌<◌, ◌⊎◌, true, false, List, [], ◌∷◌, ◌++◌, length, set, sym, refl, ap, ◌∙◌, subst, inl, inr, ⊎_elim, arith, Option, Some}
use Rattle.std.specs.Prelude.{Contains, slice_get}
use Rattle.std.proofs.lemmas.Option.{slice_get_within}
use mathlib.Core.Logic.{dite}
use mathlib.Core.Option.{some, some-injective, some-ne-none}
use native.Mathlib.Decide.{ℕ_discrete}
use lib.ListN.{get_elem?}
use Rattle.atomic_table.proofs.Lists.{at_set, set_here, set_else}
use Rattle.plain_values.proofs.Lists.{contains_none_where}
use Rattle.turn_lock.specs.declared.pass.View.{View}
use Rattle.turn_lock.specs.Steps.{Begins, Owns}
use Rattle.turn_lock.specs.Order.{Fits, Roster}
use Rattle.turn_lock.proofs.Beginnings.{either_bool, starts_get}

module _ {A : Type 0} where
  pub inside : (l : List A) (i : ℕ) (v : A) → get_elem? l i ≡ some v → i < length l
  inside [] i v e = absurd (some-ne-none v (sym e))
  inside (x ∷ xs) zero v e = omega arith
  inside (x ∷ xs) (suc i) v e = let r = inside xs i v e in omega arith

  pub one_view : (l : List A) (i j : ℕ) (v w : A) → get_elem? l i ≡ some v → get_elem? l j ≡ some w → j ≡ i → w ≡ v
  one_view l i j v w at there e = some-injective w v (sym there ∙ (ap (get_elem? l) e ∙ at))

  pub each_after : (P : ℕ → A → Type 0) (l : List A) (i : ℕ) (w : A) → P i w → ((j : ℕ) (u : A) → j ≢ i → get_elem? l j ≡ some u → P j u) → (j : ℕ) (u : A) → get_elem? (set l i w) j ≡ some u → P j u
  each_after P l i w mine others j u e = ⊎_elim (λ (t : (j ≡ i) × (w ≡ u)). subst (λ (z : ℕ × A). P z.0 z.1) (λ k. (sym t.0 k, t.1 k)) mine)
      (λ (t : (j ≢ i) × (get_elem? l j ≡ some u)). others j u t.0 t.1) (at_set l i j w u e)

  -- the last one has the next place
  pub at_end : (l : List A) (a b : A) (j : ℕ) → get_elem? (l ++ a ∷ []) j ≡ some b → (get_elem? l j ≡ some b) ⊎ ((j ≡ length l) × (a ≡ b))
  at_end [] a b zero e = inr (refl, some-injective a b e)
  at_end [] a b (suc j) e = absurd (some-ne-none b (sym e))
  at_end (x ∷ xs) a b zero e = inl e
  at_end (x ∷ xs) a b (suc j) e = ⊎_elim (λ (t : get_elem? xs j ≡ some b). inl t) (λ (t : (j ≡ length xs) × (a ≡ b)). inr (ap suc t.0, t.1)) (at_end xs a b j e)

-- what a step leaves of a view, where it gives and takes back no pass
pub record SameRole {E T : Type 0} (v w : View E T) : Type 0 where
  pub first : w.first ≡ v.first
  pub spent : w.spent ≡ v.spent
  pub caller : w.caller ≡ v.caller
  pub given : w.given ≡ v.given
  pub back : w.back ≡ v.back

module _ {E T : Type 0} (named : E → Option ℕ) where
  lives : (h : List E) (v : View E T) → Fits named h v → (place : ℕ) → Contains v.mine place → v.spent ≡ false
  lives h v f place inside = ⊎_elim (λ (e : v.spent ≡ true). absurd (contains_none_where v.mine place (f.spent e).0 inside)) (λ (e : v.spent ≡ false). e) (either_bool v.spent)

  is_first_view : (h : List E) (l : List (View E T)) (r : Roster named h l) → (j : ℕ) (u : View E T) → get_elem? l j ≡ some u → u.first ≡ true → u ≡ r.first
  is_first_view h l r j u at e = one_view l r.first_seat j r.first u r.first_there at (r.only_first j u at e)

  -- a pass that is not spent made each entry that names its caller
  pub own : (h : List E) (l : List (View E T)) → Roster named h l → (i : ℕ) (v : View E T) → get_elem? l i ≡ some v → v.spent ≡ false
      → (place : ℕ) (e : E) → slice_get h place ≡ Some e → named e ≡ Some v.caller → Contains v.mine place
  own h l r i v at live place e found names = let c = r.covered place (slice_get_within h place e found) in let u : View E T = c.1 in let there = c.2 in let f = r.fits c.0 u there in
      let lives_too : u.spent ≡ false = lives h u f place c.3 in
      let here : c.0 ≡ i → Contains v.mine place = λ same. subst (λ (z : View E T). Contains z.mine place) (one_view l i c.0 v u at there same) c.3 in
      let of_first : v.first ≡ true → Contains r.first.given v.caller → ⊥ = λ is has. r.own_apart (subst (λ (z : View E T). Contains r.first.given z.caller) (is_first_view h l r i v at is) has) in
      ⊎_elim
      (λ (same : v.caller ≡ u.caller). ⊎_elim
      (λ (uf : u.first ≡ true). ⊎_elim
      (λ (vf : v.first ≡ true). here (r.only_first c.0 u there uf ∙ sym (r.only_first i v at vf)))
      (λ (vg : v.first ≡ false). absurd (r.own_apart (subst (Contains r.first.given) (same ∙ ap (λ (z : View E T). z.caller) (is_first_view h l r c.0 u there uf)) (r.given i v at vg live))))
      (either_bool v.first))
      (λ (ug : u.first ≡ false). ⊎_elim
      (λ (vf : v.first ≡ true). absurd (of_first vf (subst (Contains r.first.given) (sym same) (r.given c.0 u there ug lives_too))))
      (λ (vg : v.first ≡ false). here (r.one_each c.0 i u v there at ug vg lives_too live (sym same)))
      (either_bool v.first))
      (either_bool u.first))
      (λ (back : Contains u.back v.caller). ⊎_elim
      (λ (uf : u.first ≡ true). let b : Contains r.first.back v.caller = subst (λ (z : View E T). Contains z.back v.caller) (is_first_view h l r c.0 u there uf) back in ⊎_elim
      (λ (vf : v.first ≡ true). absurd (of_first vf (r.back_given v.caller b)))
      (λ (vg : v.first ≡ false). absurd (r.out i v at vg live b))
      (either_bool v.first))
      (λ (ug : u.first ≡ false). absurd (contains_none_where u.back v.caller (f.others_back ug) back))
      (either_bool u.first))
      (f.names place e v.caller c.3 found names)

  -- so what it has seen of its own is all at its places
  pub owns : (h : List E) (l : List (View E T)) → Roster named h l → (i : ℕ) (v : View E T) → get_elem? l i ≡ some v → v.spent ≡ false → Owns named v
  owns h l r i v at live = let f = r.fits i v at in record {
    own = λ place e found names. own h l r i v at live place e (starts_get h v.seen f.seen place e found) names;
    within = f.within;
    others = λ place e other inside found names. f.names place e other inside (starts_get h v.seen f.seen place e found) names;
  }

  -- and past that nothing names its caller
  pub begins : (h : List E) (l : List (View E T)) → Roster named h l → (i : ℕ) (v : View E T) → get_elem? l i ≡ some v → v.spent ≡ false → Begins named v h
  begins h l r i v at live = let f = r.fits i v at in record {
    starts = f.seen;
    long = f.count;
    fresh = λ place e past found names. let m = f.within place (own h l r i v at live place e found names) in omega arith;
  }

  module _ (h h' : List E) (l l' : List (View E T)) (r : Roster named h l)
      (before : (j : ℕ) (u' : View E T) → get_elem? l' j ≡ some u' → (u : View E T) × (get_elem? l j ≡ some u) × SameRole u u')
      (after : (j : ℕ) (u : View E T) → get_elem? l j ≡ some u → (u' : View E T) × (get_elem? l' j ≡ some u') × SameRole u u')
      (fits : (j : ℕ) (u' : View E T) → get_elem? l' j ≡ some u' → Fits named h' u')
      (covered : (place : ℕ) → place < length h' → (j : ℕ) × (u' : View E T) × (get_elem? l' j ≡ some u') × Contains u'.mine place)
      (apart : (j k : ℕ) (u w : View E T) (place : ℕ) → get_elem? l' j ≡ some u → get_elem? l' k ≡ some w → Contains u.mine place → Contains w.mine place → j ≡ k) where
    -- a step that changes no role keeps the roster
    pub same_roles : Roster named h' l'
    same_roles = let first = after r.first_seat r.first r.first_there in let g = first.2.given in let b = first.2.back in record {
      fits = fits;
      covered = covered;
      apart = apart;
      first_seat = r.first_seat;
      first = first.0;
      first_there = first.1;
      is_first = first.2.first ∙ r.is_first;
      first_lives = first.2.spent ∙ r.first_lives;
      only_first = λ j u at e. let o = before j u at in r.only_first j o.0 o.1 (sym o.2.first ∙ e);
      given = λ j u at e live. let o = before j u at in subst (λ (z : List ℕ × ℕ). Contains z.0 z.1) (λ i. (sym g i, sym o.2.caller i)) (r.given j o.0 o.1 (sym o.2.first ∙ e) (sym o.2.spent ∙ live));
      out = λ j u at e live c. let o = before j u at in r.out j o.0 o.1 (sym o.2.first ∙ e) (sym o.2.spent ∙ live) (subst (λ (z : List ℕ × ℕ). Contains z.0 z.1) (λ i. (b i, o.2.caller i)) c);
      one_each = λ j k u w at there ug wg ul wl same. let o = before j u at in let p = before k w there in
          r.one_each j k o.0 p.0 o.1 p.1 (sym o.2.first ∙ ug) (sym p.2.first ∙ wg) (sym o.2.spent ∙ ul) (sym p.2.spent ∙ wl) (sym o.2.caller ∙ (same ∙ p.2.caller));
      own_apart = λ c. r.own_apart (subst (λ (z : List ℕ × ℕ). Contains z.0 z.1) (λ i. (g i, first.2.caller i)) c);
      back_given = λ caller c. subst (λ z. Contains z caller) (sym g) (r.back_given caller (subst (λ z. Contains z caller) b c));
    }

  same_role : (v : View E T) → SameRole v v
  same_role v = record { first = refl; spent = refl; caller = refl; given = refl; back = refl }

  module _ (l : List (View E T)) (i : ℕ) (v w : View E T) (at : get_elem? l i ≡ some v) (same : SameRole v w) where
    pub roles_before : (j : ℕ) (u' : View E T) → get_elem? (set l i w) j ≡ some u' → (u : View E T) × (get_elem? l j ≡ some u) × SameRole u u'
    roles_before = each_after (λ j u'. (u : View E T) × (get_elem? l j ≡ some u) × SameRole u u') l i w (v, at, same) (λ j u _ e. (u, e, same_role u))

    pub roles_after : (j : ℕ) (u : View E T) → get_elem? l j ≡ some u → (u' : View E T) × (get_elem? (set l i w) j ≡ some u') × SameRole u u'
    roles_after j u e = dite (ℕ_discrete j i)
        (λ is. (w, ap (get_elem? (set l i w)) is ∙ set_here l i w (inside l i v at), subst (λ z. SameRole z w) (sym (one_view l i j v u at e is)) same))
        (λ other. (u, set_else l i j w other ∙ e, same_role u))

  -- one view changes, and its role and its places stay
  pub roster_set : (h : List E) (l : List (View E T)) → Roster named h l → (i : ℕ) (v w : View E T) → get_elem? l i ≡ some v → SameRole v w → w.mine ≡ v.mine → Fits named h w → Roster named h (set l i w)
  roster_set h l r i v w at same places fits_w = let P : ℕ → View E T → Type 0 = λ j u. (o : View E T) × (get_elem? l j ≡ some o) × (u.mine ≡ o.mine) in
      let old : (j : ℕ) (u : View E T) → get_elem? (set l i w) j ≡ some u → P j u = each_after P l i w (v, at, places) (λ j u _ e. (u, e, refl)) in
      same_roles h h l (set l i w) r (roles_before l i v w at same) (roles_after l i v w at same)
      (each_after (λ _ u. Fits named h u) l i w fits_w (λ j u _ e. r.fits j u e))
      (λ place inside_h. let c = r.covered place inside_h in dite (ℕ_discrete c.0 i)
      (λ is. (i, w, set_here l i w (inside l i v at), subst (λ z. Contains z place) (ap (λ (z : View E T). z.mine) (one_view l i c.0 v c.1 at c.2 is) ∙ sym places) c.3))
      (λ other. (c.0, c.1, set_else l i c.0 w other ∙ c.2, c.3)))
      (λ j k u x place a b p q. let o = old j u a in let n = old k x b in r.apart j k o.0 n.0 place o.1 n.1 (subst (λ z. Contains z place) o.2 p) (subst (λ z. Contains z place) n.2 q))
