-- What an entry, a pass that is given and one that is joined do to the roster.
use Rattle.std.proofs.Common.{◌≡◌, ◌≢◌, ℕ, ◌+◌, ◌<◌, ◌≤◌, ◌⊎◌, true, false, List, [], ◌∷◌, ◌++◌, length, set, sym, refl, ap, ◌∙◌, subst, inl, inr, ⊎_elim, arith, length-append, Option, None, Some}
use Rattle.std.specs.Prelude.{Contains}
use Rattle.std.proofs.lemmas.Bool.{both_ways, cases_lt}
use Rattle.std.proofs.lemmas.List.Elements.{Contains-append_left, Contains-append_right, Contains-append_cases}
use Rattle.std.proofs.Math.Nat.{max-le}
use mathlib.Core.Logic.{dite}
use mathlib.Core.Option.{some}
use native.Mathlib.Decide.{ℕ_discrete}
use lib.ListN.{get_elem?}
use Rattle.atomic_table.proofs.Lists.{set_here, set_else, at_longer}
use Rattle.plain_values.proofs.Lists.{contains_last, contains_none_where, contains_one}
use Rattle.turn_lock.specs.declared.pass.View.{View}
use Rattle.turn_lock.specs.Known.{longer_of, shorter_of}
use Rattle.turn_lock.specs.View.{giving, given_view, joining, spent_view}
use Rattle.turn_lock.specs.Section.{IsOf}
use Rattle.turn_lock.specs.Steps.{entered}
use Rattle.turn_lock.specs.Order.{Fits, Roster}
use Rattle.turn_lock.proofs.Beginnings.{starts_none, starts_refl, starts_more, starts_length, starts_get, none_there, get_back, get_last, starts_both, longer_starts, shorter_starts, le_longer, shorter_le}
use Rattle.turn_lock.proofs.Rosters.{inside, one_view, each_after, at_end, SameRole, same_roles, roles_before, roles_after, begins}

module _ {E T : Type 0} (named : E → Option ℕ) where
  -- a longer history has what a view knows, if the view has not the turn
  fits_more : (h : List E) (e : E) (u : View E T) → u.holding ≡ false → Fits named h u → Fits named (h ++ e ∷ []) u
  fits_more h e u idle f = record {
    seen = starts_more h u.seen (e ∷ []) f.seen;
    count = let n = length-append h (e ∷ []) in let m = f.count in omega arith;
    held = λ has. absurd (both_ways u.holding idle has);
    within = f.within;
    names = λ place x caller there found names. let a = f.within place there in let b = starts_length h u.seen f.seen in f.names place x caller there (get_back h (e ∷ []) place x (omega arith) found) names;
    others_back = f.others_back;
    spent = f.spent;
    met_apart = f.met_apart;
    met_one = f.met_one;
    met_fresh = f.met_fresh;
  }

  -- the seat that holds adds an entry, which names its caller or none
  pub roster_add : (h : List E) (l : List (View E T)) → Roster named h l → (i : ℕ) (v : View E T) (e : E) → get_elem? l i ≡ some v → v.holding ≡ true → v.spent ≡ false
      → ((j : ℕ) (u : View E T) → j ≢ i → get_elem? l j ≡ some u → u.holding ≡ false) → IsOf named v.caller e → Roster named (h ++ e ∷ []) (set l i (entered v (h ++ e ∷ [])))
  roster_add h l r i v e at has live idle of = let f = r.fits i v at in let w : View E T = entered v (h ++ e ∷ []) in let grown : length (h ++ e ∷ []) ≡ length h + 1 = length-append h (e ∷ []) in
      let same_held : v.held ≡ h = f.held has in let top : length v.held ≡ length h = ap length same_held in let seen = starts_length h v.seen f.seen in
      let roles : SameRole v w = record { first = refl; spent = refl; caller = refl; given = refl; back = refl } in
      let old : (place : ℕ) → Contains w.mine place → Contains v.mine place ⊎ (place ≡ length h) = λ place c.
      ⊎_elim (λ (o : Contains v.mine place). inl o) (λ (o : Contains (length v.held ∷ []) place). inr (contains_one (length v.held) place o ∙ top)) (Contains-append_cases v.mine (length v.held ∷ []) place c) in
      let below : (j : ℕ) (u : View E T) (place : ℕ) → get_elem? l j ≡ some u → Contains u.mine place → place < length h = λ j u place there c.
      let g = r.fits j u there in let a = g.within place c in let b = starts_length h u.seen g.seen in omega arith in
      let P : ℕ → View E T → Type 0 = λ j u. (o : View E T) × (get_elem? l j ≡ some o) × ((place : ℕ) → Contains u.mine place → Contains o.mine place ⊎ ((place ≡ length h) × (j ≡ i))) in
      let origin : (j : ℕ) (u : View E T) → get_elem? (set l i w) j ≡ some u → P j u = each_after P l i w
      (v, at, λ place c. ⊎_elim (λ (o : Contains v.mine place). inl o) (λ (o : place ≡ length h). inr (o, refl)) (old place c)) (λ j u _ there. (u, there, λ place c. inl c)) in
      same_roles named h (h ++ e ∷ []) l (set l i w) r (roles_before named l i v w at roles) (roles_after named l i v w at roles)
      (each_after (λ _ u. Fits named (h ++ e ∷ []) u) l i w record {
        seen = starts_refl (h ++ e ∷ []);
        count = let m = f.count in omega arith;
        held = λ _. refl;
        within = λ place c. ⊎_elim (λ (o : Contains v.mine place). let a = f.within place o in omega arith) (λ (o : place ≡ length h). omega arith) (old place c);
        names = λ place x caller c found names. ⊎_elim
            (λ (o : Contains v.mine place). let a = f.within place o in f.names place x caller o (get_back h (e ∷ []) place x (omega arith) found) names)
            (λ (o : place ≡ length h). let is = (get_last h e x place (omega arith) found).1 in ⊎_elim
            (λ (none_named : named e ≡ None). let bad : None ≡ Some caller = sym none_named ∙ (ap named is ∙ names) in absurd (cc))
            (λ (mine : named e ≡ Some v.caller). let same : Some v.caller ≡ Some caller = sym mine ∙ (ap named is ∙ names) in let back : caller ≡ v.caller = cc in inl back) of)
            (old place c);
        others_back = f.others_back;
        spent = λ gone. absurd (both_ways v.spent live gone);
        met_apart = f.met_apart;
        met_one = f.met_one;
        met_fresh = f.met_fresh;
      } (λ j u other there. fits_more h e u (idle j u other there) (r.fits j u there)))
      (λ place short. ⊎_elim
      (λ (low : place < length h). let c = r.covered place low in dite (ℕ_discrete c.0 i)
      (λ is. (i, w, set_here l i w (inside l i v at), Contains-append_left v.mine (length v.held ∷ []) place (subst (λ (z : View E T). Contains z.mine place) (one_view l i c.0 v c.1 at c.2 is) c.3)))
      (λ other. (c.0, c.1, set_else l i c.0 w other ∙ c.2, c.3)))
      (λ (high : length h ≤ place). let is : length v.held ≡ place = omega arith in (i, w, set_here l i w (inside l i v at), subst (Contains w.mine) is (contains_last v.mine (length v.held))))
      (cases_lt place (length h)))
      (λ j k u x place a b p q. let o = origin j u a in let n = origin k x b in ⊎_elim
      (λ (pu : Contains o.0.mine place). ⊎_elim
      (λ (px : Contains n.0.mine place). r.apart j k o.0 n.0 place o.1 n.1 pu px)
      (λ (tx : (place ≡ length h) × (k ≡ i)). let m = below j o.0 place o.1 pu in let t = tx.0 in absurd (omega arith))
      (n.2 place q))
      (λ (tu : (place ≡ length h) × (j ≡ i)). ⊎_elim
      (λ (px : Contains n.0.mine place). let m = below k n.0 place n.1 px in let t = tu.0 in absurd (omega arith))
      (λ (tx : (place ≡ length h) × (k ≡ i)). tu.1 ∙ sym tx.1)
      (n.2 place q))
      (o.2 place p))

  -- the first pass gives one to another caller
  pub roster_split : (h : List E) (l : List (View E T)) → Roster named h l → (i : ℕ) (v : View E T) (caller : ℕ) → get_elem? l i ≡ some v → v.first ≡ true
      → (caller ≡ v.caller → ⊥) → (Contains v.given caller → ⊥) → Roster named h (set l i (giving v caller) ++ given_view v caller ∷ [])
  roster_split h l r i v caller at is other new = let f = r.fits i v at in let w : View E T = giving v caller in let g : View E T = given_view v caller in let l1 : List (View E T) = set l i w in
      let whole : i ≡ r.first_seat = r.only_first i v at is in let first : v ≡ r.first = one_view l r.first_seat i r.first v r.first_there at whole in
      let here : get_elem? l1 i ≡ some w = set_here l i w (inside l i v at) in
      let size : length l1 ≡ length l1 = refl in
      -- each view but the new one has an old one with its places, its caller and its back
      let P : ℕ → View E T → Type 0 = λ j u. (o : View E T) × (get_elem? l j ≡ some o) × (u.mine ≡ o.mine) × (u.caller ≡ o.caller) × (u.first ≡ o.first) × (u.spent ≡ o.spent) in
      let old1 : (j : ℕ) (u : View E T) → get_elem? l1 j ≡ some u → P j u = each_after P l i w (v, at, refl, refl, refl, refl) (λ j u _ e. (u, e, refl, refl, refl, refl)) in
      let old : (j : ℕ) (u : View E T) → get_elem? (l1 ++ g ∷ []) j ≡ some u → P j u ⊎ ((j ≡ length l1) × (g ≡ u)) = λ j u e.
      ⊎_elim (λ (t : get_elem? l1 j ≡ some u). inl (old1 j u t)) (λ (t : (j ≡ length l1) × (g ≡ u)). inr t) (at_end l1 g u j e) in
      let gave : (c : ℕ) → Contains r.first.given c → Contains w.given c = λ c t. Contains-append_left v.given (caller ∷ []) c (subst (λ (z : View E T). Contains z.given c) (sym first) t) in
      let backs : (c : ℕ) → Contains w.back c → Contains r.first.back c = λ c t. subst (λ (z : View E T). Contains z.back c) first t in
      let fresh : Contains r.first.given caller → ⊥ = λ t. new (subst (λ (z : View E T). Contains z.given caller) (sym first) t) in record {
        fits = λ j u e. ⊎_elim
            (λ (t : get_elem? l1 j ≡ some u). each_after (λ _ u. Fits named h u) l i w record {
              seen = f.seen;
              count = f.count;
              held = f.held;
              within = f.within;
              names = f.names;
              others_back = f.others_back;
              spent = f.spent;
              met_apart = f.met_apart;
              met_one = f.met_one;
              met_fresh = f.met_fresh;
            } (λ j u _ e. r.fits j u e) j u t)
            (λ (t : (j ≡ length l1) × (g ≡ u)). subst (Fits named h) t.1 record {
              seen = f.seen;
              count = f.count;
              held = λ has. absurd (both_ways false refl has);
              within = λ place c. absurd (contains_none_where [] place refl c);
              names = λ place x c there _ _. absurd (contains_none_where [] place refl there);
              others_back = λ _. refl;
              spent = λ gone. (refl, refl);
              met_apart = λ place c _. contains_none_where [] place refl c;
              met_one = starts_none [];
              met_fresh = λ place e past found _. none_there place e found;
            })
            (at_end l1 g u j e);
        covered = λ place short. let c = r.covered place short in dite (ℕ_discrete c.0 i)
            (λ same. (i, w, at_longer l1 (g ∷ []) i w here, subst (λ (z : View E T). Contains z.mine place) (one_view l i c.0 v c.1 at c.2 same) c.3))
            (λ apart. (c.0, c.1, at_longer l1 (g ∷ []) c.0 c.1 (set_else l i c.0 w apart ∙ c.2), c.3));
        apart = λ j k u x place a b p q. ⊎_elim
            (λ (o : P j u). ⊎_elim
            (λ (n : P k x). r.apart j k o.0 n.0 place o.1 n.1 (subst (λ z. Contains z place) o.2 p) (subst (λ z. Contains z place) n.2 q))
            (λ (t : (k ≡ length l1) × (g ≡ x)). absurd (contains_none_where x.mine place (ap (λ (z : View E T). z.mine) (sym t.1)) q))
            (old k x b))
            (λ (t : (j ≡ length l1) × (g ≡ u)). absurd (contains_none_where u.mine place (ap (λ (z : View E T). z.mine) (sym t.1)) p))
            (old j u a);
        first_seat = i;
        first = w;
        first_there = at_longer l1 (g ∷ []) i w here;
        is_first = is;
        first_lives = ap (λ (z : View E T). z.spent) first ∙ r.first_lives;
        only_first = λ j u a e. ⊎_elim (λ (o : P j u). r.only_first j o.0 o.1 (sym o.4 ∙ e) ∙ sym whole)
            (λ (t : (j ≡ length l1) × (g ≡ u)). absurd (both_ways u.first (ap (λ (z : View E T). z.first) (sym t.1)) e)) (old j u a);
        given = λ j u a e live. ⊎_elim (λ (o : P j u). gave u.caller (subst (Contains r.first.given) (sym o.3) (r.given j o.0 o.1 (sym o.4 ∙ e) (sym o.5 ∙ live))))
            (λ (t : (j ≡ length l1) × (g ≡ u)). subst (Contains w.given) (ap (λ (z : View E T). z.caller) t.1) (contains_last v.given caller)) (old j u a);
        out = λ j u a e live c. ⊎_elim (λ (o : P j u). r.out j o.0 o.1 (sym o.4 ∙ e) (sym o.5 ∙ live) (subst (Contains r.first.back) o.3 (backs u.caller c)))
            (λ (t : (j ≡ length l1) × (g ≡ u)). fresh (r.back_given caller (subst (Contains r.first.back) (ap (λ (z : View E T). z.caller) (sym t.1)) (backs u.caller c)))) (old j u a);
        one_each = λ j k u x a b ug xg ul xl same. ⊎_elim
            (λ (o : P j u). ⊎_elim
            (λ (n : P k x). r.one_each j k o.0 n.0 o.1 n.1 (sym o.4 ∙ ug) (sym n.4 ∙ xg) (sym o.5 ∙ ul) (sym n.5 ∙ xl) (sym o.3 ∙ (same ∙ n.3)))
            (λ (t : (k ≡ length l1) × (g ≡ x)). absurd (fresh (subst (Contains r.first.given) (sym o.3 ∙ (same ∙ ap (λ (z : View E T). z.caller) (sym t.1))) (r.given j o.0 o.1 (sym o.4 ∙ ug) (sym o.5 ∙ ul)))))
            (old k x b))
            (λ (t : (j ≡ length l1) × (g ≡ u)). ⊎_elim
            (λ (n : P k x). absurd (fresh (subst (Contains r.first.given) (sym n.3 ∙ (sym same ∙ ap (λ (z : View E T). z.caller) (sym t.1))) (r.given k n.0 n.1 (sym n.4 ∙ xg) (sym n.5 ∙ xl)))))
            (λ (s : (k ≡ length l1) × (g ≡ x)). t.0 ∙ sym s.0)
            (old k x b))
            (old j u a);
        own_apart = λ c. ⊎_elim (λ (o : Contains v.given v.caller). r.own_apart (subst (λ (z : View E T). Contains z.given z.caller) first o)) (λ (o : Contains (caller ∷ []) v.caller). other (sym (contains_one caller v.caller o))) (Contains-append_cases v.given (caller ∷ []) v.caller c);
        back_given = λ c t. gave c (r.back_given c (backs c t));
      }

  fits_spent : (h : List E) → Fits {T = T} named h spent_view
  fits_spent h = record {
    seen = starts_none h;
    count = omega arith;
    held = λ has. absurd (both_ways false refl has);
    within = λ place c. absurd (contains_none_where [] place refl c);
    names = λ place x c there _ _. absurd (contains_none_where [] place refl there);
    others_back = λ _. refl;
    spent = λ gone. (refl, refl);
    met_apart = λ place c _. contains_none_where [] place refl c;
    met_one = starts_none [];
    met_fresh = λ place e past found _. none_there place e found;
  }

  -- a view after the join: the first pass's, the spent one, or one that stays
  abbrev Came : List (View E T) → ℕ → View E T → ℕ → View E T → ℕ → View E T → Type 0
  Came l i v j w m u = ((m ≡ i) × (joining v w ≡ u)) ⊎ ((spent_view ≡ u) ⊎ ((m ≢ i) × (m ≢ j) × (get_elem? l m ≡ some u)))

  module _ (h : List E) (l : List (View E T)) (r : Roster named h l) (i : ℕ) (v : View E T) (j : ℕ) (w : View E T) (at : get_elem? l i ≡ some v) (there : get_elem? l j ≡ some w) (is : v.first ≡ true) where
    third : (m : ℕ) (u : View E T) → Came l i v j w m u → u.first ≡ false → u.spent ≡ false → (m ≢ i) × (m ≢ j) × (get_elem? l m ≡ some u)
    third m u (inl t) ug ul = absurd (both_ways u.first ug (ap (λ (z : View E T). z.first) (sym t.1) ∙ is))
    third m u (inr (inl s)) ug ul = absurd (both_ways u.spent ul (ap (λ (z : View E T). z.spent) (sym s)))
    third m u (inr (inr o)) ug ul = o

    -- a place of the joined pass was one of either's, so it is at no other seat
    not_both : (n : ℕ) (x : View E T) (place : ℕ) → n ≢ i → n ≢ j → get_elem? l n ≡ some x → Contains (v.mine ++ w.mine) place → Contains x.mine place → ⊥
    not_both n x place not_i not_j e p q = ⊎_elim (λ (o : Contains v.mine place). not_i (r.apart n i x v place e at q o)) (λ (o : Contains w.mine place). not_j (r.apart n j x w place e there q o)) (Contains-append_cases v.mine w.mine place p)

    apart_after : (m n : ℕ) (u x : View E T) (place : ℕ) → Came l i v j w m u → Came l i v j w n x → Contains u.mine place → Contains x.mine place → m ≡ n
    apart_after m n u x place (inr (inl s)) _ p q = absurd (contains_none_where u.mine place (ap (λ (z : View E T). z.mine) (sym s)) p)
    apart_after m n u x place (inl t) (inl s) p q = t.0 ∙ sym s.0
    apart_after m n u x place (inl t) (inr (inl s)) p q = absurd (contains_none_where x.mine place (ap (λ (z : View E T). z.mine) (sym s)) q)
    apart_after m n u x place (inl t) (inr (inr o)) p q = absurd (not_both n x place o.0 o.1 o.2 (subst (λ (z : View E T). Contains z.mine place) (sym t.1) p) q)
    apart_after m n u x place (inr (inr o)) (inl s) p q = absurd (not_both m u place o.0 o.1 o.2 (subst (λ (z : View E T). Contains z.mine place) (sym s.1) q) p)
    apart_after m n u x place (inr (inr o)) (inr (inl s)) p q = absurd (contains_none_where x.mine place (ap (λ (z : View E T). z.mine) (sym s)) q)
    apart_after m n u x place (inr (inr o)) (inr (inr s)) p q = r.apart m n u x place o.2 s.2 p q

  -- the first pass takes in another
  pub roster_join : (h : List E) (l : List (View E T)) → Roster named h l → (i : ℕ) (v : View E T) (j : ℕ) (w : View E T) → get_elem? l i ≡ some v → get_elem? l j ≡ some w → j ≢ i
      → v.first ≡ true → w.first ≡ false → w.spent ≡ false → Roster named h (set (set l i (joining v w)) j spent_view)
  roster_join h l r i v j w at there other is of live = let f = r.fits i v at in let g = r.fits j w there in let b : View E T = joining v w in let l1 : List (View E T) = set l i b in
      let whole : i ≡ r.first_seat = r.only_first i v at is in let first : v ≡ r.first = one_view l r.first_seat i r.first v r.first_there at whole in
      let mine : get_elem? (set l1 j spent_view) i ≡ some b = set_else l1 j i spent_view (λ z. other (sym z)) ∙ set_here l i b (inside l i v at) in
      let no_back : w.back ≡ [] = g.others_back of in
      let P : ℕ → View E T → Type 0 = λ m u. ((m ≡ i) × (b ≡ u)) ⊎ ((spent_view ≡ u) ⊎ ((m ≢ i) × (m ≢ j) × (get_elem? l m ≡ some u))) in
      let old : (m : ℕ) (u : View E T) → get_elem? (set l1 j spent_view) m ≡ some u → P m u = each_after P l1 j spent_view (inr (inl refl))
      (λ m u not_j e. each_after (λ m u. m ≢ j → P m u) l i b (λ _. inl (refl, refl)) (λ m u not_i e not_j. inr (inr (not_i, not_j, e))) m u e not_j) in
      let gave : (c : ℕ) → Contains r.first.given c → Contains b.given c = λ c t. subst (λ (z : View E T). Contains z.given c) (sym first) t in
      let from : (c : ℕ) → Contains b.back c → Contains r.first.back c ⊎ (c ≡ w.caller) = λ c t. ⊎_elim
      (λ (o : Contains v.back c). inl (subst (λ (z : View E T). Contains z.back c) first o)) (λ (o : Contains (w.caller ∷ []) c). inr (contains_one w.caller c o)) (Contains-append_cases v.back (w.caller ∷ []) c t) in
      let first_live : v.spent ≡ false = ap (λ (z : View E T). z.spent) first ∙ r.first_lives in
      let longer = le_longer v.seen w.seen in record {
        fits = λ m u e. ⊎_elim
            (λ (t : (m ≡ i) × (b ≡ u)). subst (Fits named h) t.1 record {
              seen = longer_starts h v.seen w.seen f.seen g.seen;
              count = max-le f.count g.count;
              held = f.held;
              within = λ place c. ⊎_elim (λ (o : Contains v.mine place). let a = f.within place o in let q = longer.0 in omega arith) (λ (o : Contains w.mine place). let a = g.within place o in let q = longer.1 in omega arith) (Contains-append_cases v.mine w.mine place c);
              names = λ place x caller c found names. ⊎_elim
                  (λ (o : Contains v.mine place). ⊎_elim (λ (own : caller ≡ v.caller). inl own) (λ (back : Contains v.back caller). inr (Contains-append_left v.back (w.caller ∷ []) caller back)) (f.names place x caller o found names))
                  (λ (o : Contains w.mine place). ⊎_elim (λ (own : caller ≡ w.caller). inr (subst (Contains b.back) (sym own) (contains_last v.back w.caller))) (λ (back : Contains w.back caller). absurd (contains_none_where w.back caller no_back back)) (g.names place x caller o found names))
                  (Contains-append_cases v.mine w.mine place c);
              others_back = λ not_first. absurd (both_ways v.first not_first is);
              spent = λ gone. absurd (both_ways v.spent first_live gone);
              met_apart = λ place c d. other (r.apart j i w v place there at d c);
              met_one = starts_both h (shorter_of v.seen w.seen) (longer_of v.seen w.seen) (shorter_starts h v.seen w.seen f.seen g.seen) (longer_starts h v.seen w.seen f.seen g.seen) (shorter_le v.seen w.seen);
              met_fresh = λ place e past found. (begins named h l r i v at first_live).fresh place e past (starts_get h (longer_of v.seen w.seen) (longer_starts h v.seen w.seen f.seen g.seen) place e found);
            })
            (λ (t : (spent_view ≡ u) ⊎ ((m ≢ i) × (m ≢ j) × (get_elem? l m ≡ some u))). ⊎_elim (λ (s : spent_view ≡ u). subst (Fits named h) s (fits_spent h)) (λ (o : (m ≢ i) × (m ≢ j) × (get_elem? l m ≡ some u)). r.fits m u o.2) t)
            (old m u e);
        covered = λ place short. let c = r.covered place short in dite (ℕ_discrete c.0 j)
            (λ same. (i, b, mine, Contains-append_right v.mine w.mine place (subst (λ (z : View E T). Contains z.mine place) (one_view l j c.0 w c.1 there c.2 same) c.3)))
            (λ not_j. dite (ℕ_discrete c.0 i)
            (λ same. (i, b, mine, Contains-append_left v.mine w.mine place (subst (λ (z : View E T). Contains z.mine place) (one_view l i c.0 v c.1 at c.2 same) c.3)))
            (λ not_i. (c.0, c.1, set_else l1 j c.0 spent_view not_j ∙ (set_else l i c.0 b not_i ∙ c.2), c.3)));
        apart = λ m n u x place a c p q. apart_after h l r i v j w at there is m n u x place (old m u a) (old n x c) p q;
        first_seat = i;
        first = b;
        first_there = mine;
        is_first = is;
        first_lives = first_live;
        only_first = λ m u e uf. ⊎_elim (λ (t : (m ≡ i) × (b ≡ u)). t.0)
            (λ (t : (spent_view ≡ u) ⊎ ((m ≢ i) × (m ≢ j) × (get_elem? l m ≡ some u))). ⊎_elim (λ (s : spent_view ≡ u). absurd (both_ways u.first (ap (λ (z : View E T). z.first) (sym s)) uf)) (λ (o : (m ≢ i) × (m ≢ j) × (get_elem? l m ≡ some u)). r.only_first m u o.2 uf ∙ sym whole) t)
            (old m u e);
        given = λ m u e ug ul. gave u.caller (let o = third h l r i v j w at there is m u (old m u e) ug ul in r.given m u o.2 ug ul);
        out = λ m u e ug ul c. let o = third h l r i v j w at there is m u (old m u e) ug ul in ⊎_elim (λ (t : Contains r.first.back u.caller). r.out m u o.2 ug ul t) (λ (t : u.caller ≡ w.caller). o.1 (r.one_each m j u w o.2 there ug of ul live t)) (from u.caller c);
        one_each = λ m n u x a c ug xg ul xl same. let o = third h l r i v j w at there is m u (old m u a) ug ul in let p = third h l r i v j w at there is n x (old n x c) xg xl in r.one_each m n u x o.2 p.2 ug xg ul xl same;
        own_apart = λ c. r.own_apart (subst (λ (z : View E T). Contains z.given z.caller) first c);
        back_given = λ c t. gave c (⊎_elim (λ (o : Contains r.first.back c). r.back_given c o) (λ (o : c ≡ w.caller). subst (Contains r.first.given) (sym o) (r.given j w there of live)) (from c t));
      }
