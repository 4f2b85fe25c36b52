-- Each step of a lock keeps its rule.
use Rattle.std.proofs.Common.{◌≡◌, ◌≢◌, ℕ, zero, suc, ◌+◌, ◌%◌, ◌<◌, ◌≤◌, eqb, true, false, List, [], ◌∷◌, ◌++◌, length, get_or, set, sym, refl, ap, ◌∙◌, subst, ⊎_elim, arith, le_refl, length-set, get_or-set_same, get_or-set_other, length-append, eq-eqb, ne_eqb, Option, None, Some}
use Rattle.std.specs.Prelude.{Contains, if◌then◌else◌}
use Rattle.std.proofs.lemmas.Bool.{both_ways, cond_both}
use mathlib.Core.Logic.{dite}
use mathlib.Core.Option.{none, some, some-injective, some-ne-none}
use native.Mathlib.Decide.{ℕ_discrete}
use lib.ListN.{get_elem?}
use lib.Seq.{set-get_or}
use prog.Atomic.{either}
use Rattle.atomic_table.specs.Table.{State, step, keeps, takes, gives, stepped, Allows, Splits, Joins, opening}
use Rattle.atomic_table.proofs.Lists.{set_here, set_else, at_longer}
use Rattle.plain_values.proofs.Lists.{contains_none_where}
use Rattle.turn_lock.specs.declared.pass.View.{View}
use Rattle.turn_lock.specs.Known.{StartsWith}
use Rattle.turn_lock.specs.View.{first_view, giving, given_view, joining, spent_view}
use Rattle.turn_lock.specs.Section.{IsOf}
use Rattle.turn_lock.specs.Steps.{missed, holding, entered, counted, released, Begins, Owns, Sat, Agrees, Takes, Enters, Counts, Releases, Settles}
use Rattle.turn_lock.specs.Order.{Fits, Roster, Held, Agree, Ordered}
use Rattle.turn_lock.proofs.Beginnings.{either_bool, starts_none, starts_refl, starts_length, none_there}
use Rattle.turn_lock.proofs.Rosters.{inside, one_view, each_after, at_end, SameRole, owns, begins, roster_set}
use Rattle.turn_lock.proofs.Changes.{roster_add, roster_split, roster_join}

module _ {S : Type 0} where
  abbrev state_or : S → Option S → S
  state_or d None = d
  state_or d (Some s) = s

  abbrev first_state : S → List (ℕ × Option S) → S
  first_state d [] = d
  first_state d (x ∷ xs) = state_or d x.1

  pub in_hand : (a b : S) → ◌≡◌ {A = List (ℕ × Option S)} ((0, Some a) ∷ []) ((0, Some b) ∷ []) → a ≡ b
  in_hand a b e = ap (first_state a) e

module _ {E T : Type 0} where
  -- a view changes and goes on to hold or not to hold
  pub held_same : (lock : ℕ) (l : List (View E T)) → Held lock l → (i : ℕ) (v w : View E T) → get_elem? l i ≡ some v → w.holding ≡ v.holding → Held lock (set l i w)
  held_same lock l k i v w at same = let P : ℕ → View E T → Type 0 = λ j u. (o : View E T) × (get_elem? l j ≡ some o) × (u.holding ≡ o.holding) in
      let old : (j : ℕ) (u : View E T) → get_elem? (set l i w) j ≡ some u → P j u = each_after P l i w (v, at, same) (λ j u _ e. (u, e, refl)) in record {
        nobody = λ free j u e. let o = old j u e in o.2 ∙ k.nobody free j o.0 o.1;
        somebody = λ taken. let t = k.somebody taken in dite (ℕ_discrete t.0 i)
            (λ is. (i, w, set_here l i w (inside l i v at), same ∙ subst (λ (z : View E T). z.holding ≡ true) (one_view l i t.0 v t.1 at t.2 is) t.3))
            (λ other. (t.0, t.1, set_else l i t.0 w other ∙ t.2, t.3));
        one = λ j m u x a b p q. let o = old j u a in let n = old m x b in k.one j m o.0 n.0 o.1 n.1 (sym o.2 ∙ p) (sym n.2 ∙ q);
      }

  -- a view comes that does not hold
  held_longer : (lock : ℕ) (l : List (View E T)) (g : View E T) → g.holding ≡ false → Held lock l → Held lock (l ++ g ∷ [])
  held_longer lock l g idle k = record {
    nobody = λ free j u e. ⊎_elim (λ (t : get_elem? l j ≡ some u). k.nobody free j u t) (λ (t : (j ≡ length l) × (g ≡ u)). subst (λ (z : View E T). z.holding ≡ false) t.1 idle) (at_end l g u j e);
    somebody = λ taken. let t = k.somebody taken in (t.0, t.1, at_longer l (g ∷ []) t.0 t.1 t.2, t.3);
    one = λ j m u x a b p q. ⊎_elim
        (λ (s : get_elem? l j ≡ some u). ⊎_elim (λ (t : get_elem? l m ≡ some x). k.one j m u x s t p q) (λ (t : (m ≡ length l) × (g ≡ x)). absurd (both_ways x.holding (ap (λ (z : View E T). z.holding) (sym t.1) ∙ idle) q)) (at_end l g x m b))
        (λ (s : (j ≡ length l) × (g ≡ u)). absurd (both_ways u.holding (ap (λ (z : View E T). z.holding) (sym s.1) ∙ idle) p))
        (at_end l g u j a);
  }

  -- a view changes and goes on to know the terms
  pub agree_same : (agreed : T) (l : List (View E T)) → Agree agreed l → (i : ℕ) (v w : View E T) → get_elem? l i ≡ some v → w.spent ≡ v.spent → w.terms ≡ v.terms → Agree agreed (set l i w)
  agree_same agreed l a i v w at spent terms = each_after (λ _ u. u.spent ≡ false → u.terms ≡ Some agreed) l i w (λ live. terms ∙ a i v at (sym spent ∙ live)) (λ j u _ e. a j u e)

  -- a view comes that knows the terms
  agree_longer : (agreed : T) (l : List (View E T)) (g : View E T) → g.terms ≡ Some agreed → Agree agreed l → Agree agreed (l ++ g ∷ [])
  agree_longer agreed l g knows a j u e live = ⊎_elim (λ (t : get_elem? l j ≡ some u). a j u t live) (λ (t : (j ≡ length l) × (g ≡ u)). subst (λ (z : View E T). z.terms ≡ Some agreed) t.1 knows) (at_end l g u j e)

  -- a view changes and is spent
  agree_spent : (agreed : T) (l : List (View E T)) → Agree agreed l → (i : ℕ) (w : View E T) → w.spent ≡ true → Agree agreed (set l i w)
  agree_spent agreed l a i w gone = each_after (λ _ u. u.spent ≡ false → u.terms ≡ Some agreed) l i w (λ live. absurd (both_ways w.spent live gone)) (λ j u _ e. a j u e)

  -- a seat that holds is alone
  pub others_idle : (lock : ℕ) (l : List (View E T)) → Held lock l → (i : ℕ) (v : View E T) → get_elem? l i ≡ some v → v.holding ≡ true → (j : ℕ) (u : View E T) → j ≢ i → get_elem? l j ≡ some u → u.holding ≡ false
  others_idle lock l k i v at has j u other there = ⊎_elim (λ (t : u.holding ≡ true). absurd (other (k.one j i u v there at t has))) (λ (t : u.holding ≡ false). t) (either_bool u.holding)

module _ {S E T : Type 0} (entries : S → List E) (named : E → Option ℕ) (terms : S → T) (kept : S → Type 0) where
  abbrev St : Type 0
  St = State (Option S) (View E T)

  abbrev Rule : St → Type 0
  Rule = Ordered entries named terms kept

  abbrev lock : St → ℕ
  lock s = get_or s.words 0 0

  abbrev count : St → ℕ
  count s = get_or s.words 1 0

  -- a step that moves no word
  unmoved : (s : St) (r : Rule s) (word i : ℕ) (cs : List (ℕ × Option S)) (v w : View E T) → get_elem? s.views i ≡ some v → SameRole v w → w.terms ≡ v.terms → w.mine ≡ v.mine → w.holding ≡ v.holding → Fits named r.history w
      → Rule (stepped s word (get_or s.words word 0) i cs w keeps)
  unmoved s r word i cs v w at role knows places has fits = subst (λ (ws : List ℕ). Rule record { words = ws; homes = s.homes; views = set s.views i w }) (sym (set-get_or s.words word 0)) record {
    history = r.history;
    agreed = r.agreed;
    two_words = r.two_words;
    one_slot = r.one_slot;
    binary = r.binary;
    counted = r.counted;
    home = r.home;
    held = held_same (lock s) s.views r.held i v w at has;
    roster = roster_set named r.history s.views r.roster i v w at role places fits;
    agree = agree_same r.agreed s.views r.agree i v w at role.spent knows;
  }

  abbrev now : View E T → List E
  now v = if v.holding then v.held else v.seen

  seen_now : (h : List E) (v : View E T) → Fits named h v → StartsWith h (now v) × (length v.seen ≤ length (now v))
  seen_now h v f = cond_both v.holding v.held v.seen (λ (l : List E). StartsWith h l × (length v.seen ≤ length l))
      (λ has. let same = f.held has in let a = starts_length h v.seen f.seen in let b : length v.held ≡ length h = ap length same in (subst (StartsWith h) (sym same) (starts_refl h), omega arith)) (λ _. (f.seen, le_refl (length v.seen)))

  pub counts : (slots i : ℕ) (me : Sat S E T) → me.0.spent ≡ false → Allows Rule slots i me 1 (λ n. n) (Counts entries named terms kept (step slots 1 0 0 none) me)
  counts slots i me live s r _ at _ = let v : View E T = me.0 in let x : ℕ = count s in let w : View E T = counted v x in let h : List E = r.history in let f = r.roster.fits i v at in let q = seen_now h v f in let is = r.counted in
      let role : SameRole v w = record { first = refl; spent = refl; caller = refl; given = refl; back = refl } in
      let fits : Fits named h w = record {
        seen = q.0;
        count = omega arith;
        held = f.held;
        within = λ place c. let a = f.within place c in let b = q.1 in omega arith;
        names = f.names;
        others_back = f.others_back;
        spent = f.spent;
        met_apart = f.met_apart;
        met_one = f.met_one;
        met_fresh = f.met_fresh;
      } in (
        w,
        keeps,
        tt,
        unmoved s r 1 i me.1 v w at role refl refl refl fits,
        (
          refl,
          refl,
          (let a = starts_length h v.seen f.seen in omega arith),
          (let a = f.count in omega arith),
          owns named h (set s.views i w) (roster_set named h s.views r.roster i v w at role refl fits) i w (set_here s.views i w (inside s.views i v at)) live,
        ),
      )

  pub settles : (slots i : ℕ) (me : Sat S E T) → me.0.spent ≡ false → Allows Rule slots i me 0 (λ n. n) (Settles entries named terms kept (step slots 0 0 0 none) me)
  settles slots i me live s r _ at _ = let v : View E T = me.0 in let f = r.roster.fits i v at in (
    v,
    keeps,
    tt,
    unmoved s r 0 i me.1 v v at (record { first = refl; spent = refl; caller = refl; given = refl; back = refl }) refl refl refl f,
    (refl, refl, owns named r.history s.views r.roster i v at live, f.met_apart, f.met_one, f.met_fresh),
  )

  -- the free lock is taken, and the state with it
  took : (s : St) (r : Rule s) (i : ℕ) (cs : List (ℕ × Option S)) (v : View E T) (state : S) → v.spent ≡ false → get_elem? s.views i ≡ some v → lock s ≡ 0 → entries state ≡ r.history → Rule (stepped s 0 1 i cs (holding v (entries state)) (takes 0 (Some state)))
  took s r i cs v state live at free is = let w : View E T = holding v (entries state) in let two = r.two_words in let f = r.roster.fits i v at in
      let here : get_or (set s.words 0 1) 0 0 ≡ 1 = get_or-set_same s.words 0 1 0 (omega arith) in
      let there : get_or (set s.words 0 1) 1 0 ≡ count s = get_or-set_other s.words 0 1 1 0 (λ e. omega arith) in
      let mine : (j : ℕ) (u : View E T) → get_elem? (set s.views i w) j ≡ some u → u.holding ≡ true → j ≡ i =
      each_after (λ j u. u.holding ≡ true → j ≡ i) s.views i w (λ _. refl) (λ j u _ e has. absurd (both_ways u.holding (r.held.nobody free j u e) has)) in record {
        history = r.history;
        agreed = r.agreed;
        two_words = length-set s.words 0 1 ∙ two;
        one_slot = length-set s.homes 0 none ∙ r.one_slot;
        binary = omega arith;
        counted = there ∙ r.counted;
        home = λ z. absurd (omega arith);
        held = record {
          nobody = λ z. absurd (omega arith);
          somebody = λ _. (i, w, set_here s.views i w (inside s.views i v at), refl);
          one = λ j m u x a b p q. mine j u a p ∙ sym (mine m x b q);
        };
        roster = roster_set named r.history s.views r.roster i v w at (record { first = refl; spent = refl; caller = refl; given = refl; back = refl }) refl record {
          seen = f.seen;
          count = f.count;
          held = λ _. is;
          within = f.within;
          names = f.names;
          others_back = f.others_back;
          spent = λ gone. absurd (both_ways v.spent live gone);
          met_apart = f.met_apart;
          met_one = f.met_one;
          met_fresh = f.met_fresh;
        };
        agree = agree_same r.agreed s.views r.agree i v w at refl refl;
      }

  pub takes_turn : (slots i : ℕ) (me : Sat S E T) → me.0.spent ≡ false → Allows Rule slots i me 0 (λ n. either (eqb n 0) 1 n) (Takes entries named terms kept (step slots 0 0 1 none) me)
  takes_turn slots i me live s r _ at _ = let v : View E T = me.0 in let x : ℕ = lock s in let f = r.roster.fits i v at in dite (ℕ_discrete x 0)
      (λ free. let h = r.home free in (
        holding v (entries h.0),
        takes 0 (Some h.0),
        h.1,
        subst (λ b. Rule (stepped s 0 (either b 1 x) i me.1 (holding v (entries h.0)) (takes 0 (Some h.0)))) (sym (eq-eqb x 0 free)) (took s r i me.1 v h.0 live at free h.2),
        (
          (λ _. record {
            state = h.0;
            slot = refl;
            view = refl;
            begins = subst (λ l. Begins named v l) (sym h.2) (begins named r.history s.views r.roster i v at live);
            agrees = (r.agree i v at live ∙ ap Some (sym h.3), h.4);
          }),
          λ busy. absurd (busy free),
        ),
      ))
      (λ busy. (
        missed v,
        keeps,
        tt,
        subst (λ b. Rule (stepped s 0 (either b 1 x) i me.1 (missed v) keeps)) (sym (ne_eqb x 0 busy))
            (unmoved s r 0 i me.1 v (missed v) at (record { first = refl; spent = refl; caller = refl; given = refl; back = refl }) refl refl refl record {
              seen = f.seen;
              count = f.count;
              held = f.held;
              within = f.within;
              names = f.names;
              others_back = f.others_back;
              spent = f.spent;
              met_apart = f.met_apart;
              met_one = f.met_one;
              met_fresh = f.met_fresh;
            }),
        ((λ free. absurd (busy free)), λ _. ((refl, refl), (let b = r.binary in omega arith))),
      ))

  -- the count rises by the entry that the state in hand has more
  entered_kept : (s : St) (r : Rule s) (i : ℕ) (cs : List (ℕ × Option S)) (v : View E T) (e : E) (after : List E) → get_elem? s.views i ≡ some v → v.holding ≡ true → v.spent ≡ false
      → after ≡ v.held ++ e ∷ [] → IsOf named v.caller e → length after < 18446744073709551616
      → Rule (stepped s 1 ((count s + 1) % 18446744073709551616) i cs (entered v after) keeps) × Owns named (entered v after)
  entered_kept s r i cs v e after at has live is of fits =
      let h : List E = r.history in let same_held : v.held ≡ h = (r.roster.fits i v at).held has in
      let grown : after ≡ h ++ e ∷ [] = is ∙ ap (λ l. l ++ e ∷ []) same_held in
      let w : View E T = entered v after in
      let roster : Roster named after (set s.views i w) = subst (λ (l : List E). Roster named l (set s.views i (entered v l))) (sym grown)
      (roster_add named h s.views r.roster i v e at has live (others_idle (lock s) s.views r.held i v at has) of) in
      let size : length after ≡ length h + 1 = ap length grown ∙ length-append h (e ∷ []) in let was = r.counted in let two = r.two_words in
      let next : (count s + 1) % 18446744073709551616 ≡ length after = omega arith in
      let n : ℕ = (count s + 1) % 18446744073709551616 in
      let here : get_or (set s.words 1 n) 1 0 ≡ n = get_or-set_same s.words 1 n 0 (omega arith) in
      let still : get_or (set s.words 1 n) 0 0 ≡ lock s = get_or-set_other s.words 1 0 n 0 (λ e. omega arith) in (
        record {
          history = after;
          agreed = r.agreed;
          two_words = length-set s.words 1 n ∙ two;
          one_slot = r.one_slot;
          binary = let b = r.binary in omega arith;
          counted = here ∙ next;
          home = λ z. absurd (both_ways v.holding (r.held.nobody (sym still ∙ z) i v at) has);
          held = subst (λ (z : ℕ). Held z (set s.views i w)) (sym still) (held_same (lock s) s.views r.held i v w at refl);
          roster = roster;
          agree = agree_same r.agreed s.views r.agree i v w at refl refl;
        },
        owns named after (set s.views i w) roster i w (set_here s.views i w (inside s.views i v at)) live,
      )

  pub enters : (slots i : ℕ) (v : View E T) (state : S) → v.holding ≡ true → v.spent ≡ false → (e : E) → entries state ≡ v.held ++ e ∷ [] → IsOf named v.caller e → length (entries state) < 18446744073709551616
      → (c : List (ℕ × Option S)) → c ≡ (0, Some state) ∷ [] → Allows Rule slots i (v, c) 1 (λ n. (n + 1) % 18446744073709551616) (Enters entries named terms kept (step slots 1 1 0 none) (v, c))
  enters slots i v state has live e is of fits c carry s r _ at _ = let k = entered_kept s r i c v e (entries state) at has live is of fits in
      (entered v (entries state), keeps, tt, k.0, (refl, (λ other there. let same : state ≡ other = in_hand state other (sym carry ∙ there) in ap (λ (z : S). entered v (entries z)) same), k.1))

  -- the turn and the state are given back
  gave_back : (s : St) (r : Rule s) (i : ℕ) (v : View E T) (state : S) → get_elem? s.views i ≡ some v → v.holding ≡ true → v.spent ≡ false → entries state ≡ v.held → Agrees terms kept v state
      → Rule (stepped s 0 0 i ((0, Some state) ∷ []) (released v) gives)
  gave_back s r i v state at has live is agrees = let w : View E T = released v in let f = r.roster.fits i v at in let two = r.two_words in let slot = r.one_slot in
      let here : get_or (set s.words 0 0) 0 0 ≡ 0 = get_or-set_same s.words 0 0 0 (omega arith) in
      let there : get_or (set s.words 0 0) 1 0 ≡ count s = get_or-set_other s.words 0 1 0 0 (λ e. omega arith) in
      let idle : (j : ℕ) (u : View E T) → get_elem? (set s.views i w) j ≡ some u → u.holding ≡ false = each_after (λ _ u. u.holding ≡ false) s.views i w refl (others_idle (lock s) s.views r.held i v at has) in record {
        history = r.history;
        agreed = r.agreed;
        two_words = length-set s.words 0 0 ∙ two;
        one_slot = length-set s.homes 0 (some (Some state)) ∙ slot;
        binary = omega arith;
        counted = there ∙ r.counted;
        home = λ _. (state, set_here s.homes 0 (some (Some state)) (omega arith), is ∙ f.held has, same_terms (terms state) r.agreed (sym agrees.0 ∙ r.agree i v at live), agrees.1);
        held = record {
          nobody = λ _. idle;
          somebody = λ z. absurd (omega arith);
          one = λ j m u x a b p q. absurd (both_ways u.holding (idle j u a) p);
        };
        roster = roster_set named r.history s.views r.roster i v w at (record { first = refl; spent = refl; caller = refl; given = refl; back = refl }) refl record {
          seen = f.seen;
          count = f.count;
          held = λ z. absurd (both_ways false refl z);
          within = f.within;
          names = f.names;
          others_back = f.others_back;
          spent = λ gone. absurd (both_ways v.spent live gone);
          met_apart = f.met_apart;
          met_one = f.met_one;
          met_fresh = f.met_fresh;
        };
        agree = agree_same r.agreed s.views r.agree i v w at refl refl;
      }
    where
      same_terms : (a b : T) → Some a ≡ Some b → a ≡ b
      same_terms a b e = cc

  pub releases : (slots i : ℕ) (v : View E T) (state : S) → v.holding ≡ true → v.spent ≡ false → entries state ≡ v.held → Agrees terms kept v state
      → (c : List (ℕ × Option S)) → c ≡ (0, Some state) ∷ [] → Allows Rule slots i (v, c) 0 (λ _. 0) (λ _. Releases entries named terms kept (step slots 0 0 0 none) (v, c) 0)
  releases slots i v state has live is agrees c carry = subst (λ (z : List (ℕ × Option S)). Allows Rule slots i (v, z) 0 (λ _. 0) (λ _. Releases entries named terms kept (step slots 0 0 0 none) (v, z) 0)) (sym carry)
      (λ s r _ at _. (released v, gives, tt, gave_back s r i v state at has live is agrees, (refl, refl)))

  pub splits : (i : ℕ) (v : View E T) (caller : ℕ) → v.first ≡ true → v.spent ≡ false → (caller ≡ v.caller → ⊥) → (Contains v.given caller → ⊥) → Splits Rule i v (giving v caller) (given_view v caller)
  splits i v caller is live other new s r at = record {
    history = r.history;
    agreed = r.agreed;
    two_words = r.two_words;
    one_slot = r.one_slot;
    binary = r.binary;
    counted = r.counted;
    home = r.home;
    held = held_longer (lock s) (set s.views i (giving v caller)) (given_view v caller) refl (held_same (lock s) s.views r.held i v (giving v caller) at refl);
    roster = roster_split named r.history s.views r.roster i v caller at is other new;
    agree = agree_longer r.agreed (set s.views i (giving v caller)) (given_view v caller) (r.agree i v at live) (agree_same r.agreed s.views r.agree i v (giving v caller) at refl refl);
  }

  pub joins : (i : ℕ) (v : View E T) (j : ℕ) (w : View E T) → v.first ≡ true → w.spent ≡ false → w.holding ≡ false → Joins Rule i v j w (joining v w) spent_view
  joins i v j w is live idle s r at apart still = let there : get_elem? s.views j ≡ some w = sym (set_else s.views i j (joining v w) apart) ∙ still in
      let of : w.first ≡ false = ⊎_elim (λ (t : w.first ≡ true). absurd (apart (r.roster.only_first j w there t ∙ sym (r.roster.only_first i v at is)))) (λ (t : w.first ≡ false). t) (either_bool w.first) in record {
        history = r.history;
        agreed = r.agreed;
        two_words = r.two_words;
        one_slot = r.one_slot;
        binary = r.binary;
        counted = r.counted;
        home = r.home;
        held = held_same (lock s) (set s.views i (joining v w)) (held_same (lock s) s.views r.held i v (joining v w) at refl) j w spent_view still (sym idle);
        roster = roster_join named r.history s.views r.roster i v j w at there apart is of live;
        agree = agree_spent r.agreed (set s.views i (joining v w)) (agree_same r.agreed s.views r.agree i v (joining v w) at refl refl) j spent_view refl;
      }

  only_one : (a b : View E T) (j : ℕ) → get_elem? (a ∷ []) j ≡ some b → (j ≡ 0) × (a ≡ b)
  only_one a b zero e = (refl, some-injective a b e)
  only_one a b (suc j) e = absurd (some-ne-none b (sym e))

  -- the rule holds of a new lock
  pub opens : (state : S) (caller : ℕ) → entries state ≡ [] → kept state → Rule (opening (0 ∷ 0 ∷ []) (Some state ∷ []) (first_view caller (terms state)))
  opens state caller empty is_kept = let v : View E T = first_view caller (terms state) in record {
    history = [];
    agreed = terms state;
    two_words = refl;
    one_slot = refl;
    binary = omega arith;
    counted = refl;
    home = λ _. (state, refl, empty, refl, is_kept);
    held = record {
      nobody = λ _ j u e. ap (λ (z : View E T). z.holding) (sym (only_one v u j e).1);
      somebody = λ z. absurd (omega arith);
      one = λ j m u x a b p q. (only_one v u j a).0 ∙ sym (only_one v x m b).0;
    };
    roster = record {
      fits = λ j u e. subst (Fits named []) (only_one v u j e).1 record {
        seen = ([], refl);
        count = omega arith;
        held = λ z. absurd (both_ways false refl z);
        within = λ place c. absurd (contains_none_where [] place refl c);
        names = λ place x c there _ _. absurd (contains_none_where [] place refl there);
        others_back = λ _. refl;
        spent = λ gone. (refl, refl);
        met_apart = λ place c _. contains_none_where [] place refl c;
        met_one = starts_none [];
        met_fresh = λ place e past found _. none_there place e found;
      };
      covered = λ place short. absurd (omega arith);
      apart = λ j m u x place a b p q. (only_one v u j a).0 ∙ sym (only_one v x m b).0;
      first_seat = 0;
      first = v;
      first_there = refl;
      is_first = refl;
      first_lives = refl;
      only_first = λ j u e _. (only_one v u j e).0;
      given = λ j u e of _. absurd (both_ways u.first of (ap (λ (z : View E T). z.first) (sym (only_one v u j e).1)));
      out = λ j u e of _ _. both_ways u.first of (ap (λ (z : View E T). z.first) (sym (only_one v u j e).1));
      one_each = λ j m u x a b _ _ _ _ _. (only_one v u j a).0 ∙ sym (only_one v x m b).0;
      own_apart = λ c. contains_none_where [] caller refl c;
      back_given = λ c t. absurd (contains_none_where [] c refl t);
    };
    agree = λ j u e _. ap (λ (z : View E T). z.terms) (sym (only_one v u j e).1);
  }
