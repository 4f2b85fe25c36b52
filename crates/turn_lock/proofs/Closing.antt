-- What is left when a lock is closed by its last pass.
use Rattle.std.proofs.Common.{◌≡◌, ◌≢◌, ℕ, zero, suc, ◌<◌, ◌≤◌, true, false, List, length, get_or, sym, ap, ◌∙◌, subst, ⊎_elim, arith, Option, Some}
use Rattle.std.specs.Prelude.{Contains}
use Rattle.std.proofs.lemmas.Bool.{both_ways}
use mathlib.Core.Logic.{dite}
use mathlib.Core.Option.{some, some-injective}
use native.Mathlib.Decide.{ℕ_discrete}
use lib.ListN.{get_elem?}
use Rattle.atomic_table.specs.Table.{State, Final, Seen}
use Rattle.plain_values.proofs.Lists.{contains_none_where}
use Rattle.turn_lock.specs.declared.pass.View.{View}
use Rattle.turn_lock.specs.Known.{IsLast}
use Rattle.turn_lock.specs.View.{known_of}
use Rattle.turn_lock.specs.Steps.{Agrees}
use Rattle.turn_lock.specs.Order.{Ordered}
use Rattle.turn_lock.proofs.Beginnings.{either_bool, starts_whole}
use Rattle.turn_lock.proofs.Rosters.{one_view}

module _ {S E T : Type 0} (entries : S → List E) (named : E → Option ℕ) (terms : S → T) (kept : S → Type 0) where
  -- the state that the last pass leaves, which has the history that the pass has seen
  pub record Leaves (v : View E T) (state : S) : Type 0 where
    pub seen : entries state ≡ v.seen
    pub count : v.count ≤ length (entries state)
    pub places : (place : ℕ) → place < length (entries state) → Contains v.mine place
    pub agrees : Agrees terms kept v state

  module _ (s : State (Option S) (View E T)) (r : Ordered entries named terms kept s) (i : ℕ) (v : View E T) (at : get_elem? s.views i ≡ some v) (last : IsLast (known_of v)) (live : v.spent ≡ false) (idle : v.holding ≡ false) where
    -- each other pass is spent
    other_spent : (j : ℕ) (u : View E T) → get_elem? s.views j ≡ some u → j ≢ i → u.spent ≡ true
    other_spent j u there apart = let q = r.roster in let whole : i ≡ q.first_seat = q.only_first i v at last.0 in let same : v ≡ q.first = one_view s.views q.first_seat i q.first v q.first_there at whole in
        ⊎_elim (λ (t : u.spent ≡ true). t)
        (λ (live : u.spent ≡ false). ⊎_elim
        (λ (uf : u.first ≡ true). absurd (apart (q.only_first j u there uf ∙ sym whole)))
        (λ (ug : u.first ≡ false). let g : Contains v.given u.caller = subst (λ (z : View E T). Contains z.given u.caller) (sym same) (q.given j u there ug live) in
        absurd (q.out j u there ug live (subst (λ (z : View E T). Contains z.back u.caller) same (last.1 u.caller g))))
        (either_bool u.first))
        (either_bool u.spent)

    free : get_or s.words 0 0 ≡ 0
    free = let b = r.binary in dite (ℕ_discrete (get_or s.words 0 0) 0) (λ z. z) (λ not.
        let taken : get_or s.words 0 0 ≡ 1 = omega arith in let t = r.held.somebody taken in dite (ℕ_discrete t.0 i)
        (λ is. absurd (both_ways v.holding idle (subst (λ (z : View E T). z.holding ≡ true) (one_view s.views i t.0 v t.1 at t.2 is) t.3)))
        (λ apart. absurd (both_ways t.1.holding ((r.roster.fits t.0 t.1 t.2).spent (other_spent t.0 t.1 t.2 apart)).1 t.3)))

    mine_all : (place : ℕ) → place < length r.history → Contains v.mine place
    mine_all place short = let c = r.roster.covered place short in dite (ℕ_discrete c.0 i)
        (λ is. subst (λ (z : View E T). Contains z.mine place) (one_view s.views i c.0 v c.1 at c.2 is) c.3)
        (λ apart. absurd (contains_none_where c.1.mine place ((r.roster.fits c.0 c.1 c.2).spent (other_spent c.0 c.1 c.2 apart)).0 c.3))

    seen_all : v.seen ≡ r.history
    seen_all = let f = r.roster.fits i v at in starts_whole r.history v.seen f.seen (reaches (length r.history) (λ place short. f.within place (mine_all place short)))
      where
        reaches : (n : ℕ) → ((place : ℕ) → place < n → place < length v.seen) → n ≤ length v.seen
        reaches zero all = omega arith
        reaches (suc n) all = let last_one = all n (omega arith) in omega arith

    leaves : (state : S) → entries state ≡ r.history → terms state ≡ r.agreed → kept state → Leaves v state
    leaves state is same is_kept = let f = r.roster.fits i v at in let size : length (entries state) ≡ length r.history = ap length is in record {
      seen = is ∙ sym seen_all;
      count = let c = f.count in omega arith;
      places = λ place short. mine_all place (omega arith);
      agrees = (r.agree i v at live ∙ ap Some (sym same), is_kept);
    }

  -- so the slot has the state
  pub closes : (i : ℕ) (v : View E T) (ws : List ℕ) (xs : List (Option S)) (found : Option S) → IsLast (known_of v) → v.spent ≡ false → v.holding ≡ false → Final (Seen (Ordered entries named terms kept) i v) ws xs → get_elem? xs 0 ≡ some found
      → (state : S) × (found ≡ Some state) × Leaves v state
  closes i v ws xs found last live idle f at = let s = f.0 in let r = f.1.0 in let home = r.home (free s r i v f.1.1 last live idle) in
      (home.0, some-injective found (Some home.0) (sym at ∙ f.4 0 (Some home.0) home.1), leaves s r i v f.1.1 last live idle home.0 home.2 home.3 home.4)

  pub gives_state : (v : View E T) (found : Option S) (state : S) → (t : S) × (found ≡ Some t) × Leaves v t → found ≡ Some state → Leaves v state
  gives_state v found state h is = subst (Leaves v) (same_some h.0 state (sym h.1 ∙ is)) h.2
    where
      same_some : (a b : S) → Some a ≡ Some b → a ≡ b
      same_some a b e = cc
