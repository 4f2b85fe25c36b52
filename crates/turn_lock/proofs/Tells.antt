-- What the steps of a section tell, put together.
use Rattle.std.proofs.Common.{get_or, ◌≡◌, ℕ, ◌+◌, ◌≤◌, Bool, true, false, List, [], ◌∷◌, ◌++◌, length, sym, ap, ◌∙◌, subst, inl, inr, arith, length-append, Option, Some}
use Rattle.std.specs.Prelude.{MatchBool, nat_lt, if◌then◌else◌}
use Rattle.std.proofs.lemmas.Bool.{lt-ltb, le-ltb}
use Rattle.atomic_table.specs.Table.{rest, step}
use Rattle.turn_lock.specs.declared.pass.View.{View}
use Rattle.turn_lock.specs.View.{known_of}
use Rattle.turn_lock.specs.Known.{Known}
use Rattle.turn_lock.specs.Section.{AddsEntry, AddsOne, Knows, MayFind, MayLeave, Ran}
use Rattle.turn_lock.proofs.Beginnings.{nil_of}
use Rattle.turn_lock.proofs.Keeps.{in_hand}
use Rattle.turn_lock.specs.Steps.{Begins, Owns, Agrees, places_after, Sat, released, holding, HasCounted, GaveBack, Left, Enters, Counts}

module _ {S : Type 0} (slots : List (ℕ × Option S)) (slot : Option S) (carried : S) (there : slots ≡ (0, Some carried) ∷ []) (lent : slots ≡ (0, slot) ∷ rest slots) where
  -- the slot that is lent has the state that the seat carries
  pub lent_state : slot ≡ Some carried
  lent_state = ap (λ (l : List (ℕ × Option S)). (get_or l 0 (0, slot)).1) (sym lent ∙ there)

  -- and it carries no other
  pub carried_alone : (state : S) → slot ≡ Some state → slots ≡ (0, Some state) ∷ []
  carried_alone state is = lent ∙ (λ i. (0, is i) ∷ ap rest there i)

module _ {E : Type 0} (named : E → Option ℕ) where
  -- whether the count grew says which of the two it was
  pub grew_cases : (caller : ℕ) (before after : List E) → AddsOne named caller before after → (grew : Bool) → grew ≡ nat_lt (length before) (length after) → MatchBool grew (AddsEntry named caller before after) (after ≡ before)
  grew_cases caller before after (inl same) grew is = let no : grew ≡ false = is ∙ le-ltb (length before) (length after) (let e : length after ≡ length before = ap length same in omega arith) in
      subst (λ b. MatchBool b (AddsEntry named caller before after) (after ≡ before)) (sym no) same
  grew_cases caller before after (inr entry) grew is = let yes : grew ≡ true = is ∙ lt-ltb (length before) (length after) (let e : length after ≡ length before + 1 = ap length entry.1 ∙ length-append before (entry.0 ∷ []) in omega arith) in
      subst (λ b. MatchBool b (AddsEntry named caller before after) (after ≡ before)) (sym yes) entry

module _ {E T : Type 0} (named : E → Option ℕ) where
  -- the turn given back, of what was counted
  pub gives_back : (v u w : View E T) (grew : Bool) (after : List E) → HasCounted named v grew after u → w ≡ released u → GaveBack named v grew after w
  gives_back v u w grew after k e = record {
    knows = e ∙ (ap released k.knows ∙ (λ i. record v { seen = after; mine = (if grew then v.mine ++ length v.held ∷ [] else v.mine); count = ap (λ (z : View E T). z.count) (sym e) i; holding = false; held = [] }));
    count = let c = k.count in let same : w.count ≡ u.count = ap (λ (z : View E T). z.count) e in omega arith;
    owns = subst (Owns named) (sym e) k.owns;
  }

module _ {S E T : Type 0} (entries : S → List E) (named : E → Option ℕ) (terms : S → T) (kept : S → Type 0) where
  pub counted_entry : (m m' : Sat S E T) (r : ℕ) (state : S) → m.1 ≡ (0, Some state) ∷ [] → m.0.holding ≡ true → Enters entries named terms kept (step 1 1 1 0 mathlib.Core.Option.none) m r m' → HasCounted named m.0 true (entries state) m'.0
  counted_entry m m' r state carry has t = record {
    knows = let k = t.1 state carry in k ∙ (λ i. record m.0 { seen = entries state; held = entries state; mine = m.0.mine ++ length m.0.held ∷ []; count = ap (λ (z : View E T). z.count) (sym k) i });
    count = let same : m'.0.count ≡ m.0.count = ap (λ (z : View E T). z.count) (t.1 state carry) in omega arith;
    owns = t.2;
  }

  pub counted_none : (m m' : Sat S E T) (r : ℕ) (state : S) → entries state ≡ m.0.held → m.0.holding ≡ true → Counts entries named terms kept (step 1 1 0 0 mathlib.Core.Option.none) m r m' → HasCounted named m.0 false (entries state) m'.0
  counted_none m m' r state is has t = let e = t.1 in let same : m'.0.count ≡ r = ap (λ (z : View E T). z.count) e in record {
    knows = e ∙ (λ i. record m.0 { seen = (ap (λ b. if b then m.0.held else m.0.seen) has ∙ sym is) i; held = sym is i; count = sym same i });
    count = let low = t.3 in omega arith;
    owns = t.4;
  }

module _ {E T : Type 0} (named : E → Option ℕ) where
  pub grown_carries : (v z : View E T) (before after : List E) (grew : Bool) → z ≡ v → before ≡ v.held → MatchBool grew (AddsEntry named v.caller before after) (after ≡ before)
      → MatchBool grew (AddsEntry named z.caller z.held after) (after ≡ z.held)
  grown_carries v z before after grew same is m = subst (λ (y : View E T). MatchBool grew (AddsEntry named y.caller y.held after) (after ≡ y.held)) (sym same)
      (subst (λ (l : List E). MatchBool grew (AddsEntry named v.caller l after) (after ≡ l)) is m)

  -- what a section leaves, of what is left once the turn is given back
  pub left_of : (v z w : View E T) (before after : List E) (grew : Bool) → z ≡ v → before ≡ v.held → Begins named v before → AddsOne named v.caller before after → grew ≡ nat_lt (length before) (length after)
      → GaveBack named z grew after w → Left named v before after w
  left_of v z w before after grew same is b a big k = let held : z.held ≡ before = ap (λ (y : View E T). y.held) same ∙ sym is in record {
    begins = b;
    adds = a;
    knows = k.knows ∙ (λ i. record (same i) { seen = after; mine = (if big i then (same i).mine ++ length (held i) ∷ [] else (same i).mine); count = w.count; holding = false; held = [] });
    count = let c = k.count in let e : z.count ≡ v.count = ap (λ (y : View E T). y.count) same in omega arith;
    owns = k.owns;
  }

  -- the view before a section that ran after some tries, and the one behind it
  pub record RanAfter (v : View E T) (before after : List E) (w : View E T) : Type 0 where
    pub knows : w ≡ record v { seen = after; mine = places_after v.mine before after; count = w.count; tries = w.tries }
    pub count : v.count ≤ w.count
    pub tries : v.tries ≤ w.tries
    pub owns : Owns named w

  pub ran_after : (v v' u w : View E T) (h before after : List E) → v' ≡ record v { tries = v'.tries } → v.tries ≤ v'.tries → v.holding ≡ false → length v.held ≡ 0 → u ≡ holding v' h
      → Left named u before after w → RanAfter v before after w
  ran_after v v' u w h before after tried more idle none_held took k =
      let tries : ℕ = v'.tries in
      let e : u ≡ record v { tries = tries; holding = true; held = h } = took ∙ ap (λ (z : View E T). holding z h) tried in
      let f : View E T → View E T = λ z. record z { seen = after; mine = places_after z.mine before after; count = w.count; holding = false; held = [] } in
      let step : w ≡ f (record v { tries = tries; holding = true; held = h }) = k.knows ∙ ap f e in
      let same_tries : w.tries ≡ tries = ap (λ (z : View E T). z.tries) step in
      let none_left : v.held ≡ [] = nil_of v.held none_held in record {
        knows = step ∙ (λ i. record v { seen = after; mine = places_after v.mine before after; count = w.count; tries = sym same_tries i; holding = sym idle i; held = sym none_left i });
        count = let c = k.count in let s : u.count ≡ v.count = ap (λ (z : View E T). z.count) e in omega arith;
        tries = omega arith;
        owns = k.owns;
      }

  -- what the pass knows then
  knows_then : (v w : View E T) (before after : List E) → AddsOne named v.caller before after → w ≡ record v { seen = after; mine = places_after v.mine before after; count = w.count; tries = w.tries }
      → Knows named (known_of v) before after (known_of w)
  knows_then v w before after (inl same) e = let no : nat_lt (length before) (length after) ≡ false = le-ltb (length before) (length after) (let n : length after ≡ length before = ap length same in omega arith) in
      inl (same, ap known_of e ∙ (λ i. known_of (record v { seen = after; mine = (if no i then v.mine ++ length before ∷ [] else v.mine); count = w.count; tries = w.tries })))
  knows_then v w before after (inr entry) e = let yes : nat_lt (length before) (length after) ≡ true = lt-ltb (length before) (length after) (let n : length after ≡ length before + 1 = ap length entry.1 ∙ length-append before (entry.0 ∷ []) in omega arith) in
      inr (entry, ap known_of e ∙ (λ i. known_of (record v { seen = after; mine = (if yes i then v.mine ++ length before ∷ [] else v.mine); count = w.count; tries = w.tries })))

module _ {S E T : Type 0} (entries : S → List E) (named : E → Option ℕ) (terms : S → T) (kept : S → Type 0) where
  -- what a section does, from the seat that it ran with
  pub ran_of : (v u w : View E T) (n : ℕ) (before after : S) → known_of u ≡ record (known_of v) { tries = n } → RanAfter named v (entries before) (entries after) w
      → MayFind entries named terms kept (known_of u) before → MayLeave entries named terms kept u.caller before after → Ran entries named terms kept (known_of v) before after (known_of w)
  ran_of v u w n before after same k found left =
      let P : ℕ → Type 0 = λ c. MayLeave entries named terms kept c before after in
      let too : P v.caller = subst P (ap (λ (z : Known E T). z.caller) same) left in record {
        found = subst (λ (z : Known E T). MayFind entries named terms kept z before) same found;
        left = too;
        knows = knows_then named v w (entries before) (entries after) too.adds k.knows;
        count = k.count;
        tries = k.tries;
        owns = k.owns;
      }

  -- the state taken out is the one that the seat carries
  pub found_in_hand : (v : View E T) (state : S) {slot : List (ℕ × Option S)} → (carried : S) × (slot ≡ (0, Some carried) ∷ []) × (entries carried ≡ v.held) × Agrees terms kept v carried
      → slot ≡ (0, Some state) ∷ [] → Begins named v v.held → (entries state ≡ v.held) × MayFind entries named terms kept (known_of v) state
  found_in_hand v state (carried, there, held, agrees) here begins =
      let same : carried ≡ state = in_hand carried state (sym there ∙ here) in
      let is : entries state ≡ v.held = subst (λ (z : S). entries z ≡ v.held) same held in
      let too : Agrees terms kept v state = subst (Agrees terms kept v) same agrees in (
        is,
        record { agrees = too.0; is_kept = too.1; begins = subst (Begins named v) (sym is) begins },
      )

  -- and what the section leaves may be given back
  pub agrees_then : (v z : View E T) (before after : S) → z ≡ v → MayFind entries named terms kept (known_of v) before → MayLeave entries named terms kept v.caller before after → Agrees terms kept z after
  agrees_then v z before after same found left = (ap (λ (y : View E T). y.terms) same ∙ (found.agrees ∙ ap Some (sym left.agrees)), left.is_kept)
