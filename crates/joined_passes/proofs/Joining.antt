-- What is known of the first pass after some of the others were joined.
use Rattle.std.proofs.Common.{◌≡◌, ◌∙◌, ℕ, ◌≤◌, ◌⊎◌, ⊎_elim, Bool, true, false, List, [], ◌∷◌, ◌++◌, All, length, map, refl, sym, ap, subst, arith, append_assoc, append-nil}
use Rattle.std.specs.Prelude.{nat_lt, if◌then◌else◌}
use Rattle.std.proofs.lemmas.List.{map-append}
use Rattle.std.proofs.lemmas.List.Elements.{All-append}
use Rattle.disp_model.specs.declared.entry.Entry.{Entry}
use Rattle.turn_lock.specs.Known.{Known, StartsWith, joined_known, longer_of, shorter_of}
use Rattle.turn_lock.specs.Section.{OwnsPlaces}
use Rattle.turn_lock.proofs.Beginnings.{either_bool, starts_more, starts_refl}
use Rattle.shared_board.specs.declared.pass.Pass.{Pass}
use Rattle.shared_board.specs.declared.terms.Terms.{Terms}
use Rattle.shared_board.specs.Board.{own_board, known, fetched, lines}
use Rattle.shared_board.specs.Callers.{caller_of}
use Rattle.shared_board.proofs.LineCounts.{longer_begins}
use Rattle.joined_passes.specs.Joined.{joined_all, caller_at, Joins}

module _ {E T : Type 0} where
  -- one pass more
  all_more : (v : Known E T) (ws : List (Known E T)) (w : Known E T) → joined_all v (ws ++ w ∷ []) ≡ joined_known (joined_all v ws) w
  all_more v [] w = refl
  all_more v (u ∷ ws) w = all_more (joined_known v u) ws w

module _ {E : Type 0} where
  starts_on : (l m n : List E) → StartsWith l m → StartsWith m n → StartsWith l n
  starts_on l m n (more, is) begins = subst (λ (h : List E). StartsWith h n) (sym is) (starts_more m n more begins)

  other_begins : (xs ys : List E) → StartsWith (longer_of xs ys) (shorter_of xs ys) → StartsWith (longer_of xs ys) ys
  other_begins xs ys one = ⊎_elim
      (λ (yes : nat_lt (length xs) (length ys) ≡ true).
      let l : longer_of xs ys ≡ ys = ap (λ (b : Bool). if b then ys else xs) yes in subst (λ (h : List E). StartsWith h ys) (sym l) (starts_refl ys))
      (λ (no : nat_lt (length xs) (length ys) ≡ false).
      let s : shorter_of xs ys ≡ ys = ap (λ (b : Bool). if b then xs else ys) no in subst (StartsWith (longer_of xs ys)) s one)
      (either_bool (nat_lt (length xs) (length ys)))

pub joins_none : (first : Pass) → Joins first [] first
joins_none first = record {
  board_is = refl;
  knows = refl;
  fetched_is = refl;
  lines_are = refl;
  first = refl;
  caller = refl;
  terms = refl;
  given = refl;
  back = sym (append-nil (known first).back);
  starts = starts_refl (known first).seen;
  each = λ k d within. absurd (omega arith);
  owns = λ either. ⊎_elim (λ (own : OwnsPlaces caller_of (known first)). own) (λ some. absurd (omega arith)) either;
}

-- what one call says of a pass that is joined
pub record JoinsOne (before pass after : Pass) : Type 0 where
  pub board_is : own_board after ≡ own_board before
  pub knows : known after ≡ joined_known (known before) (known pass)
  pub fetched_is : fetched after ≡ fetched before
  pub lines_are : lines after ≡ lines before
  pub one : StartsWith (longer_of (known before).seen (known pass).seen) (shorter_of (known before).seen (known pass).seen)
  pub owns : OwnsPlaces caller_of (known after)

module _ (before between after : Pass) (done : List Pass) (pass : Pass) (joins : Joins before done between) (one : JoinsOne between pass after) where
  of_known : {A : Type 0} (f : Known Entry Terms → A) → f (known after) ≡ f (joined_known (known between) (known pass))
  of_known f = ap f one.knows

  grows : StartsWith (known after).seen (known between).seen
  grows = subst (λ (h : List Entry). StartsWith h (known between).seen) (sym (of_known (λ k. k.seen))) (longer_begins (known between).seen (known pass).seen one.one)

  takes : StartsWith (known after).seen (known pass).seen
  takes = subst (λ (h : List Entry). StartsWith h (known pass).seen) (sym (of_known (λ k. k.seen))) (other_begins (known between).seen (known pass).seen one.one)

  each_more : All (λ p. StartsWith (known after).seen (known p).seen) (done ++ pass ∷ [])
  each_more = All-append (λ p. StartsWith (known after).seen (known p).seen) done (pass ∷ [])
      (λ k d within. starts_on (known after).seen (known between).seen _ grows (joins.each k d within))
      (λ k d within. let at : k ≡ 0 = omega arith in rw at takes)

  pub joins_more : Joins before (done ++ pass ∷ []) after
  joins_more = record {
    board_is = one.board_is ∙ joins.board_is;
    knows =
        one.knows ∙ (ap (λ (k : Known Entry Terms). joined_known k (known pass)) joins.knows
        ∙ (sym (all_more (known before) (map known done) (known pass)) ∙ ap (joined_all (known before)) (sym (map-append known done (pass ∷ [])))));
    fetched_is = one.fetched_is ∙ joins.fetched_is;
    lines_are = one.lines_are ∙ joins.lines_are;
    first = of_known (λ k. k.first) ∙ joins.first;
    caller = of_known (λ k. k.caller) ∙ joins.caller;
    terms = of_known (λ k. k.terms) ∙ joins.terms;
    given = of_known (λ k. k.given) ∙ joins.given;
    back =
        of_known (λ k. k.back) ∙ (ap (λ (l : List ℕ). l ++ caller_at pass ∷ []) joins.back
        ∙ (append_assoc (known before).back (map caller_at done) (caller_at pass ∷ []) ∙ ap (λ (l : List ℕ). (known before).back ++ l) (sym (map-append caller_at done (pass ∷ [])))));
    starts = starts_on (known after).seen (known between).seen (known before).seen grows joins.starts;
    each = each_more;
    owns = λ either. one.owns;
  }
