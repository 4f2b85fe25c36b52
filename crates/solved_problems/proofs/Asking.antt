-- What a line that is asked leaves of its pass.
use Rattle.std.proofs.Common.{◌≡◌, ◌∙◌, ℕ, suc, ◌+◌, ◌≤◌, ⊎_elim, Bool, true, false, List, [], ◌∷◌, ◌++◌, length, refl, ap, subst, arith}
use Rattle.std.specs.Prelude.{filter}
use Rattle.std.proofs.lemmas.Bool.{eq-eqb}
use Rattle.disp_model.specs.declared.entry.Entry.{Entry}
use Rattle.disp_model.specs.declared.entry.Entry.TheVariants.{Asked}
use Rattle.disp_model.specs.declared.fixing.Change.{Change}
use Rattle.dispatch_core.specs.declared.event.CoreEvent.TheVariants as event
use Rattle.dispatch_core.specs.declared.event.CoreReply.{CoreReply}
use Rattle.dispatch_core.specs.declared.event.CoreReply.TheVariants as reply
use Rattle.dispatch_core.specs.Replies.{IsAsk}
use Rattle.dispatch_core.specs.States.{Core}
use Rattle.turn_lock.specs.Known.{Known}
use Rattle.turn_lock.proofs.Beginnings.{either_bool}
use Rattle.shared_board.specs.declared.pass.Pass.{Pass}
use Rattle.shared_board.specs.declared.terms.Terms.{Terms}
use Rattle.shared_board.specs.Board.{known, lines}
use Rattle.shared_board.specs.Calls.{Enters}
use Rattle.shared_board.specs.Onward.{entries_by}
use Rattle.shared_board.proofs.Onward.{one_more}
use Rattle.solved_problems.specs.Solved.{AsksNext}

-- what the call is answered with
pub ask_asks : (before after : Pass) (line : ℕ) (change : Change) (told : CoreReply) → line ≡ lines before + 1
    → Enters (known before) (event.Ask (known before).caller line change) told (known after) → lines after ≡ line
    → AsksNext before after change
ask_asks before after line change told is enters counted = by_reply told enters enters.steps
  where
    v : Known Entry Terms
    v = known before

    w : Known Entry Terms
    w = known after

    by_reply : (told : CoreReply) (enters : Enters v (event.Ask v.caller line change) told w) → IsAsk enters.before v.caller line change told enters.after
        → AsksNext before after change
    by_reply (reply.Asked answer) enters asks = record {
      reply = answer;
      counted = counted ∙ is;
      entered = subst (λ (n : ℕ). entries_by v.caller w.seen ≡ entries_by v.caller v.seen ++ Asked v.caller n change answer ∷ []) is
          (one_more v w (event.Ask v.caller line change) (reply.Asked answer) enters (Asked v.caller line change answer) (ap (λ (c : Core). c.history) asks.after_is)
          (eq-eqb v.caller v.caller refl));
    }
    by_reply told enters asks = absurd asks

-- where as many elements pass a test as there are, all do
module _ {X : Type 0} (p : X → Bool) where
  no_more : (xs : List X) → length (filter p xs) ≤ length xs
  no_more [] = omega arith
  no_more (x ∷ xs) = ⊎_elim
      (λ (yes : p x ≡ true). rw yes (let rest = no_more xs in omega arith))
      (λ (no : p x ≡ false). rw no (let rest = no_more xs in omega arith))
      (either_bool (p x))

  pub all_pass : (xs : List X) → length (filter p xs) ≡ length xs → filter p xs ≡ xs
  all_pass [] same = refl
  all_pass (x ∷ xs) same = ⊎_elim
      (λ (yes : p x ≡ true).
      let is : filter p (x ∷ xs) ≡ x ∷ filter p xs = rw yes refl in
      let long : length (filter p (x ∷ xs)) ≡ suc (length (filter p xs)) = ap (λ (l : List X). length l) is in
      is ∙ ap (λ (l : List X). x ∷ l) (all_pass xs (omega (arith, long, same))))
      (λ (no : p x ≡ false).
      let is : filter p (x ∷ xs) ≡ filter p xs = rw no refl in
      let long : length (filter p (x ∷ xs)) ≡ length (filter p xs) = ap (λ (l : List X). length l) is in
      let rest = no_more xs in absurd (omega (arith, long, same, rest)))
      (either_bool (p x))
