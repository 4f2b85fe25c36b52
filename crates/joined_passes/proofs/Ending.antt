-- What a board that is closed leaves: nothing behind what the first pass has seen.
use Rattle.std.proofs.Common.{◌≡◌, ◌≢◌, ◌∙◌, ◌↔◌, ℕ, ◌<◌, ◌≤◌, ⊎_elim, Bool, List, Contains, IsTrue, length, sym, ap, subst, arith}
use Rattle.std.specs.Prelude.{Some}
use Rattle.std.proofs.lemmas.Bool.{cases_lt}
use Rattle.disp_model.specs.declared.entry.Entry.{Entry}
use Rattle.disp_model.specs.declared.entry.Mark.TheVariants.{Working}
use Rattle.disp_model.specs.History.{mark_of, newest}
use Rattle.dispatch_core.specs.declared.event.CoreEvent.TheVariants as event
use Rattle.dispatch_core.specs.declared.event.CoreReply.{CoreReply}
use Rattle.dispatch_core.specs.Replies.{IsNextReply}
use Rattle.dispatch_core.specs.States.{Core}
use Rattle.turn_lock.specs.Known.{Known, IsLast}
use Rattle.turn_lock.specs.Section.{OwnsPlaces}
use Rattle.turn_lock.proofs.Beginnings.{starts_whole}
use Rattle.shared_board.specs.declared.terms.Terms.{Terms}
use Rattle.shared_board.specs.Callers.{caller_of, terms_of}
use Rattle.shared_board.specs.Calls.{Enters}
use Rattle.shared_board.proofs.Entries.{enters_as, role_entered}
use Rattle.shared_board.proofs.Running.{seen_after}

-- the mark of a history's newest edition is not that of one worked on
abbrev pub IsOverIn : List Entry → Type 0
IsOverIn history = mark_of (newest history) history ≢ Working

module _ (v w : Known Entry Terms) (told : CoreReply) (enters : Enters v event.Next told w) where
  seen_is : w.seen ≡ enters.before.history
  seen_is = seen_after v w enters.before.history enters.after.history enters.ran.knows ∙ ap (λ (c : Core). c.history) enters.steps.1

  mine_is : w.mine ≡ v.mine
  mine_is = enters_as v event.Next told w enters

  pub last_then : IsLast v → IsLast w
  last_then last = let role = role_entered v event.Next told w enters in (
    role.first ∙ last.0,
    λ caller given. subst (λ (l : List ℕ). Contains l caller) (sym role.back) (last.1 caller (subst (λ (l : List ℕ). Contains l caller) role.given given)),
  )

  pub terms_then : (core : Core) → w.terms ≡ Some (terms_of core) → v.terms ≡ Some (terms_of core)
  terms_then core are = sym (role_entered v event.Next told w enters).terms ∙ are

  pub over_then : (over : Bool) → ((core : Core) → IsNextReply core told → IsTrue over ↔ IsOverIn core.history) → (history : List Entry) → history ≡ w.seen → IsTrue over ↔ IsOverIn history
  over_then over said history is = subst (λ (h : List Entry). IsTrue over ↔ IsOverIn h) (sym (is ∙ seen_is)) (said enters.before enters.steps.0)

  module _ (history : List Entry) (is : history ≡ w.seen) (places : (place : ℕ) → place < length history → Contains w.mine place) where
    pub places_then : (place : ℕ) → place < length history → Contains v.mine place
    places_then place within = subst (λ (l : List ℕ). Contains l place) mine_is (places place within)

    -- each entry has a place that the pass had before, and those lie within what it had seen
    pub none_behind : OwnsPlaces caller_of v → history ≡ v.seen
    none_behind owns =
        let whole : history ≡ enters.before.history = is ∙ seen_is in let long : length history ≡ length enters.before.history = ap (λ (l : List Entry). length l) whole in
        let short : length history ≤ length v.seen = ⊎_elim
        (λ more. let within = owns.within (length v.seen) (places_then (length v.seen) more) in absurd (omega arith))
        (λ few. few)
        (cases_lt (length v.seen) (length history)) in
        whole ∙ sym (starts_whole enters.before.history v.seen enters.ran.found.begins.starts (omega arith))
