-- What a line leaves of the entries of its feed's lines.
use Rattle.std.proofs.Common.{◌≡◌, ◌∙◌, ℕ, ◌+◌, List, [], ◌∷◌, ◌++◌, refl, ap}
use Rattle.std.proofs.lemmas.Bool.{eq-eqb}
use Rattle.disp_model.specs.declared.entry.Entry.{Entry}
use Rattle.disp_model.specs.declared.entry.Entry.TheVariants.{Asked, Unread, Shown}
use Rattle.disp_model.specs.declared.entry.Unasked.{Unasked}
use Rattle.disp_model.specs.declared.entry.Unasked.TheVariants.{Unreadable}
use Rattle.disp_model.specs.declared.fixing.Change.{Change}
use Rattle.dispatch_core.specs.declared.event.CoreEvent.TheVariants as event
use Rattle.dispatch_core.specs.declared.event.CoreReply.{CoreReply}
use Rattle.dispatch_core.specs.declared.event.CoreReply.TheVariants as reply
use Rattle.dispatch_core.specs.Replies.{IsAsk, IsShow}
use Rattle.dispatch_core.specs.States.{Core}
use Rattle.fixing_lines.specs.Requests.{IsAsked, IsUnreadable, show_text}
use Rattle.turn_lock.specs.Known.{Known}
use Rattle.shared_board.specs.declared.terms.Terms.{Terms}
use Rattle.shared_board.specs.Calls.{Enters}
use Rattle.shared_board.specs.Onward.{entries_by}
use Rattle.shared_board.proofs.Onward.{one_more}
use Rattle.feed_reader.specs.Answered.{AnswersText}

-- the entry came behind those of the caller's lines
abbrev pub Adds : Known Entry Terms → Known Entry Terms → Entry → Type 0
Adds v w entry = entries_by v.caller w.seen ≡ entries_by v.caller v.seen ++ entry ∷ []

module _ (v w : Known Entry Terms) (line : ℕ) where
  pub unread_adds : (why : Unasked) (told : CoreReply) → Enters v (event.Unread v.caller line why) told w → Adds v w (Unread v.caller line why)
  unread_adds why told enters =
      one_more v w (event.Unread v.caller line why) told enters (Unread v.caller line why) (ap (λ (c : Core). c.history) enters.steps.1) (eq-eqb v.caller v.caller refl)

  pub unread_answers : (text : List ℕ) (told : CoreReply) → IsUnreadable text → Enters v (event.Unread v.caller line Unreadable) told w → (entry : Entry) × AnswersText v.caller line text entry × Adds v w entry
  unread_answers text told is enters = (Unread v.caller line Unreadable, ((refl, refl), is), unread_adds Unreadable told enters)

  pub ask_answers : (text : List ℕ) (change : Change) (told : CoreReply) → IsAsked text change → Enters v (event.Ask v.caller line change) told w → (entry : Entry) × AnswersText v.caller line text entry × Adds v w entry
  ask_answers text change told is enters = by_reply told enters enters.steps
    where
      by_reply : (told : CoreReply) (enters : Enters v (event.Ask v.caller line change) told w) → IsAsk enters.before v.caller line change told enters.after → (entry : Entry) × AnswersText v.caller line text entry × Adds v w entry
      by_reply (reply.Asked answer) enters asks = (
        Asked v.caller line change answer,
        ((refl, refl), is),
        one_more v w (event.Ask v.caller line change) (reply.Asked answer) enters (Asked v.caller line change answer) (ap (λ (c : Core). c.history) asks.after_is) (eq-eqb v.caller v.caller refl),
      )
      by_reply told enters asks = absurd asks

  pub show_answers : (text : List ℕ) (told : CoreReply) → text ≡ show_text → Enters v (event.Show v.caller line) told w → (entry : Entry) × AnswersText v.caller line text entry × Adds v w entry
  show_answers text told is enters = by_reply told enters enters.steps
    where
      by_reply : (told : CoreReply) (enters : Enters v (event.Show v.caller line) told w) → IsShow enters.before v.caller line told enters.after → (entry : Entry) × AnswersText v.caller line text entry × Adds v w entry
      by_reply (reply.Shown standing) enters shows = (
        Shown v.caller line standing,
        ((refl, refl), is),
        one_more v w (event.Show v.caller line) (reply.Shown standing) enters (Shown v.caller line standing) (ap (λ (c : Core). c.history) shows.after_is) (eq-eqb v.caller v.caller refl),
      )
      by_reply told enters shows = absurd shows
