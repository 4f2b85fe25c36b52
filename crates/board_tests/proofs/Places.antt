-- A change that is asked for has a place.
use Rattle.std.proofs.Common.{◌≡◌, ℕ, [], ◌∷◌, ◌++◌, length, subst}
use Rattle.disp_model.specs.declared.entry.Entry.{Entry}
use Rattle.disp_model.specs.declared.fixing.Change.{Change}
use Rattle.disp_model.specs.declared.reply.Reply.{Reply}
use Rattle.dispatch_core.specs.declared.event.CoreEvent.TheVariants as event
use Rattle.dispatch_core.specs.declared.event.CoreReply.{CoreReply}
use Rattle.dispatch_core.specs.declared.event.CoreReply.TheVariants as reply
use Rattle.turn_lock.specs.Known.{Known}
use Rattle.shared_board.specs.declared.terms.Terms.{Terms}
use Rattle.shared_board.specs.Calls.{Enters}
use Rattle.shared_board.specs.Standing.{EntersAs}
use Rattle.shared_board.proofs.Entries.{enters_as}

pub asked_place : (v w : Known Entry Terms) (feed line : ℕ) (change : Change) (told : CoreReply) (answer : Reply) → Enters v (event.Ask feed line change) told w → told ≡ reply.Asked answer → (place : ℕ) × (w.mine ≡ v.mine ++ place ∷ [])
asked_place v w feed line change told answer enters is = let stands = subst (λ (t : CoreReply). EntersAs (event.Ask feed line change) t v w) is (enters_as v (event.Ask feed line change) told w enters) in (length stands.front, stands.mine)
