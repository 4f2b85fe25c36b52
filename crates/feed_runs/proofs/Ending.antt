-- The end of a feed leaves the entries of its lines.
use Rattle.std.proofs.Common.{◌≡◌, ◌∙◌, ℕ, ap}
use Rattle.disp_model.specs.declared.entry.Entry.{Entry}
use Rattle.dispatch_core.specs.declared.event.CoreEvent.TheVariants as event
use Rattle.dispatch_core.specs.declared.event.CoreReply.{CoreReply}
use Rattle.dispatch_core.specs.States.{Core}
use Rattle.turn_lock.specs.Known.{Known}
use Rattle.shared_board.specs.declared.terms.Terms.{Terms}
use Rattle.shared_board.specs.Calls.{Enters}
use Rattle.shared_board.specs.Onward.{entries_by}
use Rattle.shared_board.proofs.Onward.{fresh_entries}
use Rattle.shared_board.proofs.Running.{seen_after}

pub same_entries : (v w : Known Entry Terms) (feed : ℕ) (told : CoreReply) → Enters v (event.FeedEnd feed) told w → entries_by v.caller w.seen ≡ entries_by v.caller v.seen
same_entries v w feed told enters =
    ap (entries_by v.caller) (seen_after v w enters.before.history enters.after.history enters.ran.knows ∙ ap (λ (c : Core). c.history) enters.steps.1)
    ∙ fresh_entries v.caller v.seen enters.before.history enters.ran.found.begins.starts enters.ran.found.begins.fresh
