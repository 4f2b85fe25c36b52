-- The edition that there is to search.
use Rattle.std.proofs.Common.{◌≡◌, ◌∙◌, ℕ, ◌≤◌, ap, arith}
use Rattle.disp_model.specs.declared.entry.Entry.{Entry}
use Rattle.disp_model.specs.declared.settings.Rule.{Rule}
use Rattle.disp_model.specs.History.{newest}
use Rattle.dispatch_core.specs.declared.event.CoreEvent.TheVariants as event
use Rattle.dispatch_core.specs.declared.event.CoreReply.TheVariants as reply
use Rattle.dispatch_core.specs.States.{Core}
use Rattle.turn_lock.specs.Known.{Known}
use Rattle.shared_board.specs.declared.board.Board.{Board}
use Rattle.shared_board.specs.declared.pass.Pass.{Pass}
use Rattle.shared_board.specs.declared.terms.Terms.{Terms}
use Rattle.shared_board.specs.Board.{known}
use Rattle.shared_board.specs.Calls.{Enters}
use Rattle.shared_board.proofs.Running.{seen_after}
use Rattle.search_crew.specs.Working.{IsAtWork, KeepsOn}
use Rattle.search_crew.proofs.Keeping.{at_work_on}

-- it is the newest of what is seen
pub edition_seen : (v w : Known Entry Terms) (edition : ℕ) → Enters v event.Next (reply.Work edition) w → edition ≤ newest w.seen
edition_seen v w edition enters =
    let here = enters.steps.0.0 in
    let same : newest w.seen ≡ newest enters.before.history =
    ap newest (seen_after v w enters.before.history enters.after.history enters.ran.knows ∙ ap (λ (c : Core). c.history) enters.steps.1) in
    omega arith

-- the searcher is at work on it
pub at_edition : (board : Board) (rule : Rule) (edition : ℕ) (before after : Pass) → IsAtWork board rule 0 before → KeepsOn before after
    → Enters (known before) event.Next (reply.Work edition) (known after) → IsAtWork board rule edition after
at_edition board rule edition before after at on enters = let is = at_work_on board rule 0 before after on at in record {
  board_is = is.board_is;
  searcher = is.searcher;
  problem = is.problem;
  rule_is = is.rule_is;
  edition_is = edition_seen (known before) (known after) edition enters;
}
