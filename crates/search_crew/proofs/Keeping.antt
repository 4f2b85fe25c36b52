-- What one call after the other leaves of a searcher's pass.
use Rattle.std.proofs.Common.{◌≡◌, ◌∙◌, ℕ, refl, arith}
use Rattle.std.specs.Prelude.{Result, Ok, Err, IfOk, OnErr}
use Rattle.disp_model.specs.declared.settings.Rule.{Rule}
use Rattle.dispatch_core.specs.declared.event.CoreEvent.{CoreEvent}
use Rattle.dispatch_core.specs.declared.event.CoreReply.{CoreReply}
use Rattle.shared_board.specs.declared.board.Board.{Board}
use Rattle.shared_board.specs.declared.pass.Pass.{Pass}
use Rattle.shared_board.specs.Board.{own_board, known, fetched, lines}
use Rattle.shared_board.specs.Calls.{Enters, Looked}
use Rattle.shared_board.proofs.Onward.{newest_up, goes_refl, goes_goes, entered_goes, looked_goes}
use Rattle.search_crew.specs.Working.{IsAtWork, KeepsOn}

pub keeps_refl : (pass : Pass) → KeepsOn pass pass
keeps_refl pass = record { goes = goes_refl pass; lines_are = refl }

pub keeps_keeps : (one two three : Pass) → KeepsOn one two → KeepsOn two three → KeepsOn one three
keeps_keeps one two three first second = record { goes = goes_goes one two three first.goes second.goes; lines_are = second.lines_are ∙ first.lines_are }

pub at_work_on : (board : Board) (rule : Rule) (edition : ℕ) (before after : Pass) → KeepsOn before after → IsAtWork board rule edition before → IsAtWork board rule edition after
at_work_on board rule edition before after on is = record {
  board_is = on.goes.board_is ∙ is.board_is;
  searcher = record {
    terms = is.searcher.terms;
    terms_are = on.goes.role.terms ∙ is.searcher.terms_are;
    above = let same = on.goes.role.caller in let above = is.searcher.above in omega arith;
    within = let same = on.goes.role.caller in let within = is.searcher.within in omega arith;
  };
  problem = is.problem;
  rule_is = is.rule_is;
  edition_is = let within = is.edition_is in let up = newest_up (known after).seen (known before).seen on.goes.starts in omega arith;
}

module _ (before after : Pass) (same : own_board after ≡ own_board before) (counts : (fetched after ≡ fetched before) × (lines after ≡ lines before)) where
  pub entered_keeps : (asked : CoreEvent) (told : CoreReply) → Enters (known before) asked told (known after) → KeepsOn before after
  entered_keeps asked told enters = record { goes = entered_goes before after same counts.0 asked told enters; lines_are = counts.1 }

  pub looked_keeps : Looked (known before) (known after) → KeepsOn before after
  looked_keeps looked = record { goes = looked_goes before after same counts.0 looked; lines_are = counts.1 }

  -- whatever a call answered
  pub call_keeps : {F : Type 0} (asked : CoreEvent) (answer : Result CoreReply F) → IfOk answer (λ told. Enters (known before) asked told (known after)) → OnErr answer (Looked (known before) (known after)) → KeepsOn before after
  call_keeps asked (Ok told) ok err = entered_keeps asked told ok
  call_keeps asked (Err fault) ok err = looked_keeps err
