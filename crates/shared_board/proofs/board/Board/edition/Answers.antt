use Rattle.std.proofs.Common.{rules, ◌≡◌, ◌∙◌, sym}
use Rattle.shared_board.specs.Board.{known}
use Rattle.shared_board.proofs.Running.{ran_caller, fetched_of, legal_of, looks_of, looked_lines, looked_all}
use Rattle.shared_board.proofs.board.Board.edition.Goals as goal

pub invariant_of-pass : goal.invariant_of-pass
invariant_of-pass g c =
    let pass = c.args.pass.now in let ran = c.with.ensures.ran in let same : ran.1.core ≡ ran.0.core = search rules in record {
      caller_is = pass.caller_is ∙ sym (ran_caller (known pass) _ ran.0 ran.1 ran.3);
      fetched_within = fetched_of (known pass) _ ran.0 ran.1 ran.3 pass.fetched pass.fetched_within;
      lines_are = looked_lines (known pass) _ ran.0 ran.1 ran.3 same pass.caller pass.lines pass.caller_is pass.lines_are;
    }

pub returns-clause-legal : goal.returns-clause-legal
returns-clause-legal g c = let ran = c.with.ensures.ran in legal_of (known c.args.pass.now) _ ran.0 ran.1 ran.3

pub returns-clause-looked : goal.returns-clause-looked
returns-clause-looked g c =
    let ran = c.with.ensures.ran in let same : ran.1.core ≡ ran.0.core = search rules in
    (ran.0.core, looks_of (known c.args.pass.now) _ ran.0 ran.1 ran.3 same)
