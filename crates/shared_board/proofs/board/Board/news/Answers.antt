use Rattle.std.proofs.Common.{rules, ◌≡◌, ◌∙◌, refl, sym}
use Rattle.shared_board.specs.Board.{known}
use Rattle.shared_board.specs.Fresh.{IsNewsOf}
use Rattle.shared_board.proofs.Running.{ran_caller, fetched_of, legal_of, looks_of, looked_lines, looked_all, on_err, count_within}
use Rattle.shared_board.proofs.board.Board.news.Goals as goal

pub invariant_of-pass : goal.invariant_of-pass
invariant_of-pass g c =
    let pass = c.args.pass.now in let ran = c.with.ensures.ran in let same : ran.1.core ≡ ran.0.core = search rules in record {
      caller_is = pass.caller_is ∙ sym (ran_caller (known pass) _ ran.0 ran.1 ran.3);
      fetched_within = fetched_of (known pass) _ ran.0 ran.1 ran.3 pass.fetched pass.fetched_within;
      lines_are = looked_lines (known pass) _ ran.0 ran.1 ran.3 same pass.caller pass.lines pass.caller_is pass.lines_are;
    }

pub returns-in_err-found-clause-legal : goal.returns-in_err-found-clause-legal
returns-in_err-found-clause-legal g c = let ran = c.with.ensures.ran in legal_of (known c.args.pass.now) _ ran.0 ran.1 ran.3

pub returns-in_err-found-clause-err : goal.returns-in_err-found-clause-err
returns-in_err-found-clause-err g c =
    let ran = c.with.ensures.ran in let same : ran.1.core ≡ ran.0.core = search rules in
    on_err c.from_residual.result _ ((ran.0.core, looks_of (known c.args.pass.now) _ ran.0 ran.1 ran.3 same), refl)

pub invariant_of-pass-2 : goal.invariant_of-pass-2
invariant_of-pass-2 g c =
    let pass = c.args.pass.now in let ran = c.in_ok-found.ensures.ran in let same : ran.1.core ≡ ran.0.core = search rules in
    let news : IsNewsOf ran.0.core pass.fetched c.in_ok-found.found = search rules in record {
      caller_is = pass.caller_is ∙ sym (ran_caller (known pass) _ ran.0 ran.1 ran.3);
      fetched_within = count_within _ ran.0.core.history _ news.count (looked_all (known pass) _ ran.0 ran.1 ran.3 same);
      lines_are = looked_lines (known pass) _ ran.0 ran.1 ran.3 same pass.caller pass.lines pass.caller_is pass.lines_are;
    }

pub returns-clause-ended : goal.returns-clause-ended
returns-clause-ended g c =
    let pass = c.args.pass.now in let ran = c.in_ok-found.ensures.ran in let same : ran.1.core ≡ ran.0.core = search rules in
    let news : IsNewsOf ran.0.core pass.fetched c.in_ok-found.found = search rules in (ran.0.core, looks_of (known pass) _ ran.0 ran.1 ran.3 same, news.ended)

pub returns-clause-legal : goal.returns-clause-legal
returns-clause-legal g c = let ran = c.in_ok-found.ensures.ran in legal_of (known c.args.pass.now) _ ran.0 ran.1 ran.3
