use Rattle.std.proofs.Common.{rules, ◌∙◌, sym}
use Rattle.dispatch_core.specs.Asked.{MayStep}
use Rattle.shared_board.specs.Board.{known}
use Rattle.shared_board.proofs.Running.{Answers, answer_leaves, answer_enters, answer_looks, answer_lines, ok_line, err_line, and_lines, and_lines_err, ran_caller, fetched_of, legal_of}
use Rattle.shared_board.proofs.board.Board.enter_line.Goals as goal

pub with-answer-requires-clause-section : goal.with-answer-requires-clause-section
with-answer-requires-clause-section g c = record {
  takes = λ state found. let may : MayStep state.core c.args.event = c.requires.may.may state.core found in search rules;
  leaves = λ state answer after found ran. let is : Answers c.args.event answer state.core after.core = record { ok = search rules; err = search rules } in answer_leaves (known c.args.pass.now) c.args.event answer state after c.requires.may found is;
}

pub invariant_of-pass : goal.invariant_of-pass
invariant_of-pass g c =
    let pass = c.args.pass.now in let ran = c.with-answer.ensures.ran in let answer = c.with-answer.result in
    let is : Answers c.args.event answer ran.0.core ran.1.core = record { ok = search rules; err = search rules } in record {
      caller_is = pass.caller_is ∙ sym (ran_caller (known pass) _ ran.0 ran.1 ran.3);
      fetched_within = fetched_of (known pass) _ ran.0 ran.1 ran.3 pass.fetched pass.fetched_within;
      lines_are = ok_line c.args.event answer pass.lines c.args.line (sym c.is_ok.ensures.value ∙ c.if-is_ok.true) c.requires.line.0 c.requires.line.1
          ∙ answer_lines (known pass) _ c.args.event answer ran.0 ran.1 c.requires.may ran.3 is pass.caller pass.lines pass.caller_is pass.lines_are;
    }

pub invariant_of-pass-else-is_ok : goal.invariant_of-pass-else-is_ok
invariant_of-pass-else-is_ok g c =
    let pass = c.args.pass.now in let ran = c.with-answer.ensures.ran in let answer = c.with-answer.result in
    let is : Answers c.args.event answer ran.0.core ran.1.core = record { ok = search rules; err = search rules } in record {
      caller_is = pass.caller_is ∙ sym (ran_caller (known pass) _ ran.0 ran.1 ran.3);
      fetched_within = fetched_of (known pass) _ ran.0 ran.1 ran.3 pass.fetched pass.fetched_within;
      lines_are = err_line c.args.event answer pass.lines (sym c.is_ok.ensures.value ∙ c.if-is_ok.false)
          ∙ answer_lines (known pass) _ c.args.event answer ran.0 ran.1 c.requires.may ran.3 is pass.caller pass.lines pass.caller_is pass.lines_are;
    }

pub returns-then-is_ok-clause-entered : goal.returns-then-is_ok-clause-entered
returns-then-is_ok-clause-entered g c =
    let ran = c.with-answer.ensures.ran in let answer = c.with-answer.result in
    let is : Answers c.args.event answer ran.0.core ran.1.core = record { ok = search rules; err = search rules } in and_lines answer _ c.args.line (answer_enters (known c.args.pass.now) _ c.args.event answer ran.0 ran.1 ran.3 is)

pub returns-then-is_ok-clause-legal : goal.returns-then-is_ok-clause-legal
returns-then-is_ok-clause-legal g c = let ran = c.with-answer.ensures.ran in legal_of (known c.args.pass.now) _ ran.0 ran.1 ran.3

pub returns-else-is_ok-clause-looked : goal.returns-else-is_ok-clause-looked
returns-else-is_ok-clause-looked g c =
    let ran = c.with-answer.ensures.ran in let answer = c.with-answer.result in
    let is : Answers c.args.event answer ran.0.core ran.1.core = record { ok = search rules; err = search rules } in and_lines_err answer _ c.args.pass.now.lines (answer_looks (known c.args.pass.now) _ c.args.event answer ran.0 ran.1 ran.3 is)

pub returns-else-is_ok-clause-legal : goal.returns-else-is_ok-clause-legal
returns-else-is_ok-clause-legal g c = let ran = c.with-answer.ensures.ran in legal_of (known c.args.pass.now) _ ran.0 ran.1 ran.3
