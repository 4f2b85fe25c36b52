use Rattle.std.proofs.Common.{rules, ◌∙◌, sym}
use Rattle.dispatch_core.specs.Asked.{MayStep}
use Rattle.shared_board.specs.Board.{known}
use Rattle.shared_board.proofs.Running.{Answers, answer_leaves, answer_enters, answer_looks, answer_lines, ok_line, err_line, and_lines, and_lines_err, ran_caller, fetched_of, legal_of}
use Rattle.shared_board.proofs.board.Board.try_line.Goals as goal

pub try_with-requires-clause-section : goal.try_with-requires-clause-section
try_with-requires-clause-section c = record {
  takes = λ state found. let may : MayStep state.core c.args.event = c.requires.may.may state.core found in search rules;
  leaves = λ state answer after found ran. let is : Answers c.args.event answer state.core after.core = record { ok = search rules; err = search rules } in answer_leaves (known c.args.pass.now) c.args.event answer state after c.requires.may found is;
}

pub invariant_of-pass-then-is_ok : goal.invariant_of-pass-then-is_ok
invariant_of-pass-then-is_ok c =
    let pass = c.args.pass.now in let ran = c.in_ok-answer.ensures.ran.0 in let answer = c.in_ok-answer.answer in
    let is : Answers c.args.event answer ran.0.core ran.1.core = record { ok = search rules; err = search rules } in record {
      caller_is = pass.caller_is ∙ sym (ran_caller (known pass) _ ran.0 ran.1 ran.3);
      fetched_within = fetched_of (known pass) _ ran.0 ran.1 ran.3 pass.fetched pass.fetched_within;
      lines_are = ok_line c.args.event answer pass.lines c.args.line (sym c.is_ok.ensures.value ∙ c.if-is_ok.true) c.requires.line.0 c.requires.line.1
          ∙ answer_lines (known pass) _ c.args.event answer ran.0 ran.1 c.requires.may ran.3 is pass.caller pass.lines pass.caller_is pass.lines_are;
    }

pub invariant_of-pass-else-is_ok : goal.invariant_of-pass-else-is_ok
invariant_of-pass-else-is_ok c =
    let pass = c.args.pass.now in let ran = c.in_ok-answer.ensures.ran.0 in let answer = c.in_ok-answer.answer in
    let is : Answers c.args.event answer ran.0.core ran.1.core = record { ok = search rules; err = search rules } in record {
      caller_is = pass.caller_is ∙ sym (ran_caller (known pass) _ ran.0 ran.1 ran.3);
      fetched_within = fetched_of (known pass) _ ran.0 ran.1 ran.3 pass.fetched pass.fetched_within;
      lines_are = err_line c.args.event answer pass.lines (sym c.is_ok.ensures.value ∙ c.if-is_ok.false)
          ∙ answer_lines (known pass) _ c.args.event answer ran.0 ran.1 c.requires.may ran.3 is pass.caller pass.lines pass.caller_is pass.lines_are;
    }

pub returns-then-is_ok-clause-entered : goal.returns-then-is_ok-clause-entered
returns-then-is_ok-clause-entered c =
    let ran = c.in_ok-answer.ensures.ran.0 in let answer = c.in_ok-answer.answer in
    let is : Answers c.args.event answer ran.0.core ran.1.core = record { ok = search rules; err = search rules } in and_lines answer _ c.args.line (answer_enters (known c.args.pass.now) _ c.args.event answer ran.0 ran.1 ran.3 is)

pub returns-then-is_ok-clause-legal : goal.returns-then-is_ok-clause-legal
returns-then-is_ok-clause-legal c = let ran = c.in_ok-answer.ensures.ran.0 in legal_of (known c.args.pass.now) _ ran.0 ran.1 ran.3

pub returns-clause-looked : goal.returns-clause-looked
returns-clause-looked c =
    let ran = c.in_ok-answer.ensures.ran.0 in let answer = c.in_ok-answer.answer in
    let is : Answers c.args.event answer ran.0.core ran.1.core = record { ok = search rules; err = search rules } in and_lines_err answer _ c.args.pass.now.lines (answer_looks (known c.args.pass.now) _ c.args.event answer ran.0 ran.1 ran.3 is)

pub returns-clause-legal : goal.returns-clause-legal
returns-clause-legal c = let ran = c.in_ok-answer.ensures.ran.0 in legal_of (known c.args.pass.now) _ ran.0 ran.1 ran.3
