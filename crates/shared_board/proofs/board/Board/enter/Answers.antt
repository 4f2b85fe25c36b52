use Rattle.std.proofs.Common.{rules, ◌∙◌, sym}
use Rattle.dispatch_core.specs.Asked.{MayStep}
use Rattle.shared_board.specs.Board.{known}
use Rattle.shared_board.proofs.Running.{Answers, answer_leaves, answer_enters, answer_looks, answer_lines, quiet_lines, ran_caller, fetched_of, legal_of}
use Rattle.shared_board.proofs.board.Board.enter.Goals as goal

pub with-requires-clause-section : goal.with-requires-clause-section
with-requires-clause-section g c = record {
  takes = λ state found. let may : MayStep state.core c.args.event = c.requires.may.may state.core found in search rules;
  leaves = λ state answer after found ran. let is : Answers c.args.event answer state.core after.core = record { ok = search rules; err = search rules } in answer_leaves (known c.args.pass.now) c.args.event answer state after c.requires.may found is;
}

pub invariant_of-pass : goal.invariant_of-pass
invariant_of-pass g c =
    let pass = c.args.pass.now in let w = c.with.new.pass in let ran = c.with.ensures.ran in
    let is : Answers c.args.event c.with.result ran.0.core ran.1.core = record { ok = search rules; err = search rules } in record {
      caller_is = pass.caller_is ∙ sym (ran_caller (known pass) _ ran.0 ran.1 ran.3);
      fetched_within = fetched_of (known pass) _ ran.0 ran.1 ran.3 pass.fetched pass.fetched_within;
      lines_are = quiet_lines c.args.event c.with.result pass.lines c.requires.quiet ∙ answer_lines (known pass) _ c.args.event c.with.result ran.0 ran.1 c.requires.may ran.3 is pass.caller pass.lines pass.caller_is pass.lines_are;
    }

pub returns-clause-entered : goal.returns-clause-entered
returns-clause-entered g c =
    let ran = c.with.ensures.ran in
    let is : Answers c.args.event c.with.result ran.0.core ran.1.core = record { ok = search rules; err = search rules } in answer_enters (known c.args.pass.now) _ c.args.event c.with.result ran.0 ran.1 ran.3 is

pub returns-clause-looked : goal.returns-clause-looked
returns-clause-looked g c =
    let ran = c.with.ensures.ran in
    let is : Answers c.args.event c.with.result ran.0.core ran.1.core = record { ok = search rules; err = search rules } in answer_looks (known c.args.pass.now) _ c.args.event c.with.result ran.0 ran.1 ran.3 is

pub returns-clause-legal : goal.returns-clause-legal
returns-clause-legal g c = let ran = c.with.ensures.ran in legal_of (known c.args.pass.now) _ ran.0 ran.1 ran.3
