use Rattle.disp_model.specs.History.{fixings_after}
use Rattle.shared_board.specs.Board.{problem_of, known}
use Rattle.search_crew.proofs.round.rehearse_beside.Goals as goal

pub returns-in_err-agree-clause-ground : goal.returns-in_err-agree-clause-ground
returns-in_err-agree-clause-ground g c = λ fixings is. c.agree.ensures.ground (problem_of c.args.board.now) fixings is

pub returns-then-is_scripted-clause-ground : goal.returns-then-is_scripted-clause-ground
returns-then-is_scripted-clause-ground g c = λ fixings is. c.agree.ensures.ground (problem_of c.args.board.now) fixings is

pub rehearse_on-requires-clause-ground : goal.rehearse_on-requires-clause-ground
rehearse_on-requires-clause-ground g c =
    c.agree.ensures.ground (problem_of c.args.board.now) (fixings_after c.args.edition (known c.args.pass.now).seen) c.requires.ground

pub returns-in_err-rehearse_on-clause-ground : goal.returns-in_err-rehearse_on-clause-ground
returns-in_err-rehearse_on-clause-ground g c = λ fixings is.
    c.rehearse_on.ensures.ground fixings (c.agree.ensures.ground (problem_of c.args.board.now) fixings is)

pub returns-clause-ground : goal.returns-clause-ground
returns-clause-ground g c = λ fixings is.
    c.hand_over.ensures.ground (problem_of c.args.board.now) fixings
    (c.rehearse_on.ensures.ground fixings (c.agree.ensures.ground (problem_of c.args.board.now) fixings is))
