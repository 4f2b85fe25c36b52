use Rattle.disp_model.specs.History.{fixings_after}
use Rattle.shared_board.specs.Board.{problem_of, known}
use Rattle.search_crew.proofs.Grounding.{ground_on}
use Rattle.search_crew.proofs.Keeping.{at_work_on, keeps_keeps}
use Rattle.search_crew.proofs.round.round.Goals as goal

pub rehearse-requires-clause-at : goal.rehearse-requires-clause-at
rehearse-requires-clause-at g c =
    (c.args.reckoning.now.rule, at_work_on c.args.board.now c.args.reckoning.now.rule c.args.edition c.args.pass.now c.look_on.new.pass c.look_on.ensures.on c.requires.at)

pub rehearse-requires-clause-ground : goal.rehearse-requires-clause-ground
rehearse-requires-clause-ground g c =
    let fixings = fixings_after c.args.edition (known c.args.pass.now).seen in
    ground_on c.args.edition c.args.pass.now c.look_on.new.pass c.look_on.ensures.on c.requires.at.edition_is (problem_of c.args.board.now) c.look_on.new.ground (c.look_on.ensures.ground fixings c.requires.ground)

pub returns-in_err-rehearse-clause-on : goal.returns-in_err-rehearse-clause-on
returns-in_err-rehearse-clause-on g c = keeps_keeps c.args.pass.now c.look_on.new.pass c.rehearse.new.pass c.look_on.ensures.on c.rehearse.ensures.on

pub returns-in_err-rehearse-clause-ground : goal.returns-in_err-rehearse-clause-ground
returns-in_err-rehearse-clause-ground g c = λ fixings is. c.rehearse.ensures.ground fixings (c.look_on.ensures.ground fixings is)

pub returns-then-is_held-clause-on : goal.returns-then-is_held-clause-on
returns-then-is_held-clause-on g c =
    let on = keeps_keeps c.args.pass.now c.look_on.new.pass c.rehearse.new.pass c.look_on.ensures.on c.rehearse.ensures.on in
    keeps_keeps c.args.pass.now c.rehearse.new.pass c.is_held.new.pass on c.is_held.ensures

pub returns-then-is_held-clause-ground : goal.returns-then-is_held-clause-ground
returns-then-is_held-clause-ground g c = λ fixings is. c.rehearse.ensures.ground fixings (c.look_on.ensures.ground fixings is)

pub grow_next-requires-clause-at : goal.grow_next-requires-clause-at
grow_next-requires-clause-at g c = λ lifetimes outlived.
    let on = keeps_keeps c.args.pass.now c.look_on.new.pass c.rehearse.new.pass c.look_on.ensures.on c.rehearse.ensures.on in
    let held = keeps_keeps c.args.pass.now c.rehearse.new.pass c.is_held.new.pass on c.is_held.ensures in
    at_work_on c.args.board.now c.args.reckoning.now.rule c.args.edition c.args.pass.now c.is_held.new.pass held c.requires.at

pub grow_next-requires-clause-ground : goal.grow_next-requires-clause-ground
grow_next-requires-clause-ground g c = λ lifetimes outlived.
    let fixings = fixings_after c.args.edition (known c.args.pass.now).seen in
    let on = keeps_keeps c.args.pass.now c.look_on.new.pass c.rehearse.new.pass c.look_on.ensures.on c.rehearse.ensures.on in
    let held = keeps_keeps c.args.pass.now c.rehearse.new.pass c.is_held.new.pass on c.is_held.ensures in
    ground_on c.args.edition c.args.pass.now c.is_held.new.pass held c.requires.at.edition_is (problem_of c.args.board.now) c.rehearse.new.ground (c.rehearse.ensures.ground fixings (c.look_on.ensures.ground fixings c.requires.ground))

pub returns-clause-on : goal.returns-clause-on
returns-clause-on g c =
    let on = keeps_keeps c.args.pass.now c.look_on.new.pass c.rehearse.new.pass c.look_on.ensures.on c.rehearse.ensures.on in
    let held = keeps_keeps c.args.pass.now c.rehearse.new.pass c.is_held.new.pass on c.is_held.ensures in
    keeps_keeps c.args.pass.now c.is_held.new.pass c.grow_next.new.pass held c.grow_next.ensures.on

pub returns-clause-ground : goal.returns-clause-ground
returns-clause-ground g c = λ fixings is. c.grow_next.ensures.ground fixings (c.rehearse.ensures.ground fixings (c.look_on.ensures.ground fixings is))
