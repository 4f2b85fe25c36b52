use Rattle.std.proofs.Common.{[]}
use Rattle.std.proofs.lemmas.Result.{IfOk-weaker}
use Rattle.disp_model.specs.History.{edition_of}
use Rattle.search_workers.specs.Searched.{node_of}
use Rattle.search_workers.proofs.GoingOn.{on_on, dead_on}
use Rattle.search_workers.proofs.Growths.{alone_grows}
use Rattle.search_workers.proofs.Moving.{dead_below}
use Rattle.search_workers.proofs.search.round_of_dead.Goals as goal

pub hand_in-requires-clause-grown : goal.hand_in-requires-clause-grown
hand_in-requires-clause-grown c =
    let core = c.next_turn.new.core in
    let work = c.in-Work.work in
    let root = dead_on c.args.core.now core c.next_turn.ensures.on c.args.leaf.now c.requires.dead in
    IfOk-weaker c.copy_alone-growth.result _ _
    (λ growth same. alone_grows core.settings.rule (node_of core work) work.best work.allowance work.bound c.args.leaf.now (dead_below core.problem (edition_of core.history) [] work.decisions c.args.leaf.now root) growth same)
    c.copy_alone-growth.ensures

pub returns-in_err-hand_in-in-Work-clause-on : goal.returns-in_err-hand_in-in-Work-clause-on
returns-in_err-hand_in-in-Work-clause-on c = on_on c.args.core.now c.next_turn.new.core c.hand_in.new.core c.next_turn.ensures.on c.hand_in.ensures

pub returns-in_ok-hand_in-in-Work-clause-on : goal.returns-in_ok-hand_in-in-Work-clause-on
returns-in_ok-hand_in-in-Work-clause-on c = on_on c.args.core.now c.next_turn.new.core c.hand_in.new.core c.next_turn.ensures.on c.hand_in.ensures
