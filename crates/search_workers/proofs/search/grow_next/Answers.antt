use Rattle.std.proofs.Common.{◌∙◌, sym, ap, subst}
use Rattle.std.proofs.lemmas.Result.{IfOk-weaker}
use Rattle.disp_model.specs.declared.settings.Rule.{Rule}
use Rattle.disp_model.specs.declared.settings.Settings.{Settings}
use Rattle.search_workers.specs.Grown.{IsGrownOf}
use Rattle.search_workers.specs.Searched.{node_of}
use Rattle.search_workers.proofs.GoingOn.{on_on, newest_on, newest_beside}
use Rattle.search_workers.proofs.Handing.{at_newest}
use Rattle.search_workers.proofs.search.grow_next.Goals as goal

pub returns-in_err-work-clause-newest : goal.returns-in_err-work-clause-newest
returns-in_err-work-clause-newest c = newest_on c.args.core.now c.next_turn.new.core c.next_turn.ensures.on c.args.explorer.now.graph c.requires.newest

pub hand_in-requires-clause-grown : goal.hand_in-requires-clause-grown
hand_in-requires-clause-grown c =
    let work = c.in-Work.work in
    let newest = newest_on c.args.core.now c.next_turn.new.core c.next_turn.ensures.on c.args.explorer.now.graph c.requires.newest in
    IfOk-weaker c.grow-growth.result _ _
    (λ growth is. subst (λ (r : Rule). IsGrownOf r (node_of c.next_turn.new.core work) work.best work.allowance work.bound growth) (sym (ap (λ (s : Settings). s.rule) c.next_turn.ensures.on.settings ∙ c.requires.rule))
    (at_newest (λ node. IsGrownOf c.args.reckoning.now.rule node work.best work.allowance work.bound growth) c.next_turn.new.core c.args.explorer.now.graph work.decisions newest is))
    c.grow-growth.ensures.grown

pub returns-in_err-hand_in-in-Work-clause-on : goal.returns-in_err-hand_in-in-Work-clause-on
returns-in_err-hand_in-in-Work-clause-on c = on_on c.args.core.now c.next_turn.new.core c.hand_in.new.core c.next_turn.ensures.on c.hand_in.ensures

pub returns-in_err-hand_in-in-Work-clause-newest : goal.returns-in_err-hand_in-in-Work-clause-newest
returns-in_err-hand_in-in-Work-clause-newest c =
    let newest = newest_on c.args.core.now c.next_turn.new.core c.next_turn.ensures.on c.args.explorer.now.graph c.requires.newest in
    newest_on c.next_turn.new.core c.hand_in.new.core c.hand_in.ensures c.grow-growth.new.self.graph (newest_beside c.next_turn.new.core c.args.explorer.now.graph c.grow-growth.new.self.graph c.grow-growth.ensures.beside newest)

pub returns-in_ok-hand_in-in-Work-clause-on : goal.returns-in_ok-hand_in-in-Work-clause-on
returns-in_ok-hand_in-in-Work-clause-on c = on_on c.args.core.now c.next_turn.new.core c.hand_in.new.core c.next_turn.ensures.on c.hand_in.ensures

pub returns-in_ok-hand_in-in-Work-clause-newest : goal.returns-in_ok-hand_in-in-Work-clause-newest
returns-in_ok-hand_in-in-Work-clause-newest c =
    let newest = newest_on c.args.core.now c.next_turn.new.core c.next_turn.ensures.on c.args.explorer.now.graph c.requires.newest in
    newest_on c.next_turn.new.core c.hand_in.new.core c.hand_in.ensures c.grow-growth.new.self.graph (newest_beside c.next_turn.new.core c.args.explorer.now.graph c.grow-growth.new.self.graph c.grow-growth.ensures.beside newest)

pub returns-in-Closed-clause-newest : goal.returns-in-Closed-clause-newest
returns-in-Closed-clause-newest c = newest_on c.args.core.now c.next_turn.new.core c.next_turn.ensures.on c.args.explorer.now.graph c.requires.newest

pub returns-in-On-clause-newest : goal.returns-in-On-clause-newest
returns-in-On-clause-newest c = newest_on c.args.core.now c.next_turn.new.core c.next_turn.ensures.on c.args.explorer.now.graph c.requires.newest
