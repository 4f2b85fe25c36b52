use Rattle.std.proofs.Common.{◌∙◌, ap}
use Rattle.disp_model.specs.declared.settings.Settings.{Settings}
use Rattle.search_workers.proofs.GoingOn.{on_on}
use Rattle.search_workers.proofs.search.rounds.Goals as goal

pub returns-in_err-round-clause-on : goal.returns-in_err-round-clause-on
returns-in_err-round-clause-on c = on_on c.args.core.now c.loop.core c.round.new.core
    c.loop.invariant.on c.round.ensures.on

pub returns-then-branch-clause-on : goal.returns-then-branch-clause-on
returns-then-branch-clause-on c = on_on c.args.core.now c.loop.core c.round.new.core
    c.loop.invariant.on c.round.ensures.on

pub loop-preserved : goal.loop-preserved
loop-preserved c =
    let inv = c.loop.invariant in
    let on = c.round.ensures.on in
    record {
      on = on_on c.args.core.now c.loop.core c.round.new.core inv.on on;
      newest = c.round.ensures.newest;
      problem = on.problem ∙ inv.problem;
      rule = ap (λ (s : Settings). s.rule) on.settings ∙ inv.rule;
      ready = c.round.ensures.ready;
    }
