use Rattle.std.proofs.Common.{arith}
use Rattle.problem_facts.proofs.Added.{added_more, all_added}
use Rattle.problem_facts.proofs.adding.add_components.Goals as goal

pub loop-component-preserved : goal.loop-component-preserved
loop-component-preserved g c =
    added_more _ c.args.train c.args.components.now c.loop-component.component-index _ c.args.kept.now.items c.loop-component.kept.items c.add_one.new.kept.items c.loop-component-test.true c.loop-component.invariant c.add_one.ensures

pub returns : goal.returns
returns g c = all_added _ c.args.train c.args.components.now c.loop-component.component-index c.args.kept.now.items c.loop-component.kept.items (omega (arith, c.loop-component-test.false)) c.loop-component.invariant
