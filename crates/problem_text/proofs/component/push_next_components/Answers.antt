use Rattle.problem_text.specs.Texts.{written_component}
use Rattle.problem_text.proofs.Listing.{more_elements}
use Rattle.problem_text.proofs.component.push_next_components.Goals as goal

pub loop-component-preserved : goal.loop-component-preserved
loop-component-preserved c = more_elements written_component c.args.components.now
    c.loop-component.component-index _ c.loop-component-test.true c.loop-component.invariant
    c.in_ok-push_text.ensures.ok c.in_ok-push_component.ensures
