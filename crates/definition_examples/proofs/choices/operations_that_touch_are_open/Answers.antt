use Rattle.definition_examples.proofs.Touching.{touching_is_open, later_is_cleared, released_is_open, waited_is_cleared}
use Rattle.definition_examples.proofs.choices.operations_that_touch_are_open.Goals as goal

pub returns : goal.returns
returns c = record { touching = touching_is_open; cleared = later_is_cleared; released = released_is_open; waited = waited_is_cleared }
