use Rattle.std.proofs.Common.{false}
use Rattle.dispatch_core.specs.declared.event.CoreEvent.TheVariants as event
use Rattle.search_crew.proofs.Keeping.{entered_keeps}
use Rattle.search_crew.proofs.turn.give_back.Goals as goal

pub returns : goal.returns
returns g c =
    entered_keeps c.args.pass.now c.give_back.new.pass c.give_back.ensures.board c.give_back.ensures.counts (event.GiveBack c.args.work false) c.give_back.result c.give_back.ensures.told
