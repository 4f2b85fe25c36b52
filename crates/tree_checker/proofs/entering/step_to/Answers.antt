use Rattle.std.proofs.Common.{refl}
use Rattle.tree_checker.proofs.Entered.{enters_one}
use Rattle.tree_checker.proofs.entering.step_to.Goals as goal

pub returns-then-may_go : goal.returns-then-may_go
returns-then-may_go c =
    enters_one c.args.known.now.places.items c.args.known.now.demands.items c.args.op c.args.next c.args.time c.args.entered.now.items c.enter.new.entered.items c.requires (c.if-may_go.ensures.0 refl) c.enter.ensures
