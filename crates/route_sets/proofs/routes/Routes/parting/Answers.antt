use Rattle.std.proofs.Common.{◌∙◌, sym, length, arith}
use Rattle.route_sets.proofs.Parting.{part_on}
use Rattle.route_sets.proofs.routes.Routes.parting.Goals as goal

pub loop-preserved : goal.loop-preserved
loop-preserved c =
    part_on c.args.self.now.marks.items (length c.args.self.now.marks.items) c.loop.counter c.loop.op c.in-Some.next _ c.in_ok-mark.mark (omega (arith, c.loop-test.true, c.len-end.ensures, c.args.self.now.marks.ok)) c.loop.invariant
    (sym c.mark.ensures ∙ c.in_ok-mark.was) c.in-Some.is
