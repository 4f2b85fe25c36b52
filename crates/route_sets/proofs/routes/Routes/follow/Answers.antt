use Rattle.std.proofs.Common.{◌∙◌, sym, length, arith}
use Rattle.route_sets.proofs.Following.{step_on}
use Rattle.route_sets.proofs.routes.Routes.follow.Goals as goal

pub loop-preserved : goal.loop-preserved
loop-preserved c =
    rw c.in_ok-push.ensures.ok (step_on c.args.self.now.marks.items (length c.args.self.now.marks.items) c.loop.counter c.loop.op c.in-Some-next.next _ c.loop.route c.in-Some.mark (omega (arith, c.loop-test.true, c.len-end.ensures, c.args.self.now.marks.ok)) c.loop.invariant
    (sym c.mark.ensures ∙ c.in-Some.is) c.if-mark-eq0.false c.in-Some-next.is)
