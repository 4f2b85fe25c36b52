use Rattle.std.proofs.Common.{ap, ◌∙◌}
use Rattle.turn_lock.specs.View.{known_of}
use Rattle.turn_lock.proofs.Tells.{ran_after, ran_of}
use Rattle.turn_lock.proofs.lock.Turn.with.Goals as goal

pub returns-then-take-clause-ran : goal.returns-then-take-clause-ran
returns-then-take-clause-ran g c =
    let s = g.S.History in let v = c.args.pass.now.seat.me.0 in let now = c.loop.pass.seat.me.0 in let took = c.if-take.ensures.turn in let ran = c.run.ensures.ran in
    let u = c.take.new.seat.me.0 in let w = c.run.new.seat.me.0 in
    let after = ran_after s.named v now u w (s.entries took.state) (s.entries ran.0) (s.entries ran.1) c.loop.invariant.tried c.loop.invariant.more c.args.pass.now.idle.0 c.args.pass.now.idle.1 took.view ran.5 in (
      ran.0,
      ran.1,
      ran.2,
      ran_of s.entries s.named s.terms s.kept v u w now.tries ran.0 ran.1 (ap known_of took.view ∙ ap known_of c.loop.invariant.tried) after ran.3 ran.4,
    )
