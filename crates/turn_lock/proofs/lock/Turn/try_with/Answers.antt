use Rattle.std.proofs.Common.{refl, le_refl, ap, ◌∙◌}
use Rattle.turn_lock.specs.View.{known_of}
use Rattle.turn_lock.proofs.Tells.{ran_after, ran_of}
use Rattle.turn_lock.proofs.lock.Turn.try_with.Goals as goal

pub returns-then-taken-clause-ran : goal.returns-then-taken-clause-ran
returns-then-taken-clause-ran g c =
    let s = g.S.History in let v = c.args.pass.now.seat.me.0 in let took = c.if-taken.ensures.turn in let ran = c.run.ensures.ran in
    let u = c.take-taken.new.seat.me.0 in let w = c.run.new.seat.me.0 in
    let after = ran_after s.named v v u w (s.entries took.state) (s.entries ran.0) (s.entries ran.1) refl (le_refl v.tries) c.args.pass.now.idle.0 c.args.pass.now.idle.1 took.view ran.5 in (
      (ran.0, ran.1, ran.2, ran_of s.entries s.named s.terms s.kept v u w v.tries ran.0 ran.1 (ap known_of took.view) after ran.3 ran.4),
      ap (λ z. z.tries) ran.5.knows ∙ ap (λ z. z.tries) took.view,
    )
