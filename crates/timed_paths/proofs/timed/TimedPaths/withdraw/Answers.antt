use Rattle.std.proofs.Common.{◌≡◌, length, ap, arith}
use Rattle.timed_paths.specs.Timed.{Timed}
use Rattle.timed_paths.proofs.Lates.{lates_without}
use Rattle.timed_paths.proofs.timed.TimedPaths.withdraw.Goals as goal

pub invariant_of-self : goal.invariant_of-self
invariant_of-self c =
    let s = c.self.inside in
    let all : c.loop.counter ≡ c.args.count = omega (arith, c.loop-test.false, c.loop.auto.counter-end) in
    let long : c.len.result ≡ length s.lates.items = omega (arith, c.len.ensures, s.lates.ok) in
    rw (c.loop.invariant.0, c.loop.invariant.1, c.loop.invariant.2, c.truncate.ensures.items, c.loop.invariant.3, all, long)
    (lates_without s.paths.lowers s.uppers.items s.paths.arcs s.lates.items c.self.invariant c.args.count (omega (arith, c.requires, ap (λ (t : Timed). length t.arcs) c.self.view_is)))
