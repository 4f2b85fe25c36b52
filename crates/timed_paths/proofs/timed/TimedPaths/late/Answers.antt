use Rattle.std.proofs.Common.{◌-◌, length, refl, subst, arith}
use Rattle.std.proofs.lemmas.Option.{slice_get_read}
use Rattle.timed_paths.specs.Timed.{Timed}
use Rattle.timed_paths.specs.Above.{TellsAbove}
use Rattle.timed_paths.proofs.Lates.{late_at_last}
use Rattle.timed_paths.proofs.timed.TimedPaths.late.Goals as goal

pub returns : goal.returns
returns c =
    let s = c.self.inside in
    let got = slice_get_read s.lates.items (length s.lates.items) (c.len.result - 1) c.index.result.now refl (omega (arith, c.len.ensures, c.self.invariant.long)) c.index.ensures in
    subst (λ (t : Timed). TellsAbove t.lowers t.arcs t.uppers c.index.result.now) c.self.view_is
    (late_at_last s.paths.lowers s.uppers.items s.paths.arcs s.lates.items c.self.invariant (c.len.result - 1) c.index.result.now (omega (arith, c.len.ensures)) got)
