use Rattle.std.proofs.Common.{subst, sym}
use Rattle.incremental_paths.specs.declared.arc.Arc.{Arc}
use Rattle.incremental_paths.specs.Network.{IsShort}
use Rattle.timed_paths.specs.Above.{TellsAbove}
use Rattle.timed_paths.specs.Timed.{Timed, with_one, network_of}
use Rattle.timed_paths.proofs.Lates.{lates_with_one}
use Rattle.timed_paths.proofs.timed.TimedPaths.add.Goals as goal

pub add-requires-clause-short : goal.add-requires-clause-short
add-requires-clause-short c = subst (λ (t : Timed). IsShort (network_of (with_one t c.args.from c.args.to c.args.length))) (sym c.self.view_is) c.requires.short

pub invariant_of-self-else-is_err : goal.invariant_of-self-else-is_err
invariant_of-self-else-is_err c =
    let s = c.self.inside in
    let arc : Arc = record { from = c.args.from; to = c.args.to; length = c.args.length } in
    let tells = rw c.deref.ensures.value at (c.above_now-late.ensures s.paths c.in_ok-add.ensures.changed (rw c.deref.ensures.value (subst (λ (t : Timed). TellsAbove t.lowers t.arcs t.uppers c.late-before.result) (sym c.self.view_is) c.late-before.ensures))) in
    rw (rw (c.is_err.ensures.negation, c.if-is_err.false) at c.push.ensures.items, c.in_ok-add.ensures.lowers, c.in_ok-add.ensures.ok)
    (lates_with_one s.paths.lowers s.uppers.items s.paths.arcs s.lates.items c.self.invariant arc c.above_now-late.result (rw (c.in_ok-add.ensures.lowers, c.in_ok-add.ensures.ok) at tells))
