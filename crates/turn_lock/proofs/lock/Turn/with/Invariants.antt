use Rattle.std.proofs.Common.{◌≡◌, ◌≤◌}
use Rattle.turn_lock.specs.Turn.{own_lock}
use Rattle.turn_lock.proofs.lock.Turn.with.Given as goal

-- only tries that missed came before
abbrev pub invariant-loop : goal.invariant-loop
invariant-loop g l = record {
  lock : own_lock l.pass ≡ own_lock l.initial.pass;
  tried : l.pass.seat.me.0 ≡ record l.initial.pass.seat.me.0 { tries = l.pass.seat.me.0.tries };
  more : l.initial.pass.seat.me.0.tries ≤ l.pass.seat.me.0.tries;
}
