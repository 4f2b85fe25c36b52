-- the lines so far went out, and no write failed
use Rattle.std.proofs.Common.{◌≡◌, take}
use Rattle.std.specs.List.{concat}
use Rattle.text_puts.specs.Outside.{Writes}
use Rattle.answered_tasks.proofs.print.print.Given as goal

abbrev pub invariant-loop-line : goal.invariant-loop-line
invariant-loop-line g l = record {
  written : Writes (g.O.Sink.state l.fn.out).written (g.O.Sink.state l.out).written (concat (take l.line-index l.lines));
  faults : (g.O.Sink.state l.out).faults ≡ (g.O.Sink.state l.fn.out).faults;
}
