-- What is gone from `rest` went out, and a second turn comes only where there was something.
use Rattle.std.proofs.Common.{◌<◌, length}
use Rattle.disp_outside.proofs.Pieces.{HasSent}
use Rattle.disp_outside.proofs.writing.write_whole.Given as goal

abbrev pub invariant-loop : goal.invariant-loop
invariant-loop g l = HasSent (g.W.Write.contents l.initial.writer) (g.W.Write.contents l.writer) l.piece l.rest × (0 < l.counter → 0 < length l.piece)
