use Rattle.std.proofs.Common.{◌∙◌, arith}
use Rattle.std.proofs.lemmas.List.{length-set}
use Rattle.plan_builder.specs.declared.stop.Stop.{Stop}
use Rattle.plan_builder.proofs.Leaving.{waiting_more}
use Rattle.plan_builder.proofs.arrange.waiting_of.Goals as goal

-- a stop that none of them is
abbrev none : Stop
none = record { event = record { time = 0; train = 0; operation = 0 }; node = 0 }

pub loop-stop-preserved : goal.loop-stop-preserved
loop-stop-preserved c =
    let loop = c.loop-stop.invariant in
    record {
      size = length-set c.loop-stop.waiting.items _ _ ∙ loop.size;
      marks = waiting_more c.args.stops.now c.loop-stop.waiting.items c.loop-stop.stop-index none (omega arith) (omega (arith, c.requires.nodes c.loop-stop.stop-index none (omega arith), loop.size)) loop.marks;
    }
