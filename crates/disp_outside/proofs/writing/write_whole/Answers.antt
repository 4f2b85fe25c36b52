use Rattle.std.proofs.Common.{arith}
use Rattle.std.proofs.lemmas.Grind.{common_steps}
use Rattle.disp_outside.proofs.Pieces.{puts_out_kept, sent_more, rest_within}
use Rattle.disp_outside.proofs.writing.write_whole.Goals as goal

pub returns-in-Err-clause-part : goal.returns-in-Err-clause-part
returns-in-Err-clause-part g c = puts_out_kept c.loop.invariant.0 _ c.in-Err.ensures.none

pub returns-in-Err-2-clause-part : goal.returns-in-Err-2-clause-part
returns-in-Err-2-clause-part g c = puts_out_kept c.loop.invariant.0 _ c.in-Err.ensures.none

pub loop-preserved : goal.loop-preserved
loop-preserved g c =
    let within = rest_within c.loop.invariant.0 in
    (sent_more c.loop.invariant.0 _ c.in-Ok.count c.in-Ok.ensures.within c.in-Ok.ensures.taken, λ _. grind (arith, common_steps, within))
