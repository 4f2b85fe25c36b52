use Rattle.std.proofs.Common.{subst}
use Rattle.disp_model.specs.declared.train.Op.{Op}
use Rattle.event_windows.specs.Operations.{IsAtNumber}
use Rattle.event_windows.proofs.Fixing.{op_is, times_set}
use Rattle.event_windows.proofs.times.note.Goals as goal

pub returns-in-Some : goal.returns-in-Some
returns-in-Some c = λ rest are.
    let same = op_is c.place_of-train.result.0 c.place_of-train.result.1 c.args.fixing.now c.place_of-train.ensures.train c.place_of-train.ensures.operation in
    times_set c.args.problem.now c.args.fixing.now rest c.args.times.now c.in-Some.n c.with_fixing.result _ (subst (λ (o : Op). IsAtNumber c.args.problem.now o c.in-Some.n) same c.in-Some.ensures) c.with_fixing.ensures are
