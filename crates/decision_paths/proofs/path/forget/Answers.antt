use Rattle.std.proofs.Common.{ap}
use Rattle.decision_paths.specs.Kept.{train_about}
use Rattle.decision_paths.proofs.Keeping.{left_route, left_order}
use Rattle.decision_paths.proofs.path.forget.Goals as goal

pub returns-in-Go : goal.returns-in-Go
returns-in-Go c decisions are long =
    let about = ap train_about c.in-Go.is in
    left_route decisions _ _ _ c.args.decision c.in-Go.op.train about (λ stood. c.forget_route.ensures decisions c.args.decision stood about) are

pub returns-in-First : goal.returns-in-First
returns-in-First c decisions are long = left_order decisions _ _ _ c.args.decision c.in-First.a c.in-First.b c.in-First.is (λ firsts. c.forget_order.ensures decisions firsts long) are

pub returns-in-Run : goal.returns-in-Run
returns-in-Run c decisions are long =
    let about = ap train_about c.in-Run.is in
    left_route decisions _ _ _ c.args.decision c.in-Run.op.train about (λ stood. c.forget_route-in-Run.ensures decisions c.args.decision stood about) are

pub returns-in-Skip : goal.returns-in-Skip
returns-in-Skip c decisions are long =
    let about = ap train_about c.in-Skip.is in
    left_route decisions _ _ _ c.args.decision c.in-Skip.op.train about (λ stood. c.forget_route-in-Skip.ensures decisions c.args.decision stood about) are
