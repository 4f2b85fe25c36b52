use Rattle.std.proofs.Common.{refl}
use Rattle.std.proofs.lemmas.Result.{IfOk-weaker, IfErr-weaker}
use Rattle.decision_paths.proofs.Keeping.{kept_route, same_order, kept_order}
use Rattle.decision_paths.proofs.path.note.Goals as goal

pub returns-in-Go-clause-ok : goal.returns-in-Go-clause-ok
returns-in-Go-clause-ok c = IfOk-weaker c.note_route.result _ _ (λ _ noted decisions are long. kept_route decisions _ _ _ _ c.in-Go.op.train refl c.args.decision c.in-Go.is (noted decisions) are) c.note_route.ensures.ok

pub returns-in-Go-clause-err : goal.returns-in-Go-clause-err
returns-in-Go-clause-err c = IfErr-weaker c.note_route.result _ _ (λ _ same decisions are. same_order decisions _ _ _ (same decisions) are) c.note_route.ensures.err

pub returns-in-First-clause-ok : goal.returns-in-First-clause-ok
returns-in-First-clause-ok c = IfOk-weaker c.note_order.result _ _ (λ _ noted decisions are long. kept_order decisions _ _ _ c.args.decision c.in-First.a c.in-First.b c.in-First.is (λ firsts. noted decisions firsts long) are) c.note_order.ensures.ok

pub returns-in-Run-clause-ok : goal.returns-in-Run-clause-ok
returns-in-Run-clause-ok c = IfOk-weaker c.note_route-in-Run.result _ _ (λ _ noted decisions are long. kept_route decisions _ _ _ _ c.in-Run.op.train refl c.args.decision c.in-Run.is (noted decisions) are) c.note_route-in-Run.ensures.ok

pub returns-in-Run-clause-err : goal.returns-in-Run-clause-err
returns-in-Run-clause-err c = IfErr-weaker c.note_route-in-Run.result _ _ (λ _ same decisions are. same_order decisions _ _ _ (same decisions) are) c.note_route-in-Run.ensures.err

pub returns-in-Skip-clause-ok : goal.returns-in-Skip-clause-ok
returns-in-Skip-clause-ok c = IfOk-weaker c.note_route-in-Skip.result _ _ (λ _ noted decisions are long. kept_route decisions _ _ _ _ c.in-Skip.op.train refl c.args.decision c.in-Skip.is (noted decisions) are) c.note_route-in-Skip.ensures.ok

pub returns-in-Skip-clause-err : goal.returns-in-Skip-clause-err
returns-in-Skip-clause-err c = IfErr-weaker c.note_route-in-Skip.result _ _ (λ _ same decisions are. same_order decisions _ _ _ (same decisions) are) c.note_route-in-Skip.ensures.err
