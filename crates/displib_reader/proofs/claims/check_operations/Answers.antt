use Rattle.std.proofs.Common.{length}
use Rattle.std.proofs.lemmas.Result.{err_from_is_err_and}
use Rattle.serde_json.specs.View.{view}
use Rattle.displib_reader.specs.Claims.{operation_claims}
use Rattle.json_claims.proofs.Verdicts.{verdict_err, verdict_ok}
use Rattle.displib_reader.proofs.claims.check_operations.Goals as goal

pub returns-in_err-check_operation : goal.returns-in_err-check_operation
returns-in_err-check_operation c =
    let p = err_from_is_err_and c.from_residual.result c.from_residual.ensures.1 in
    rw (p.1, p.2) (verdict_err view c.args.rule (operation_claims (length c.args.values.now) c.args.t) c.args.values.now c.loop-o.o c.index-values-o.result _ _ c.loop-o-test.true c.index-values-o.is c.in_err-check_operation.ensures c.loop-o.invariant)

pub loop-o-preserved : goal.loop-o-preserved
loop-o-preserved c =
    verdict_ok view c.args.rule (operation_claims (length c.args.values.now) c.args.t) c.args.values.now c.loop-o.o c.index-values-o.result _ _ c.loop-o-test.true c.index-values-o.is c.in_ok-check_operation.ensures c.loop-o.invariant
