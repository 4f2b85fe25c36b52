use Rattle.std.proofs.lemmas.Result.{err_from_is_err_and}
use Rattle.serde_json.specs.View.{view}
use Rattle.displib_reader.specs.Claims.{train_claims}
use Rattle.json_claims.proofs.Verdicts.{verdict_err, verdict_ok}
use Rattle.displib_reader.proofs.claims.check_trains.Goals as goal

pub returns-in_err-check_train : goal.returns-in_err-check_train
returns-in_err-check_train c =
    let p = err_from_is_err_and c.from_residual.result c.from_residual.ensures.1 in
    rw (p.1, p.2) (verdict_err view c.args.rule train_claims c.args.values.now c.loop-t.t c.index-values-t.result _ _ c.loop-t-test.true c.index-values-t.is c.in_err-check_train.ensures c.loop-t.invariant)

pub loop-t-preserved : goal.loop-t-preserved
loop-t-preserved c =
    verdict_ok view c.args.rule train_claims c.args.values.now c.loop-t.t c.index-values-t.result _ _ c.loop-t-test.true c.index-values-t.is c.in_ok-check_train.ensures c.loop-t.invariant
