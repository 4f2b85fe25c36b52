use Rattle.std.proofs.Common.{map}
use Rattle.std.proofs.lemmas.Result.{err_from_is_err_and}
use Rattle.serde_json.specs.View.{view}
use Rattle.displib_reader.specs.Claims.{component_claims}
use Rattle.json_claims.proofs.Verdicts.{verdict_err, verdict_ok}
use Rattle.displib_reader.proofs.objective.check_components.Goals as goal

pub returns-in_err-check_component : goal.returns-in_err-check_component
returns-in_err-check_component c =
    let p = err_from_is_err_and c.from_residual.result c.from_residual.ensures.1 in
    rw (p.1, p.2) (verdict_err view c.args.rule (component_claims (map view c.args.trains.now)) c.args.values.now c.loop-c.c c.index-values-c.result _ _ c.loop-c-test.true c.index-values-c.is c.in_err-check_component.ensures c.loop-c.invariant)

pub loop-c-preserved : goal.loop-c-preserved
loop-c-preserved c =
    verdict_ok view c.args.rule (component_claims (map view c.args.trains.now)) c.args.values.now c.loop-c.c c.index-values-c.result _ _ c.loop-c-test.true c.index-values-c.is c.in_ok-check_component.ensures c.loop-c.invariant
