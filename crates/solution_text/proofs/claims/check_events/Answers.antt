use Rattle.std.proofs.lemmas.Result.{err_from_is_err_and}
use Rattle.serde_json.specs.View.{view}
use Rattle.json_claims.proofs.Verdicts.{verdict_err, verdict_ok}
use Rattle.solution_text.specs.Claims.{event_claims}
use Rattle.solution_text.proofs.claims.check_events.Goals as goal

pub returns-in_err-check_event : goal.returns-in_err-check_event
returns-in_err-check_event c =
    let p = err_from_is_err_and c.from_residual.result c.from_residual.ensures.1 in
    rw (p.1, p.2) (verdict_err view c.args.rule event_claims c.args.values.now c.loop-k.k c.index-values-k.result _ _ c.loop-k-test.true c.index-values-k.is c.in_err-check_event.ensures c.loop-k.invariant)

pub loop-k-preserved : goal.loop-k-preserved
loop-k-preserved c =
    verdict_ok view c.args.rule event_claims c.args.values.now c.loop-k.k c.index-values-k.result _ _ c.loop-k-test.true c.index-values-k.is c.in_ok-check_event.ensures c.loop-k.invariant
