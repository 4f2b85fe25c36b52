use Rattle.serde_json.specs.View.{view}
use Rattle.solution_text.specs.Claims.{solution_claims}
use Rattle.json_claims.proofs.Verdicts.{verdict_is_first}
use Rattle.solution_text.proofs.claims.check.Goals as goal

pub returns : goal.returns
returns c = rw c.check_solution.ensures (verdict_is_first c.args.rule (solution_claims (view c.args.value.now)))
