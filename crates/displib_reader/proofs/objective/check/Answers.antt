use Rattle.serde_json.specs.View.{view}
use Rattle.displib_reader.specs.Claims.{problem_claims}
use Rattle.json_claims.proofs.Verdicts.{verdict_is_first}
use Rattle.displib_reader.proofs.objective.check.Goals as goal

pub returns : goal.returns
returns c = rw c.check_problem.ensures (verdict_is_first c.args.rule (problem_claims (view c.args.value.now)))
