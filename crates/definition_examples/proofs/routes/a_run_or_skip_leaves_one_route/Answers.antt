use Rattle.definition_examples.proofs.ForkedRoutes.{run_is_forced, skipped_is_not_allowed, run_is_open}
use Rattle.definition_examples.proofs.routes.a_run_or_skip_leaves_one_route.Goals as goal

pub returns : goal.returns
returns c = record { run = run_is_forced; skipped = skipped_is_not_allowed; free = run_is_open }
