use Rattle.std.proofs.Common.{inr, map, string_bytes, subst}
use Rattle.command_words.specs.declared.task.Task.{Task}
use Rattle.command_words.specs.Task.{IsTask}
use Rattle.dispatch_cli.proofs.program.dispatch.Goals as goal

pub returns-in-Ok-Roll : goal.returns-in-Ok-Roll
returns-in-Ok-Roll g c = record {
  ends = inr (record {
    task = c.in-Ok-Roll.task;
    is_task = subst (λ (t : Task). IsTask (map (λ word. string_bytes word) c.args.words.now) t) c.in-Ok-Roll.field-0-is c.in-Ok-Roll.ensures.ok;
    ends = c.run_roll.ensures.ends;
  });
  feeds = c.run_roll.ensures.feeds;
}
