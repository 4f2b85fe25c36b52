use Rattle.std.proofs.Common.{◌∙◌}
use Rattle.std.proofs.lemmas.Result.{IfOk-weaker}
use Rattle.command_words.proofs.Building.{begun, more}
use Rattle.command_words.specs.Program.{fixings, problem}
use Rattle.command_words.proofs.program.solve_inputs.Goals as goal

pub returns : goal.returns
returns c =
    let first = begun problem c.in_ok-arg.ensures (c.described.ensures.app ∙ c.new-command.ensures.app)
    (c.described.ensures.own ∙ c.new-command.ensures.local) c.problem.ensures.rule c.problem.ensures.own in
    record {
      app = IfOk-weaker c.arg-2.result _ _
          (λ new h. (more fixings h first c.fixings.ensures.rule c.fixings.ensures.own).app_is) c.arg-2.ensures;
      own = IfOk-weaker c.arg-2.result _ _
          (λ new h. (more fixings h first c.fixings.ensures.rule c.fixings.ensures.own).own) c.arg-2.ensures;
    }
