use Rattle.std.proofs.Common.{◌∙◌, codes}
use Rattle.std.proofs.lemmas.Result.{IfOk-weaker}
use Rattle.command_words.proofs.Building.{begun, more}
use Rattle.command_words.specs.Program.{fixings, needed_rule, problem}
use Rattle.command_words.proofs.program.verify.Goals as goal

pub returns : goal.returns
returns c =
    let first = begun problem c.in_ok-arg.ensures (c.described.ensures.app ∙ c.new-command.ensures.app)
    (c.described.ensures.own ∙ c.new-command.ensures.local) c.problem.ensures.rule c.problem.ensures.own in
    let second = more (needed_rule (codes "solution")) c.in_ok-arg-2.ensures first
    c.needed_rule.ensures.rule c.needed_rule.ensures.own in
    record {
      app = IfOk-weaker c.arg-3.result _ _
          (λ new h. (more fixings h second c.fixings.ensures.rule c.fixings.ensures.own).app_is) c.arg-3.ensures;
      own = IfOk-weaker c.arg-3.result _ _
          (λ new h. (more fixings h second c.fixings.ensures.rule c.fixings.ensures.own).own) c.arg-3.ensures;
    }
