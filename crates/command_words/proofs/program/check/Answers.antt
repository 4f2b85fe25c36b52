use Rattle.std.proofs.Common.{◌∙◌, codes}
use Rattle.std.proofs.lemmas.Result.{IfOk-weaker}
use Rattle.command_words.proofs.Building.{begun, more}
use Rattle.command_words.specs.Program.{fixings, needed_rule, problem, optional_rule}
use Rattle.command_words.proofs.program.check.Goals as goal

pub returns : goal.returns
returns c =
    let first = begun problem c.in_ok-arg.ensures (c.described.ensures.app ∙ c.new-command.ensures.app)
    (c.described.ensures.own ∙ c.new-command.ensures.local) c.problem.ensures.rule c.problem.ensures.own in
    let second = more (needed_rule (codes "tree")) c.in_ok-arg-2.ensures first
    c.needed_rule.ensures.rule c.needed_rule.ensures.own in
    let third = more fixings c.in_ok-arg-3.ensures second
    c.fixings.ensures.rule c.fixings.ensures.own in
    record {
      app = IfOk-weaker c.arg-4.result _ _
          (λ new h. (more (optional_rule (codes "plan")) h third c.optional_rule.ensures.rule c.optional_rule.ensures.own).app_is) c.arg-4.ensures;
      own = IfOk-weaker c.arg-4.result _ _
          (λ new h. (more (optional_rule (codes "plan")) h third c.optional_rule.ensures.rule c.optional_rule.ensures.own).own) c.arg-4.ensures;
    }
