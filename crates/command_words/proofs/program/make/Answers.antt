use Rattle.std.proofs.Common.{◌∙◌, codes}
use Rattle.std.proofs.lemmas.Result.{IfOk-weaker}
use Rattle.command_words.proofs.Building.{begun, more}
use Rattle.command_words.specs.Program.{number, optional_rule, trains}
use Rattle.command_words.proofs.program.make.Goals as goal

pub returns : goal.returns
returns c =
    let first = begun number c.in_ok-arg.ensures (c.described.ensures.app ∙ c.new-command.ensures.app)
    (c.described.ensures.own ∙ c.new-command.ensures.local) c.number.ensures.rule c.number.ensures.own in
    let second = more trains c.in_ok-arg-2.ensures first
    c.trains.ensures.rule c.trains.ensures.own in
    record {
      app = IfOk-weaker c.arg-3.result _ _
          (λ new h. (more (optional_rule (codes "out")) h second c.optional_rule.ensures.rule c.optional_rule.ensures.own).app_is) c.arg-3.ensures;
      own = IfOk-weaker c.arg-3.result _ _
          (λ new h. (more (optional_rule (codes "out")) h second c.optional_rule.ensures.rule c.optional_rule.ensures.own).own) c.arg-3.ensures;
    }
