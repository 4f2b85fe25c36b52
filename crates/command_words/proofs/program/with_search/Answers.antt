use Rattle.std.proofs.Common.{refl}
use Rattle.std.proofs.lemmas.Result.{IfOk-weaker}
use Rattle.command_words.proofs.Building.{begun, more}
use Rattle.command_words.specs.Program.{budget, rule, workers}
use Rattle.command_words.proofs.program.with_search.Goals as goal

pub returns : goal.returns
returns c =
    let first = begun workers c.in_ok-arg.ensures refl
    c.requires c.workers.ensures.rule c.workers.ensures.own in
    let second = more budget c.in_ok-arg-2.ensures first
    c.budget.ensures.rule c.budget.ensures.own in
    record {
      app = IfOk-weaker c.arg-3.result _ _
          (λ new h. (more rule h second c.rule.ensures.rule c.rule.ensures.own).app_is) c.arg-3.ensures;
      own = IfOk-weaker c.arg-3.result _ _
          (λ new h. (more rule h second c.rule.ensures.rule c.rule.ensures.own).own) c.arg-3.ensures;
    }
