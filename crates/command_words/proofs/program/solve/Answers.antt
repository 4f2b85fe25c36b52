use Rattle.std.proofs.Common.{◌∙◌, codes, ap}
use Rattle.std.proofs.lemmas.Result.{IfOk-weaker}
use Rattle.clap.specs.Words.{App}
use Rattle.command_words.proofs.Building.{begun, more}
use Rattle.command_words.specs.Program.{optional_rule, with_search}
use Rattle.command_words.proofs.program.solve.Goals as goal

pub returns : goal.returns
returns c =
    let first = begun (optional_rule (codes "plan")) c.in_ok-arg.ensures (c.in_ok-with_search.ensures.app
    ∙ ap (λ (a : App). with_search a) c.in_ok-solve_inputs.ensures.app)
    c.in_ok-with_search.ensures.own c.optional_rule.ensures.rule c.optional_rule.ensures.own in
    record {
      app = IfOk-weaker c.arg-2.result _ _
          (λ new h. (more (optional_rule (codes "tree")) h first c.optional_rule-2.ensures.rule c.optional_rule-2.ensures.own).app_is) c.arg-2.ensures;
      own = IfOk-weaker c.arg-2.result _ _
          (λ new h. (more (optional_rule (codes "tree")) h first c.optional_rule-2.ensures.rule c.optional_rule-2.ensures.own).own) c.arg-2.ensures;
    }
