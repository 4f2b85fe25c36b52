use Rattle.std.proofs.Common.{◌∙◌, codes, ap}
use Rattle.std.proofs.lemmas.Result.{IfOk-weaker}
use Rattle.clap.specs.Words.{App}
use Rattle.command_words.proofs.Building.{begun}
use Rattle.command_words.specs.Program.{optional_rule, with_search}
use Rattle.command_words.proofs.program.roll.Goals as goal

pub returns : goal.returns
returns c =
    record {
      app = IfOk-weaker c.arg.result _ _
          (λ new h. (begun (optional_rule (codes "trees")) h (c.in_ok-with_search.ensures.app
          ∙ ap (λ (a : App). with_search a) c.in_ok-roll_inputs.ensures.app)
          c.in_ok-with_search.ensures.own c.optional_rule-trees.ensures.rule c.optional_rule-trees.ensures.own).app_is) c.arg.ensures;
      own = IfOk-weaker c.arg.result _ _
          (λ new h. (begun (optional_rule (codes "trees")) h (c.in_ok-with_search.ensures.app
          ∙ ap (λ (a : App). with_search a) c.in_ok-roll_inputs.ensures.app)
          c.in_ok-with_search.ensures.own c.optional_rule-trees.ensures.rule c.optional_rule-trees.ensures.own).own) c.arg.ensures;
    }
