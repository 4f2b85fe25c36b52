use Rattle.std.proofs.lemmas.Result.{IfOk-weaker}
use Rattle.command_words.proofs.Building.{one_more}
use Rattle.command_words.proofs.program.more_commands.Goals as goal

pub returns : goal.returns
returns c =
    let first = one_more c.in_ok-subcommand.ensures c.in_ok-first_commands.ensures c.in_ok-check.ensures.app
    c.in_ok-check.ensures.own in
    IfOk-weaker c.subcommand-2.result _ _ (λ new h. one_more h first c.in_ok-report.ensures.app
    c.in_ok-report.ensures.own) c.subcommand-2.ensures
