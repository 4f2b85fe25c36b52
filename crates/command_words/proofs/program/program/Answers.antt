use Rattle.std.proofs.lemmas.Result.{IfOk-weaker}
use Rattle.command_words.proofs.Building.{one_more}
use Rattle.command_words.proofs.program.program.Goals as goal

pub returns : goal.returns
returns c =
    let first = one_more c.in_ok-subcommand.ensures c.in_ok-more_commands.ensures c.in_ok-make.ensures.app
    c.in_ok-make.ensures.own in
    IfOk-weaker c.subcommand-2.result _ _ (λ new h. one_more h first c.in_ok-roll.ensures.app
    c.in_ok-roll.ensures.own) c.subcommand-2.ensures
