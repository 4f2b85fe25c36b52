use Rattle.std.proofs.lemmas.Result.{IfOk-weaker}
use Rattle.command_words.proofs.Building.{one_more}
use Rattle.command_words.proofs.program.first_commands.Goals as goal

pub returns : goal.returns
returns c =
    let first = one_more c.in_ok-subcommand.ensures c.bare_program.ensures c.in_ok-solve.ensures.app
    c.in_ok-solve.ensures.own in
    IfOk-weaker c.subcommand-2.result _ _ (λ new h. one_more h first c.in_ok-verify.ensures.app
    c.in_ok-verify.ensures.own) c.subcommand-2.ensures
