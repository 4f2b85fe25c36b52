use Rattle.fixing_editions.proofs.Accepting.{chosen_reply}
use Rattle.fixing_editions.proofs.reply.reply_to.Goals as goal

pub returns-in_ok-reply-in-Ok-find : goal.returns-in_ok-reply-in-Ok-find
returns-in_ok-reply-in-Ok-find c =
    chosen_reply c.args.problem.now c.args.changes.now c.args.fixing c.as_slice-in-Chosen.result.now c.in-Chosen.at_train c.in-Chosen.at_op c.in-Chosen.next c.in-Ok-find.operation.now c.in_ok-reply-in-Ok-find.reply
    c.in-Chosen.is c.as_slice-in-Chosen.ensures c.in-Ok-find.ensures.ok c.in_ok-reply-in-Ok-find.ensures
