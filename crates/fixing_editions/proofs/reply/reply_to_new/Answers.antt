use Rattle.fixing_editions.proofs.Accepting.{routed_none, routed_counted}
use Rattle.fixing_editions.proofs.reply.reply_to_new.Goals as goal

pub returns-then-not-has : goal.returns-then-not-has
returns-then-not-has c =
    routed_none c.args.problem.now c.args.changes.now c.args.fixing.now c.args.at_train c.in_ok-has.has (rw c.requires.kept at c.in_ok-has.ensures) c.if-not-has.true

pub returns : goal.returns
returns c =
    routed_counted c.args.problem.now c.args.changes.now c.args.fixing.now c.args.at_train c.in_ok-has.has c.counted.result (rw c.requires.kept at c.in_ok-has.ensures) c.if-not-has.false c.counted.ensures
