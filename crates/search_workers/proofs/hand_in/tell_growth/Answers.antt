use Rattle.search_workers.proofs.GoingOn.{on_on}
use Rattle.search_workers.proofs.hand_in.tell_growth.Goals as goal

pub returns-in_ok-put_in-in-Subtree : goal.returns-in_ok-put_in-in-Subtree
returns-in_ok-put_in-in-Subtree c = on_on c.args.core.now c.put_in.new.core c.publish.new.core c.put_in.ensures c.publish.ensures
