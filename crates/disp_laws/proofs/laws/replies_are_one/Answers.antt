use Rattle.disp_laws.proofs.OneReply.{one_reply}
use Rattle.disp_laws.proofs.laws.replies_are_one.Goals as goal

pub returns : goal.returns
returns c = one_reply
