use Rattle.std.proofs.Common.{length, refl}
use Rattle.disp_model.specs.Valid.{train_at}
use Rattle.share_bound.proofs.Sharing.{share_of_bases}
use Rattle.share_bound.proofs.Knowing.{current_one}
use Rattle.share_bound.proofs.known.KnownShares.share.Goals as goal

pub returns-clause-share : goal.returns-clause-share
returns-clause-share c =
    let node = c.args.graph.now in
    let t = c.args.train in
    let known = c.of_train.result.now in
    let current = current_one node t c.renew.new.self known c.in_ok-renew.ensures.current
    c.of_train.ensures in
    share_of_bases node t (length (train_at node.problem t)) known.last.bases.items
    known.last.bases.items known.last.share current.bases refl refl current.holds.last.share
