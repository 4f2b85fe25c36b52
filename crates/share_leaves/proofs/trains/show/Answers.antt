use Rattle.std.proofs.Common.{◌≡◌, ℕ, List, length, subst, arith}
use Rattle.disp_model.specs.Valid.{train_at}
use Rattle.share_leaves.specs.Listed.{ShowsBases}
use Rattle.share_leaves.proofs.Listing.{listed_more, few_operations}
use Rattle.share_leaves.proofs.trains.show.Goals as goal

pub returns : goal.returns
returns c =
    let node = c.args.graph.now in
    let t = c.args.train in
    let bases = c.args.listing.now.bases.items in
    let walks = c.in_ok-walks.walks in
    let shows : ShowsBases node t (length bases) bases walks = subst
    (λ (l : List ℕ). ShowsBases node t (length l) l walks) c.deref.ensures.value
    c.in_ok-walks.ensures in
    let long : length bases ≡ length (train_at node.problem t) = omega (
      arith,
      c.requires.holds.low.kept.long,
      c.requires.holds.low.are.long,
    ) in
    listed_more node t (length bases) c.args.listed.now _ bases walks c.args.listing.now.share
    c.requires.train (omega (arith, long, few_operations node t c.requires.train))
    c.requires.holds.share shows (omega arith) c.in_ok-push.ensures.ok
    (omega (arith, c.saturating_add-listed.ensures)) c.requires.before
