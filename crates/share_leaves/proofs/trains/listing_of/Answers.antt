use Rattle.std.proofs.Common.{ℕ, List, length, ap, arith}
use Rattle.std.specs.Prelude.{slice_index}
use Rattle.disp_model.specs.Valid.{train_at}
use Rattle.event_arcs.proofs.Shortness.{horizon_small}
use Rattle.share_bound.proofs.Sharing.{each_base}
use Rattle.share_leaves.proofs.trains.listing_of.Goals as goal

pub share_over-requires-clause-bases : goal.share_over-requires-clause-bases
share_over-requires-clause-bases c o =
    let node = c.args.graph.now in
    let t = c.args.train in
    let value = ap (λ (l : List ℕ). slice_index l o) c.deref-2.ensures.value in
    omega (
      arith,
      value,
      c.in_ok-bases.ensures.within o,
      each_base node t (length (train_at node.problem t)) c.args.lengths.now c.requires.lengths o,
      horizon_small node.problem,
    )
