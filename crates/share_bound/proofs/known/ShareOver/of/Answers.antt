use Rattle.std.proofs.Common.{ℕ, List, length, ap, arith}
use Rattle.std.specs.Prelude.{slice_index}
use Rattle.event_arcs.proofs.Shortness.{horizon_small}
use Rattle.share_bound.proofs.Sharing.{each_base}
use Rattle.share_bound.proofs.known.ShareOver.of.Goals as goal

pub share_over-requires-clause-bases : goal.share_over-requires-clause-bases
share_over-requires-clause-bases c o =
    let node = c.args.graph.now in
    let value = ap (λ (l : List ℕ). slice_index l o) c.deref.ensures.value in
    omega (
      arith,
      value,
      each_base node c.args.train (length c.train_of-count.result.now)
          c.in_ok-bases.bases.items c.in_ok-bases.ensures o,
      horizon_small node.problem,
    )
