use Rattle.std.proofs.Common.{arith}
use Rattle.share_bound.proofs.Lying.{first_there, lies_within, bases_lie}
use Rattle.share_bound.proofs.bases.bases_in.Goals as goal

pub number-first-requires : goal.number-first-requires
number-first-requires c = first_there c.args.graph.now.problem c.args.train c.requires.train

pub part-requires : goal.part-requires
part-requires c =
    let node = c.args.graph.now in
    omega (
      arith,
      lies_within node.problem c.args.train c.number-first.result c.args.count c.requires.train
          c.number-first.ensures c.requires.count,
      c.lengths.ensures.count,
      c.paths.ensures.lowers.long,
    )

pub returns : goal.returns
returns c =
    let network = c.paths.result.now in
    bases_lie c.args.graph.now network.arcs network.lowers c.lengths.result.now c.part.result.now
    c.args.train c.number-first.result c.args.count c.paths.ensures.arcs c.paths.ensures.lowers
    c.paths.ensures.no_cycle c.paths.ensures.edition c.requires.train c.number-first.ensures
    c.requires.count c.lengths.ensures.count c.lengths.ensures.longest c.part.ensures
