use Rattle.std.proofs.Common.{arith}
use Rattle.disp_model.specs.Shares.{IsBase}
use Rattle.disp_laws.proofs.Numbered.{below_count}
use Rattle.share_bound.proofs.Basing.{edition_small, base_found}
use Rattle.share_bound.proofs.Fitting.{base_within}
use Rattle.share_bound.proofs.bases.base_of.Goals as goal

pub length-requires : goal.length-requires
length-requires c =
    let node = c.args.graph.now in
    omega (
      arith,
      c.number-number.ensures,
      below_count node.problem c.args.op c.requires.train c.requires.op,
      c.paths.ensures.lowers.long,
    )

pub returns-clause-base : goal.returns-clause-base
returns-clause-base c =
    base_found c.args.graph.now c.paths.result.now.arcs c.paths.result.now.lowers c.args.op
    c.number-number.result c.length.result c.paths.ensures.arcs c.paths.ensures.lowers
    c.paths.ensures.no_cycle c.requires c.number-number.ensures c.length.ensures.longest

pub returns-clause-within : goal.returns-clause-within
returns-clause-within c =
    let node = c.args.graph.now in
    let is : IsBase node c.args.op c.length.result = base_found node c.paths.result.now.arcs
    c.paths.result.now.lowers c.args.op c.number-number.result c.length.result
    c.paths.ensures.arcs c.paths.ensures.lowers c.paths.ensures.no_cycle c.requires
    c.number-number.ensures c.length.ensures.longest in
    base_within node c.args.op c.length.result (edition_small node c.paths.ensures.edition)
    c.paths.ensures.no_cycle c.requires.train is
