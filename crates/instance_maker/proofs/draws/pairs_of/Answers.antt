use Rattle.std.proofs.Common.{◌≡◌, ◌∙◌, ap, arith}
use Rattle.instance_maker.specs.Draws.{pairs_of}
use Rattle.instance_maker.proofs.draws.pairs_of.Goals as goal

pub returns : goal.returns
returns c =
    let same : c.loop.counter ≡ c.args.count = omega (arith, c.loop.auto.counter-end) in
    c.loop.invariant.pairs ∙ ap (pairs_of c.args.number) same
