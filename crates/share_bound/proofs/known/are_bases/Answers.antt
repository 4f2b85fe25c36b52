use Rattle.std.proofs.Common.{length, subst}
use Rattle.share_bound.specs.Bases.{AreBasesTo}
use Rattle.share_bound.proofs.known.are_bases.Goals as goal

pub returns : goal.returns
returns c = λ yes. subst (AreBasesTo c.args.graph.now c.args.train (length c.args.bases.now))
    (c.are_same.ensures.0 yes) c.bases_in.ensures
