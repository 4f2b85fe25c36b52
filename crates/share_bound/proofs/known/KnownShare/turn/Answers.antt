use Rattle.share_bound.proofs.Knowing.{recalled, added}
use Rattle.share_bound.proofs.known.KnownShare.turn.Goals as goal

pub returns-in-Some : goal.returns-in-Some
returns-in-Some c = recalled c.args.graph.now c.args.train c.args.self.now c.recall.new.self
    c.deref.result.now c.in-Some.place c.deref.ensures.value c.in-Some.ensures c.requires.holds
    c.recall.ensures.last c.recall.ensures.earlier

pub returns : goal.returns
returns c = added c.args.graph.now c.args.train c.in_ok-share.share c.add.new.self c.add.result
    c.in_ok-share.ensures c.add.ensures.last
    (c.add.ensures.earlier c.args.graph.now c.args.train c.requires.holds)
