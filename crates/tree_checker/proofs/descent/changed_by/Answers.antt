use Rattle.tree_checker.specs.Places.{last_decision}
use Rattle.tree_checker.proofs.Renewing.{noted_more, noted_all}
use Rattle.tree_checker.proofs.descent.changed_by.Goals as goal

pub loop-at-preserved : goal.loop-at-preserved
loop-at-preserved c =
    noted_more c.args.path.now c.args.place.depth c.loop-at.at (last_decision c.args.place.decision) _ c.loop-at.changed.items c.note.new.changed.items c.in_ok-note.ensures c.loop-at.invariant

pub returns : goal.returns
returns c = noted_all c.args.path.now c.args.place.depth c.loop-at.at (last_decision c.args.place.decision) c.loop-at.changed.items c.loop-at-test.false c.loop-at.invariant
