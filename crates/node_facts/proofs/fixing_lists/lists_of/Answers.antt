use Rattle.std.proofs.Common.{List, take}
use Rattle.disp_model.specs.declared.fixing.Fixing.{Fixing}
use Rattle.node_facts.specs.Indexed.{AreFixedByTrain}
use Rattle.node_facts.proofs.Timing.{one_more}
use Rattle.node_facts.proofs.fixing_lists.lists_of.Goals as goal

pub loop-fixing-preserved : goal.loop-fixing-preserved
loop-fixing-preserved c =
    let i = c.loop-fixing.fixing-index in
    one_more (λ (l : List Fixing). AreFixedByTrain l c.note_fixing.new.lists.items) c.args.fixings.now i _ c.loop-fixing-test.true (c.in_ok-note_fixing.ensures (take i c.args.fixings.now) c.loop-fixing.invariant)
