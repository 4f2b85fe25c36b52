use Rattle.std.proofs.Common.{◌∙◌, refl}
use Rattle.event_arcs.proofs.Owning.{next_fixing}
use Rattle.event_arcs.proofs.owns.add_fixings.Goals as goal

pub loop-fixing-preserved : goal.loop-fixing-preserved
loop-fixing-preserved c = record {
  long = c.in_ok-add_fixing.ensures.long ∙ c.loop-fixing.invariant.long;
  own = λ are. next_fixing c.args.fixings.now _ c.loop-fixing.fixing-index _ _ c.loop-fixing.owns.items c.add_fixing.new.owns.items c.loop-fixing-test.true refl (c.loop-fixing.invariant.own are) c.in_ok-add_fixing.ensures;
}
