use Rattle.event_arcs.proofs.Inserting.{spans_to, spans_on}
use Rattle.event_arcs.proofs.laws.an_operation_goes_between.Goals as goal

pub returns : goal.returns
returns c = λ node arcs before op behind first second spans between to_op on.
    (spans_to node arcs before op behind first second spans between to_op on, spans_on node arcs before op behind first second spans between to_op on)
