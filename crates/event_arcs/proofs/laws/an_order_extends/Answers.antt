use Rattle.event_arcs.proofs.Extending.{spans_then, order_extends}
use Rattle.event_arcs.proofs.laws.an_order_extends.Goals as goal

pub returns : goal.returns
returns c = record { spans = spans_then; stands = order_extends }
