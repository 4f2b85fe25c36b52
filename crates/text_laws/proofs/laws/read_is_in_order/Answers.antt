use Rattle.text_laws.proofs.InOrder.{read_in_order, read_twice}
use Rattle.text_laws.proofs.laws.read_is_in_order.Goals as goal

pub returns : goal.returns
returns c = record { order = read_in_order; again = read_twice }
