use Rattle.std.proofs.Common.{refl}
use Rattle.std.proofs.lemmas.Bool.{false≢true}
use Rattle.tree_checker.proofs.rules.has_arcs.Goals as goal

pub returns-then-are_right : goal.returns-then-are_right
returns-then-are_right c fixings are = (λ h. ((c.if-are_right.ensures fixings are).0 refl, (c.is_closed.ensures fixings are).0 h), λ both. (c.is_closed.ensures fixings are).1 both.1)

pub returns-else-are_right : goal.returns-else-are_right
returns-else-are_right c fixings are = rw c.if-are_right.false (λ h. absurd (false≢true h), λ both. absurd (false≢true ((c.if-are_right.ensures fixings are).1 both.0)))
