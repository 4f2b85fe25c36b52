use Rattle.std.proofs.Common.{◌∙◌, sym}
use Rattle.decision_paths.proofs.Firsts.{firsts_noted, firsts_again}
use Rattle.decision_paths.proofs.orders.note_order.Goals as goal

pub returns-in-Some-clause-ok : goal.returns-in-Some-clause-ok
returns-in-Some-clause-ok c decisions are long = firsts_again decisions c.args.a c.args.b c.args.orders.now.entries c.in-Some.field-0 are (sym c.place_of.ensures ∙ c.in-Some.is)

pub returns-in_ok-insert-in-None-clause-ok : goal.returns-in_ok-insert-in-None-clause-ok
returns-in_ok-insert-in-None-clause-ok c decisions are long =
    let u = c.in_ok-insert-in-None.ensures.updates in
    firsts_noted decisions c.args.a c.args.b c.args.orders.now.entries c.insert.new.self.entries c.args.place long are (sym c.place_of.ensures ∙ c.in-None.is) u.1 (λ d e apart. u.2 (d, e) apart)
