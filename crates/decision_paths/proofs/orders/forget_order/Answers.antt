use Rattle.std.proofs.Common.{◌∙◌, sym, arith}
use Rattle.decision_paths.proofs.Firsts.{firsts_forgot, firsts_kept, firsts_placed, none_of}
use Rattle.decision_paths.proofs.orders.forget_order.Goals as goal

pub returns-in_default : goal.returns-in_default
returns-in_default c decisions are long = absurd (firsts_placed decisions c.args.a c.args.b c.args.orders.now.entries are (sym c.place_of.ensures ∙ none_of c.place_of.result c.in_default.not-Some))

pub returns-then-first-place : goal.returns-then-first-place
returns-then-first-place c decisions are long =
    firsts_kept decisions c.args.a c.args.b c.args.orders.now.entries c.in-Some.first are (sym c.place_of.ensures ∙ c.in-Some.is) (omega (arith, long, c.if-first-place.true))

pub returns : goal.returns
returns c decisions are long =
    let u = c.remove.ensures.updates in
    firsts_forgot decisions c.args.a c.args.b c.args.orders.now.entries c.remove.new.self.entries c.in-Some.first are (sym c.place_of.ensures ∙ c.in-Some.is) (omega (arith, long, c.if-first-place.false)) u.1 (λ d e apart. u.2 (d, e) apart)
