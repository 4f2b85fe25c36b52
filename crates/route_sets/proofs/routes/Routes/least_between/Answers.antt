use Rattle.std.proofs.Common.{◌∙◌, Some, sym, ap}
use Rattle.std.proofs.lemmas.Option.{none-some, same_Some}
use Rattle.route_sets.proofs.Answering.{between_some, between_none}
use Rattle.route_sets.proofs.routes.Routes.least_between.Goals as goal

pub returns-then-to-from : goal.returns-then-to-from
returns-then-to-from c node t are sum =
    let both = between_some node t c.args.a c.args.b c.args.self.now c.in_ok-from.from c.in_ok-to.to sum are (sym c.mark.ensures ∙ c.in_ok-from.was) (sym c.mark-2.ensures ∙ c.in_ok-to.was) c.if-to-from.true in
    (λ e. both.0 (sym c.saturating_sub.ensures ∙ same_Some c.saturating_sub.result sum e), λ h. ap Some (c.saturating_sub.ensures ∙ both.1 h))

pub returns-else-to-from : goal.returns-else-to-from
returns-else-to-from c node t are sum = (
  λ e. absurd (none-some sum e),
  λ h. absurd (between_none node t c.args.a c.args.b c.args.self.now c.in_ok-from.from c.in_ok-to.to sum are (sym c.mark.ensures ∙ c.in_ok-from.was) (sym c.mark-2.ensures ∙ c.in_ok-to.was) c.if-to-from.false h.2),
)
