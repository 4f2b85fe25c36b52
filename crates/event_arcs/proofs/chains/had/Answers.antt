use Rattle.std.proofs.Common.{Bor, Option, ◌∙◌, subst}
use Rattle.std.specs.Prelude.{option_map}
use Rattle.route_sets.specs.declared.routes.Routes.{Routes}
use Rattle.event_arcs.specs.Chained.{IsGivenBy, LeadsByRoutes}
use Rattle.event_arcs.proofs.chains.had.Goals as goal

pub returns-in-Some : goal.returns-in-Some
returns-in-Some c = λ node t least given by_old sum_is same.
    let by : LeadsByRoutes node t c.in-Some.routes.now given = subst (λ (o : Option (Bor Routes)). IsGivenBy node t (option_map (λ (r : Bor Routes). r.now) o) given) c.in-Some.is by_old in
    let arc = (c.least_between.ensures by.before t by.are_routes least).0 (c.is_same.ensures.0 same ∙ sum_is) in
    by.leads c.args.before c.args.op least arc.0 arc.1 arc.2
