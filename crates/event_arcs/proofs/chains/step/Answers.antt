use Rattle.std.proofs.Common.{◌+◌, ◌++◌, Option, ℕ, sym, subst, ◌∙◌, arith}
use Rattle.std.proofs.lemmas.Bool.{false≢true}
use Rattle.event_arcs.specs.Chained.{IsChained}
use Rattle.event_arcs.proofs.Joining.{chained_past, chained_first, chained_on, arc_down}
use Rattle.event_arcs.proofs.chains.step.Goals as goal

pub returns-then-not-forced-clause-chained : goal.returns-then-not-forced-clause-chained
returns-then-not-forced-clause-chained c = λ node t order place given base by_old is here chained.
    chained_past node t order place c.args.op base (given ++ c.args.arcs.now.items) c.args.last here (λ forced. false≢true (sym c.if-not-forced.true ∙ (c.forced.ensures node t is.are_routes).1 forced)) chained

pub returns-in_ok-join-clause-chained : goal.returns-in_ok-join-clause-chained
returns-in_ok-join-clause-chained c = λ node t order place given base by_old is here chained.
    let forced = (c.forced.ensures node t is.are_routes).0 c.if-not-forced.false in
    let from = subst (λ (l : Option ℕ). IsChained node t order (place + 1) base (given ++ c.args.arcs.now.items) l) c.in-Some.is chained in
    let stands = from.last_stands in
    let arc = arc_down node t order stands.at place c.in-Some.before c.args.op is.is_order stands.forced forced stands.here here (omega (arith, stands.from)) in
    let joins = c.in_ok-join.ensures node t arc.0 given by_old is.are_routes is.first_is stands.forced forced arc.1 in
    chained_on node t order place c.in-Some.before c.args.op arc.0 base (given ++ c.args.arcs.now.items) (given ++ c.join.new.arcs.items) is.is_order here forced arc.1 joins from

pub returns-in_default-clause-chained : goal.returns-in_default-clause-chained
returns-in_default-clause-chained c = λ node t order place given base by_old is here chained.
    let forced = (c.forced.ensures node t is.are_routes).0 c.if-not-forced.false in
    chained_first node t order place c.args.op base (given ++ c.args.arcs.now.items) is.is_order here forced
    (subst (λ (l : Option ℕ). IsChained node t order (place + 1) base (given ++ c.args.arcs.now.items) l) c.in_default.is chained)
