use Rattle.std.proofs.Common.{◌≡◌, ◌+◌, ◌<◌, ◌∙◌, ℕ, List, length, inl, inr, refl, sym, ap, subst, arith}
use Rattle.std.proofs.lemmas.Bool.{false≢true}
use Rattle.disp_model.specs.declared.train.Operation.{Operation}
use Rattle.disp_model.specs.Valid.{train_at}
use Rattle.disp_model.specs.Node.{node_at}
use Rattle.disp_model.specs.Routes.{HasRoute}
use Rattle.disp_laws.proofs.RouteSearch.{has_route_or_not}
use Rattle.route_sets.proofs.Answering.{train_read}
use Rattle.event_arcs.specs.Placed.{ArePlacedTo}
use Rattle.event_arcs.proofs.Offsets.{first_of_next, first_within, routes_by_own, placed_more, first_without}
use Rattle.event_arcs.proofs.placed.placing_of.Goals as goal

pub returns-then-none_left : goal.returns-then-none_left
returns-then-none_left c = λ fixings decisions are.
    let t = c.loop-train.train in
    let node = node_at c.args.problem.now fixings decisions in
    let routes = routes_by_own c.args.problem.now fixings _ decisions _ c.args.owns.now t c.index-owns-train.result c.in_ok-routes.routes are c.loop-train-test.true c.index-owns-train.is c.as_slice.ensures c.as_slice-in-loop-train.ensures c.in_ok-routes.ensures in
    first_without node t c.loop-train.each.items (omega (arith, c.loop-train-test.true, c.requires)) (c.loop-train.invariant.placed fixings decisions are) ((c.none_left.ensures node t routes).0 c.if-none_left.true)

pub loop-train-preserved : goal.loop-train-preserved
loop-train-preserved c =
    let problem = c.args.problem.now in
    let t = c.loop-train.train in
    let there : t < length problem.trains = omega (arith, c.loop-train-test.true, c.requires) in
    let operations = c.index-as_slice-train.result in
    let e : train_at problem t ≡ operations = train_read problem.trains c.as_slice-in-loop-train-2.result.now t operations operations c.as_slice-in-loop-train-2.ensures c.index-as_slice-train.is refl there in
    let long : length (train_at problem t) ≡ length operations = ap (λ (l : List Operation). length l) e in
    record {
      within = omega (arith, c.loop-train-test.true);
      first_is = omega (arith, c.loop-train.invariant.first_is, first_of_next problem t there, long, c.len.ensures);
      placed = λ fixings decisions are.
          let node = node_at problem fixings decisions in
          let routes = routes_by_own problem fixings _ decisions _ c.args.owns.now t c.index-owns-train.result c.in_ok-routes.routes are c.loop-train-test.true c.index-owns-train.is c.as_slice.ensures c.as_slice-in-loop-train.ensures c.in_ok-routes.ensures in
          let has : HasRoute node t = elim (has_route_or_not node t there) [ inl has ↦ has | inr none ↦ absurd (false≢true (sym c.if-none_left.false ∙ (c.none_left.ensures node t routes).1 none)) ] in
          placed_more node t c.loop-train.each.items c.push.new.self.items (record { first = c.loop-train.first; routes = c.in_ok-routes.routes }) there (c.loop-train.invariant.placed fixings decisions are)
          (record { first_is = c.loop-train.invariant.first_is; are_routes = routes; has_route = has }) c.in_ok-push.ensures.items;
    }

pub overflow_add-first : goal.overflow_add-first
overflow_add-first c =
    let problem = c.args.problem.now in
    let t = c.loop-train.train in
    let there : t < length problem.trains = omega (arith, c.loop-train-test.true, c.requires) in
    let operations = c.index-as_slice-train.result in
    let e : train_at problem t ≡ operations = train_read problem.trains c.as_slice-in-loop-train-2.result.now t operations operations c.as_slice-in-loop-train-2.ensures c.index-as_slice-train.is refl there in
    let long : length (train_at problem t) ≡ length operations = ap (λ (l : List Operation). length l) e in
    omega (arith, c.loop-train.invariant.first_is, first_of_next problem t there, long, c.len.ensures, first_within problem (t + 1))

pub of-requires : goal.of-requires
of-requires c = omega (arith, c.loop-train-test.true, c.requires)

pub returns : goal.returns
returns c = λ fixings decisions are.
    let all : c.loop-train.train ≡ length c.args.problem.now.trains = omega (arith, c.loop-train-test.false, c.loop-train.invariant.within, c.requires) in
    subst (λ (n : ℕ). ArePlacedTo (node_at c.args.problem.now fixings decisions) n c.loop-train.each.items) all (c.loop-train.invariant.placed fixings decisions are)
