use Rattle.std.proofs.Common.{◌++◌, ◌<◌, [], length, get_or, map, arith, ap, sym, subst, ◌∙◌}
use Rattle.std.proofs.lemmas.List.{get_or_default}
use Rattle.std.proofs.lemmas.List.Sums.{sum_by_more}
use Rattle.disp_model.specs.Train.{IsRoute}
use Rattle.disp_model.specs.Valid.{train_at}
use Rattle.disp_model.specs.Earliest.{op_of}
use Rattle.plan_builder.specs.Stops.{op_on, ops_from}
use Rattle.plan_builder.proofs.Listing.{route_numbers, ops_step}
use Rattle.plan_builder.proofs.stops.stops_of.Goals as goal

pub push_stops-requires-clause-nodes : goal.push_stops-requires-clause-nodes
push_stops-requires-clause-nodes c =
    let t = c.loop-train.train in
    let problem = c.args.problem.now in
    let lt : t < length problem.trains = omega (arith, ap length c.as_slice-operations-items.ensures) in
    let own = c.index-routes-train.is ∙ get_or_default c.args.routes.now t c.index-routes-train.result [] (omega (arith, c.requires.routes.count, lt)) in
    rw (c.as_slice.ensures, c.loop-train.invariant.first, c.requires.nodes)
    (route_numbers problem t c.index-routes-train.result lt (subst (IsRoute (train_at problem t)) (sym own) (c.requires.routes.each t lt)))

pub loop-train-preserved : goal.loop-train-preserved
loop-train-preserved c =
    let t = c.loop-train.train in
    let loop = c.loop-train.invariant in
    let problem = c.args.problem.now in
    let routes = c.args.routes.now in
    let lt : t < length problem.trains = omega (arith, ap length c.as_slice-operations-items.ensures) in
    let within : t < length routes = omega (arith, c.requires.routes.count, lt) in
    let own = c.index-routes-train.is ∙ get_or_default routes t c.index-routes-train.result [] within in
    let old = map (λ s. op_of s.event) c.loop-train.stops.items in
    record {
      ops = ops_step routes t old _ (ops_from 0 routes) within (c.in_ok-push_stops.ensures.ops ∙ ap (λ r. old ++ map (op_on t) r) (c.as_slice.ensures ∙ own)) loop.ops;
      each = c.in_ok-push_stops.ensures.each problem (sym loop.first) loop.each;
      first = omega (
        arith,
        loop.first,
        c.len.ensures,
        ap length (c.operations-item.is ∙ ap (λ l. get_or l t c.operations-item.result) c.as_slice-operations-items.ensures),
        sum_by_more (λ operations. length operations) problem.trains t c.operations-item.result lt,
      );
    }
