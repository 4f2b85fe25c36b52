use Rattle.std.proofs.Common.{◌∙◌, ℕ, ◌<◌, length, set, refl, sym, ap, subst, arith}
use Rattle.event_arcs.specs.declared.placed.Placed.{Placed}
use Rattle.route_sets.specs.Sets.{AreRoutesOf}
use Rattle.disp_model.specs.Node.{Node, node_at, with_decision}
use Rattle.event_arcs.proofs.Offsets.{placed_at, all_have_routes}
use Rattle.event_graph.proofs.Deciding.{refused_at}
use Rattle.event_graph.proofs.Training.{own_after, routes_now, placed_now, train_placed, first_without, train_decides, read_as, read_same, may_train, both_back}
use Rattle.event_graph.proofs.decide_train.decide_train.Goals as goal

pub routes_with-requires-clause-routes : goal.routes_with-requires-clause-routes
routes_with-requires-clause-routes c =
    let may = c.requires.may.2 in
    let parts = c.args.parts.now in
    let node : Node = node_at c.args.problem.now c.requires.may.0 c.requires.may.1 in
    let within = (let lt : c.args.train < length parts.each.items = omega (arith, c.requires.there, may.state.placed.long) in lt) in
    let placed = placed_at node parts.each.items c.args.train c.index-2.result.now may.state.placed within c.index-2.ensures in
    (node, refl, placed.are_routes, placed.has_route)

pub returns-then-none_left-clause-decided : goal.returns-then-none_left-clause-decided
returns-then-none_left-clause-decided c fixings decisions may =
    let parts = c.args.parts.now in
    let node : Node = node_at c.args.problem.now fixings decisions in
    let next : Node = with_decision node c.args.decision in
    let routes = routes_now c.args.problem.now fixings decisions c.args.decision c.args.train parts.owns.items c.index.result.now c.in-Ok.made.own c.in-Ok.made.own.fixings c.in-Ok.made.own.decisions c.in-Ok.made.routes may.state.own c.requires.about
    (omega (arith, c.requires.there, may.state.owns_long)) c.index.ensures c.in-Ok.ensures.made.own_is refl refl (subst (λ (u : ℕ). AreRoutesOf (node_at c.args.problem.now c.in-Ok.made.own.fixings c.in-Ok.made.own.decisions) u c.in-Ok.made.routes) c.in-Ok.ensures.made.train_is c.in-Ok.ensures.known) in
    (first_without node c.args.decision c.args.train parts.each.items c.requires.about c.requires.there may.state.placed ((c.none_left.ensures next c.args.train routes).0 c.if-none_left.true), refl)

pub join_train-requires : goal.join_train-requires
join_train-requires c =
    let may = c.requires.may.2 in
    let parts = c.args.parts.now in
    let node : Node = node_at c.args.problem.now c.requires.may.0 c.requires.may.1 in
    let next : Node = with_decision node c.args.decision in
    let d = c.args.decision in
    let t = c.args.train in
    let within = (let lt : t < length parts.owns.items = omega (arith, c.requires.there, may.state.owns_long) in lt) in
    let each_within = (let lt : t < length parts.each.items = omega (arith, c.requires.there, may.state.placed.long) in lt) in
    let routes = routes_now c.args.problem.now c.requires.may.0 c.requires.may.1 d t parts.owns.items c.index.result.now c.in-Ok.made.own c.in-Ok.made.own.fixings c.in-Ok.made.own.decisions c.in-Ok.made.routes may.state.own c.requires.about within c.index.ensures c.in-Ok.ensures.made.own_is refl refl (subst (λ (u : ℕ). AreRoutesOf (node_at c.args.problem.now c.in-Ok.made.own.fixings c.in-Ok.made.own.decisions) u c.in-Ok.made.routes) c.in-Ok.ensures.made.train_is c.in-Ok.ensures.known) in
    let before = c.replace-before.result in
    let stood = read_as parts.each.items t before c.index_mut.result.now c.replace-before.ensures.value c.index_mut.ensures.value in
    let made = c.replace-before.ensures.after in
    let first = ap (λ (p : Placed). p.first) made ∙ ap (λ (p : Placed). p.first) (read_same parts.each.items t c.index-3.result.now before each_within c.index-3.ensures stood) in
    let placed = placed_now node d t parts.each.items before c.replace-before.new.dest c.none_left.result c.requires.there may.state.placed stood first (subst (λ (p : Placed). AreRoutesOf next t p.routes) (sym made) routes)
    (c.none_left.ensures next t routes) c.if-none_left.false in
    (c.requires.may.0, c.requires.may.1, d, may_train node d c.args.ops.now parts t before c.replace-before.new.dest c.deref.result.now may c.requires.about c.requires.there stood placed c.deref.ensures.value)

pub returns-in-Ok-join_train-clause-decided : goal.returns-in-Ok-join_train-clause-decided
returns-in-Ok-join_train-clause-decided c fixings decisions may =
    let parts = c.args.parts.now in
    let node : Node = node_at c.args.problem.now fixings decisions in
    let next : Node = with_decision node c.args.decision in
    let d = c.args.decision in
    let t = c.args.train in
    let within = (let lt : t < length parts.owns.items = omega (arith, c.requires.there, may.state.owns_long) in lt) in
    let each_within = (let lt : t < length parts.each.items = omega (arith, c.requires.there, may.state.placed.long) in lt) in
    let routes = routes_now c.args.problem.now fixings decisions d t parts.owns.items c.index.result.now c.in-Ok.made.own c.in-Ok.made.own.fixings c.in-Ok.made.own.decisions c.in-Ok.made.routes may.state.own c.requires.about within c.index.ensures c.in-Ok.ensures.made.own_is refl refl (subst (λ (u : ℕ). AreRoutesOf (node_at c.args.problem.now c.in-Ok.made.own.fixings c.in-Ok.made.own.decisions) u c.in-Ok.made.routes) c.in-Ok.ensures.made.train_is c.in-Ok.ensures.known) in
    let before = c.replace-before.result in
    let stood = read_as parts.each.items t before c.index_mut.result.now c.replace-before.ensures.value c.index_mut.ensures.value in
    let made = c.replace-before.ensures.after in
    let first = ap (λ (p : Placed). p.first) made ∙ ap (λ (p : Placed). p.first) (read_same parts.each.items t c.index-3.result.now before each_within c.index-3.ensures stood) in
    let placed = placed_now node d t parts.each.items before c.replace-before.new.dest c.none_left.result c.requires.there may.state.placed stood first (subst (λ (p : Placed). AreRoutesOf next t p.routes) (sym made) routes)
    (c.none_left.ensures next t routes) c.if-none_left.false in
    let own_stood = read_as parts.owns.items t c.replace-own.result c.index_mut-in-Ok-join_train.result.now c.replace-own.ensures.value c.index_mut-in-Ok-join_train.ensures.value in
    let more = own_after fixings decisions d t parts.owns.items c.index.result.now c.in-Ok.made.own may.state.own c.requires.about within c.index.ensures c.in-Ok.ensures.made.own_is in
    train_decides node d t parts.owns.items parts.each.items parts.orders.pairs parts.paths.arcs c.replace-own.result c.replace-own.new.dest before c.replace-before.new.dest c.join_train.new.paths.arcs c.in-Ok-join_train.arcs may.state c.requires.about c.requires.there
    (rw c.replace-own.ensures.after more) (train_placed node d t parts.each.items c.replace-before.new.dest c.requires.about each_within may.state.placed placed) own_stood stood
    (c.in-Ok-join_train.ensures.added fixings decisions d (may_train node d c.args.ops.now parts t before c.replace-before.new.dest c.deref.result.now may c.requires.about c.requires.there stood placed c.deref.ensures.value))

pub returns-in-Err-clause-decided : goal.returns-in-Err-clause-decided
returns-in-Err-clause-decided c fixings decisions may =
    let parts = c.args.parts.now in
    let node : Node = node_at c.args.problem.now fixings decisions in
    let next : Node = with_decision node c.args.decision in
    let d = c.args.decision in
    let t = c.args.train in
    let within = (let lt : t < length parts.owns.items = omega (arith, c.requires.there, may.state.owns_long) in lt) in
    let each_within = (let lt : t < length parts.each.items = omega (arith, c.requires.there, may.state.placed.long) in lt) in
    let routes = routes_now c.args.problem.now fixings decisions d t parts.owns.items c.index.result.now c.in-Ok.made.own c.in-Ok.made.own.fixings c.in-Ok.made.own.decisions c.in-Ok.made.routes may.state.own c.requires.about within c.index.ensures c.in-Ok.ensures.made.own_is refl refl (subst (λ (u : ℕ). AreRoutesOf (node_at c.args.problem.now c.in-Ok.made.own.fixings c.in-Ok.made.own.decisions) u c.in-Ok.made.routes) c.in-Ok.ensures.made.train_is c.in-Ok.ensures.known) in
    let before = c.replace-before.result in
    let stood = read_as parts.each.items t before c.index_mut.result.now c.replace-before.ensures.value c.index_mut.ensures.value in
    let made = c.replace-before.ensures.after in
    let first = ap (λ (p : Placed). p.first) made ∙ ap (λ (p : Placed). p.first) (read_same parts.each.items t c.index-3.result.now before each_within c.index-3.ensures stood) in
    let placed = placed_now node d t parts.each.items before c.replace-before.new.dest c.none_left.result c.requires.there may.state.placed stood first (subst (λ (p : Placed). AreRoutesOf next t p.routes) (sym made) routes)
    (c.none_left.ensures next t routes) c.if-none_left.false in
    let all = train_placed node d t parts.each.items c.replace-before.new.dest c.requires.about each_within may.state.placed placed in (
      refused_at next c.in-Err.no (all_have_routes next (set parts.each.items t c.replace-before.new.dest) all)
          (c.in-Err.ensures.added fixings decisions d (may_train node d c.args.ops.now parts t before c.replace-before.new.dest c.deref.result.now may c.requires.about c.requires.there stood placed c.deref.ensures.value)),
      both_back parts.owns.items parts.each.items parts.orders.pairs parts.paths.arcs c.join_train.new.paths.arcs t before c.replace-before.new.dest stood c.in-Err.ensures.err,
    )
