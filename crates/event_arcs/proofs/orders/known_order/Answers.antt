use Rattle.std.proofs.Common.{◌∙◌, sym, arith}
use Rattle.std.proofs.lemmas.Bool.{false≢true}
use Rattle.disp_model.specs.Node.{node_at}
use Rattle.event_arcs.proofs.Numbering.{forced_is_op}
use Rattle.event_arcs.proofs.Offsets.{placed_at}
use Rattle.event_arcs.proofs.Deciding.{min_read, number_small, number_from}
use Rattle.event_arcs.proofs.orders.known_order.Goals as goal

pub returns-then-not-forced : goal.returns-then-not-forced
returns-then-not-forced c = λ fixings decisions are one other conflicts.
    let node = node_at c.args.problem.now fixings decisions in
    let look = c.in_ok-before.ensures.lookup in
    let is = placed_at node c.args.each.now c.args.a.train c.in_ok-before.before.now are look.3.0 look.1 in
    false≢true (sym c.if-not-forced.true ∙ (c.forced.ensures node c.args.a.train is.are_routes).1 one)

pub returns-then-not-forced-2 : goal.returns-then-not-forced-2
returns-then-not-forced-2 c = λ fixings decisions are one other conflicts.
    let node = node_at c.args.problem.now fixings decisions in
    let look = c.in_ok-behind.ensures.lookup in
    let is = placed_at node c.args.each.now c.args.b.train c.in_ok-behind.behind.now are look.3.0 look.1 in
    false≢true (sym c.if-not-forced-2.true ∙ (c.forced-2.ensures node c.args.b.train is.are_routes).1 other)

pub operation-requires : goal.operation-requires
operation-requires c =
    let node = node_at c.args.problem.now c.requires.0 c.requires.1 in
    let look = c.in_ok-before.ensures.lookup in
    let is = placed_at node c.args.each.now c.args.a.train c.in_ok-before.before.now c.requires.2 look.3.0 look.1 in
    forced_is_op node c.args.a ((c.forced.ensures node c.args.a.train is.are_routes).0 c.if-not-forced.false)

pub overflow_add-result : goal.overflow_add-result
overflow_add-result c =
    let node = node_at c.args.problem.now c.requires.0 c.requires.1 in
    let look = c.in_ok-before.ensures.lookup in
    let is = placed_at node c.args.each.now c.args.a.train c.in_ok-before.before.now c.requires.2 look.3.0 look.1 in
    omega (arith, number_from node c.args.a.train c.args.a.op c.in_ok-before.before.now is, number_small node c.args.a ((c.forced.ensures node c.args.a.train is.are_routes).0 c.if-not-forced.false))

pub next_number-requires : goal.next_number-requires
next_number-requires c =
    let node = node_at c.args.problem.now c.requires.0 c.requires.1 in
    let look = c.in_ok-before.ensures.lookup in
    (node, placed_at node c.args.each.now c.args.a.train c.in_ok-before.before.now c.requires.2 look.3.0 look.1)

pub overflow_add-result-2 : goal.overflow_add-result-2
overflow_add-result-2 c =
    let node = node_at c.args.problem.now c.requires.0 c.requires.1 in
    let look = c.in_ok-behind.ensures.lookup in
    let is = placed_at node c.args.each.now c.args.b.train c.in_ok-behind.behind.now c.requires.2 look.3.0 look.1 in
    omega (arith, number_from node c.args.b.train c.args.b.op c.in_ok-behind.behind.now is, number_small node c.args.b ((c.forced-2.ensures node c.args.b.train is.are_routes).0 c.if-not-forced-2.false))

pub returns : goal.returns
returns c = λ fixings decisions are.
    let problem = c.args.problem.now in
    let node = node_at problem fixings decisions in
    let look = c.in_ok-before.ensures.lookup in
    let before = placed_at node c.args.each.now c.args.a.train c.in_ok-before.before.now are look.3.0 look.1 in
    let look_behind = c.in_ok-behind.ensures.lookup in
    let behind = placed_at node c.args.each.now c.args.b.train c.in_ok-behind.behind.now are look_behind.3.0 look_behind.1 in
    let forced = (c.forced.ensures node c.args.a.train before.are_routes).0 c.if-not-forced.false in
    let conflict = c.in_ok-release.ensures in
    record {
      first_forced = forced;
      second_forced = (c.forced-2.ensures node c.args.b.train behind.are_routes).0 c.if-not-forced-2.false;
      conflicts = conflict.conflicts;
      from_is = number_from node c.args.a.train c.args.a.op c.in_ok-before.before.now before;
      to_is = number_from node c.args.b.train c.args.b.op c.in_ok-behind.behind.now behind;
      min_is = min_read problem c.args.a c.operation.result.now c.operation.ensures;
      release_is = conflict.release_is;
      next_is = c.next_number.ensures node before forced;
    }
