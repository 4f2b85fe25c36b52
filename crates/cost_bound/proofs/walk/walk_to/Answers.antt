use Rattle.std.proofs.Common.{◌<◌, ℕ, List, sym, subst}
use Rattle.std.specs.Prelude.{All}
use Rattle.disp_model.specs.WellFormed.{operation_count}
use Rattle.cost_bound.specs.Shortened.{AreEndsOver}
use Rattle.cost_bound.proofs.Arriving.{AreListed, is_node}
use Rattle.cost_bound.proofs.Walking.{walk_below, long_ends}
use Rattle.cost_bound.proofs.walk.walk_to.Goals as goal

pub walk-requires : goal.walk-requires
walk-requires c = is_node c.args.graph.now c.paths.result.now.lowers c.requires.0 c.args.number c.paths.ensures.lowers c.requires.1 c.requires.2

pub ends_over-requires : goal.ends_over-requires
ends_over-requires c =
    let node = c.args.graph.now in
    let network = c.paths.result.now in
    let are : AreListed node network.arcs network.lowers = record { arcs_are = c.paths.ensures.arcs; lowers_are = c.paths.ensures.lowers; no_cycle = c.paths.ensures.no_cycle; edition = c.paths.ensures.edition } in
    subst (All (λ n. n < operation_count node.problem.trains)) (sym c.deref.ensures.value) (walk_below node network.arcs network.lowers c.requires.0 c.args.number c.in_ok-numbers.numbers.items are c.requires.1 c.requires.2 c.in_ok-numbers.ensures.walk)

pub returns-clause-walk : goal.returns-clause-walk
returns-clause-walk c o forced is =
    let node = c.args.graph.now in
    let network = c.paths.result.now in
    let are : AreListed node network.arcs network.lowers = record { arcs_are = c.paths.ensures.arcs; lowers_are = c.paths.ensures.lowers; no_cycle = c.paths.ensures.no_cycle; edition = c.paths.ensures.edition } in
    (long_ends node network.arcs network.lowers o c.args.number c.in_ok-numbers.numbers.items c.in_ok-ends.ends are forced is c.in_ok-numbers.ensures.walk c.in_ok-numbers.ensures.longest
    (subst (λ (l : List ℕ). AreEndsOver node.problem l c.in_ok-ends.ends) c.deref.ensures.value c.in_ok-ends.ensures)).0

pub returns-clause-short : goal.returns-clause-short
returns-clause-short c =
    let node = c.args.graph.now in
    let network = c.paths.result.now in
    let are : AreListed node network.arcs network.lowers = record { arcs_are = c.paths.ensures.arcs; lowers_are = c.paths.ensures.lowers; no_cycle = c.paths.ensures.no_cycle; edition = c.paths.ensures.edition } in
    (long_ends node network.arcs network.lowers c.requires.0 c.args.number c.in_ok-numbers.numbers.items c.in_ok-ends.ends are c.requires.1 c.requires.2 c.in_ok-numbers.ensures.walk c.in_ok-numbers.ensures.longest
    (subst (λ (l : List ℕ). AreEndsOver node.problem l c.in_ok-ends.ends) c.deref.ensures.value c.in_ok-ends.ensures)).1
