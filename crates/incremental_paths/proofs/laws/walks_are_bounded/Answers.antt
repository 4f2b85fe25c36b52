use Rattle.incremental_paths.proofs.Bounds.{walks_once, walks_bounded, walks_bounded_by_nodes}
use Rattle.incremental_paths.proofs.laws.walks_are_bounded.Goals as goal

pub returns-clause-once : goal.returns-clause-once
returns-clause-once c = λ lowers arcs none. walks_once arcs none lowers

pub returns-clause-bounded : goal.returns-clause-bounded
returns-clause-bounded c = walks_bounded

pub returns-clause-by_nodes : goal.returns-clause-by_nodes
returns-clause-by_nodes c = walks_bounded_by_nodes
