use Rattle.node_leaves.proofs.Showing.{late_is_forced, late_leaf}
use Rattle.node_leaves.proofs.leaf.leaf_of.Goals as goal

pub longest_walk-requires : goal.longest_walk-requires
longest_walk-requires c = late_is_forced c.args.graph.now c.in-Some.op c.in-Some.ensures

pub returns-in_ok-longest_walk-in-Some : goal.returns-in_ok-longest_walk-in-Some
returns-in_ok-longest_walk-in-Some c = record {
  known = c.requires.known;
  leaf = late_leaf c.args.graph.now c.in-Some.op c.in_ok-longest_walk-in-Some.field-0 c.in-Some.ensures c.in_ok-longest_walk-in-Some.ensures.walk;
}
