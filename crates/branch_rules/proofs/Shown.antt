-- The paths of a graph show its node.
use Rattle.std.proofs.lemmas.List.Elements.{All-weaker}
use Rattle.disp_model.specs.Node.{Node}
use Rattle.disp_model.specs.Walks.{HasCycle}
use Rattle.incremental_paths.specs.Network.{Network}
use Rattle.event_arcs.specs.Listed.{IsArcOf, AreArcsOf, AreLowersOf}
use Rattle.event_arcs.proofs.Lengths.{same_longest}
use Rattle.plan_builder.specs.Shown.{StandsFor, ShowsNode}

pub shows : (node : Node) (network : Network) → AreArcsOf node network.arcs → AreLowersOf node network.lowers → (HasCycle node → ⊥) → ShowsNode node network
shows node network arcs lowers no_cycle = record {
  longest = λ o total forced longest. (same_longest node network.arcs network.lowers o total arcs lowers no_cycle forced).1 longest;
  sound = All-weaker (IsArcOf node) (StandsFor node) (λ arc is. record { u = is.u; v = is.v; there = (is.arc_length, is.joins); from_is = is.from_is; to_is = is.to_is }) network.arcs arcs.sound;
  complete = λ u v has. let way = arcs.complete u v has.0 has.1 in record { next = way.next; rest = way.rest; follows = way.follows; ends = way.ends };
}
