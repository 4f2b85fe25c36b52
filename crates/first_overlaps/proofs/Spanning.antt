-- Starts are short, and operations end no earlier than they start.
use Rattle.std.proofs.Common.{◌≡◌, ℕ, ◌^◌, ◌<◌, ◌≤◌, List, length, sym, subst, arith}
use Rattle.disp_model.specs.declared.train.Op.{Op}
use Rattle.disp_model.specs.Numbers.{number_of}
use Rattle.disp_model.specs.Node.{Node}
use Rattle.disp_model.specs.Routes.{IsForced}
use Rattle.disp_model.specs.Walks.{IsLongest, HasCycle}
use Rattle.disp_laws.proofs.HorizonBounds.{AreSmall, edition_is_small, within_horizon}
use Rattle.disp_laws.proofs.Numbered.{below_count}
use Rattle.disp_laws.proofs.OpenChoices.{lasts}
use Rattle.incremental_paths.specs.declared.arc.Arc.{Arc}
use Rattle.incremental_paths.specs.Walks.{IsLongestLength}
use Rattle.event_arcs.specs.Listed.{AreArcsOf, AreLowersOf}
use Rattle.event_arcs.proofs.Numbering.{forced_is_op}
use Rattle.event_arcs.proofs.Lengths.{same_longest}
use Rattle.event_arcs.proofs.Shortness.{horizon_small}
use Rattle.event_graph.specs.Joined.{IsOfEdition}
use Rattle.first_overlaps.specs.Spans.{IsSpanOf}

-- where the number of a forced operation is among the nodes
pub is_node : (node : Node) (lowers : List ℕ) (o : Op) (number : ℕ) → AreLowersOf node lowers
    → IsForced node o → number ≡ number_of node.problem o → number < length lowers
is_node node lowers o number are forced is = let op = forced_is_op node o forced in omega (arith, is, below_count node.problem o op.train op.op, are.long)

pub longest_is : (node : Node) (arcs : List Arc) (lowers : List ℕ) (o : Op) (number longest : ℕ)
    → AreArcsOf node arcs → AreLowersOf node lowers → (HasCycle node → ⊥) → IsForced node o
    → number ≡ number_of node.problem o → IsLongestLength lowers arcs number longest
    → IsLongest node o longest
longest_is node arcs lowers o number longest arcs_are lowers_are no_cycle forced is long = (same_longest node arcs lowers o longest arcs_are lowers_are no_cycle forced).1 (subst (λ (n : ℕ). IsLongestLength lowers arcs n longest) is long)

pub longest_small : (node : Node) (o : Op) (longest : ℕ) → (HasCycle node → ⊥) → IsOfEdition node
    → IsLongest node o longest → longest < 2 ^ 53
longest_small node o longest no_cycle edition is =
    let small = subst AreSmall (sym edition.2) (edition_is_small node.problem edition.0 edition.1) in
    omega (arith, within_horizon node is.reached.0 longest small no_cycle is.reached.3, horizon_small node.problem)

-- an operation ends no earlier than it starts
pub ends_behind : (node : Node) (o : Op) (start end : ℕ) → (HasCycle node → ⊥) → IsSpanOf node o start end
    → start ≤ end
ends_behind node o start end no_cycle span = omega (arith, lasts node o start end no_cycle span.forced span.start_is span.end_is)
