-- Where the operation of a component is, and what the component costs at its longest walk.
use Rattle.std.proofs.Common.{◌≡◌, ℕ, ◌-◌, ◌*◌, ◌<◌, ◌≤◌, List, length, sym, subst, arith, inl, inr, mul-le-mul_left}
use Rattle.std.proofs.lemmas.Bool.{cases_lt, le-leb, lt-leb}
use Rattle.disp_model.specs.declared.train.Op.{Op}
use Rattle.disp_model.specs.declared.train.Component.{Component}
use Rattle.disp_model.specs.WellFormed.{horizon, most_of}
use Rattle.disp_model.specs.Numbers.{number_of}
use Rattle.disp_model.specs.Cost.{cost_at}
use Rattle.disp_model.specs.Node.{Node}
use Rattle.disp_model.specs.Routes.{IsForced}
use Rattle.disp_model.specs.Walks.{IsLongest as IsLongestAt, HasCycle}
use Rattle.disp_model.specs.Nodes.{component_op}
use Rattle.disp_laws.proofs.HorizonBounds.{AreSmall, edition_is_small, within_horizon}
use Rattle.disp_laws.proofs.Numbered.{below_count}
use Rattle.incremental_paths.specs.declared.arc.Arc.{Arc}
use Rattle.incremental_paths.specs.Walks.{IsLongestLength}
use Rattle.event_arcs.specs.Listed.{AreArcsOf, AreLowersOf}
use Rattle.event_arcs.proofs.Numbering.{forced_is_op}
use Rattle.event_arcs.proofs.Lengths.{same_longest}
use Rattle.event_graph.specs.Joined.{IsOfEdition}
use Rattle.cost_bound.specs.Arrivals.{IsArrival}

-- what is listed stands for a node without a cycle
pub record AreListed (node : Node) (arcs : List Arc) (lowers : List ℕ) : Type 0 where
  pub arcs_are : AreArcsOf node arcs
  pub lowers_are : AreLowersOf node lowers
  pub no_cycle : HasCycle node → ⊥
  pub edition : IsOfEdition node

pub listed_longest : (node : Node) (arcs : List Arc) (lowers : List ℕ) (o : Op) (number longest : ℕ) → AreListed node arcs lowers → IsForced node o → number ≡ number_of node.problem o → IsLongestLength lowers arcs number longest → IsLongestAt node o longest
listed_longest node arcs lowers o number longest are forced is long = (same_longest node arcs lowers o longest are.arcs_are are.lowers_are are.no_cycle forced).1 (subst (λ (n : ℕ). IsLongestLength lowers arcs n longest) is long)

pub is_node : (node : Node) (lowers : List ℕ) (o : Op) (number : ℕ) → AreLowersOf node lowers → IsForced node o → number ≡ number_of node.problem o → number < length lowers
is_node node lowers o number are forced is = let op = forced_is_op node o forced in omega (arith, is, below_count node.problem o op.train op.op, are.long)

cost_within : (c : Component) (s last : ℕ) → s ≤ last → cost_at c s ≤ most_of last c
cost_within c s last le =
    let product : c.coeff * (s - c.threshold) ≤ c.coeff * last = mul-le-mul_left c.coeff (omega (arith, le)) in
    elim (cases_lt s c.threshold) [
      | inl lt ↦ rw (lt-leb c.threshold s lt) (omega (arith, product))
      | inr ge ↦ rw (le-leb c.threshold s ge) (omega (arith, product))
    ]

pub costs_most : (node : Node) (c : Component) (longest : ℕ) → (HasCycle node → ⊥) → IsOfEdition node → IsLongestAt node (component_op c) longest → cost_at c longest ≤ most_of (horizon node.problem.trains) c
costs_most node c longest no_cycle edition is =
    cost_within c longest (horizon node.problem.trains)
    (within_horizon node is.reached.0 longest (subst AreSmall (sym edition.2) (edition_is_small node.problem edition.0 edition.1)) no_cycle is.reached.3)

pub arrives : (node : Node) (arcs : List Arc) (lowers : List ℕ) (c : Component) (number longest cost : ℕ) → AreListed node arcs lowers → IsForced node (component_op c) → number ≡ number_of node.problem (component_op c)
    → IsLongestLength lowers arcs number longest → cost ≡ cost_at c longest → IsArrival node c (record { number = number; cost = cost })
arrives node arcs lowers c number longest cost are forced is long cost_is =
    let own = listed_longest node arcs lowers (component_op c) number longest are forced is long in
    record { forced = forced; number_is = is; total = longest; longest = own; cost_is = cost_is; most = omega (arith, cost_is, costs_most node c longest are.no_cycle are.edition own) }
