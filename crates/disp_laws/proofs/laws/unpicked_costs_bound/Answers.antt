use Rattle.disp_model.specs.declared.settings.Rule.{Rule}
use Rattle.disp_model.specs.declared.settings.Rule.TheVariants.{Fixed, Free}
use Rattle.std.specs.Prelude.{◌↔◌, List, None}
use Rattle.disp_model.specs.declared.plan.Event.{Event}
use Rattle.disp_model.specs.Valid.{IsValid}
use Rattle.disp_model.specs.Node.{Node}
use Rattle.disp_model.specs.Earliest.{IsEarliest, IsPicked}
use Rattle.disp_laws.proofs.Bounds.{earliest_costs_bound}
use Rattle.disp_laws.proofs.laws.unpicked_costs_bound.Goals as goal

none_picked : (node : Node) (rule : Rule) → IsPicked node rule None ↔ ((plan : List Event) × IsEarliest node plan × IsValid node.problem node.fixings plan)
none_picked node Fixed = (λ picked. (picked.plan, picked.earliest, picked.valid), λ found. record { plan = found.0; earliest = found.1; valid = found.2 })
none_picked node Free = (λ picked. (picked.plan, picked.earliest, picked.valid), λ found. record { plan = found.0; earliest = found.1; valid = found.2 })

pub returns : goal.returns
returns c = record { exactly = none_picked; costs = earliest_costs_bound }
