use Rattle.disp_laws.proofs.Costs.{costs_grow, walks_cost}
use Rattle.disp_laws.proofs.laws.costs_grow.Goals as goal

pub returns : goal.returns
returns c = record { later = costs_grow; together = walks_cost }
