use Rattle.std.proofs.lemmas.Bool.{false≢true}
use Rattle.std.proofs.Common.{◌∙◌, sym}
use Rattle.route_sets.specs.Sweeps.{CanEnd}
use Rattle.route_sets.proofs.Sweeping.{some_there}
use Rattle.route_sets.proofs.sweep.has_way.Goals as goal

pub returns-else-can_end : goal.returns-else-can_end
returns-else-can_end c =
    rw c.len.ensures (some_there c.args.row.now (CanEnd c.args.operation.now c.args.ask c.args.count) (λ end. false≢true (sym c.if-can_end.false ∙ c.can_end.ensures.1 end)))
