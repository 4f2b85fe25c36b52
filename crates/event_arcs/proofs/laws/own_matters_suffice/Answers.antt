use Rattle.event_arcs.proofs.Owning.{own_routes}
use Rattle.event_arcs.proofs.laws.own_matters_suffice.Goals as goal

pub returns : goal.returns
returns c = λ problem fixings own_fixings decisions own_decisions t routes same_fixings same_decisions are.
    own_routes problem fixings own_fixings decisions own_decisions t same_fixings same_decisions routes are
