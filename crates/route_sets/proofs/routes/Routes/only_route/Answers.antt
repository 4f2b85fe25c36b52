use Rattle.route_sets.proofs.Following.{only_route_is}
use Rattle.route_sets.proofs.routes.Routes.only_route.Goals as goal

pub returns : goal.returns
returns c node t are = only_route_is node t c.args.self.now c.in_ok-found.found are c.if-not-self.false (c.in_ok-found.ensures)
