use Rattle.disp_laws.proofs.RouteSearch.{allowed_routes, has_route_or_not, is_forced_or_not}
use Rattle.disp_laws.proofs.laws.allowed_routes_are_listed.Goals as goal

pub returns : goal.returns
returns c = record {
  listed = λ node t there.
      let all = allowed_routes node t there in
      (all.routes, λ route. (λ allowed. all.each route allowed, λ found. all.only route found));
  route = has_route_or_not;
  forced = is_forced_or_not;
}
