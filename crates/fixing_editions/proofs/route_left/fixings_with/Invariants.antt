use Rattle.std.proofs.Common.{◌≡◌}
use Rattle.std.specs.Prelude.{map, take}
use Rattle.fixing_editions.proofs.route_left.fixings_with.Given as goal

abbrev pub invariant-loop-numbered : goal.invariant-loop-numbered
invariant-loop-numbered l = l.fixings.items ≡ map (λ n. n.fixing) (take l.numbered-index l.kept)
