use Rattle.std.proofs.Common.{◌≡◌, ◌-◌, length}
use Rattle.route_sets.specs.Sets.{parting}
use Rattle.route_sets.proofs.routes.Routes.parting.Given as goal

abbrev pub invariant-loop : goal.invariant-loop
invariant-loop l =
    parting l.self.marks.items (length l.self.marks.items) l.first
    ≡ parting l.self.marks.items (length l.self.marks.items - l.counter) l.op
