use Rattle.std.proofs.Common.{◌≡◌, ◌-◌, ◌++◌, length}
use Rattle.std.specs.Prelude.{option_map}
use Rattle.route_sets.specs.Sets.{follow}
use Rattle.route_sets.proofs.routes.Routes.follow.Given as goal

abbrev pub invariant-loop : goal.invariant-loop
invariant-loop l =
    follow l.self.marks.items (length l.self.marks.items) l.first
    ≡ option_map (λ rest. l.route ++ rest) (follow l.self.marks.items (length l.self.marks.items - l.counter) l.op)
