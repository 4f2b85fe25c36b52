use Rattle.std.proofs.Common.{◌≡◌, ◌-◌, ◌++◌}
use Rattle.std.specs.Prelude.{reverse}
use Rattle.open_nodes.specs.States.{decisions_to}
use Rattle.open_nodes.proofs.path.gathered.Given as goal

abbrev pub invariant-loop : goal.invariant-loop
invariant-loop l = decisions_to l.at (l.most - l.counter) l.places ++ reverse l.up.items ≡ decisions_to l.fn.start l.fn.most l.fn.places
