use Rattle.std.specs.Prelude.{◌≡◌}
use Rattle.rehearsals.proofs.state.Rehearsal.go_back.Given as goal

abbrev pub invariant-loop : goal.invariant-loop
invariant-loop l = l.self.plan ≡ l.initial.self.plan
