use Rattle.std.proofs.Common.{◌≡◌, ℕ, [], length}
use Rattle.problem_facts.specs.Components.{own_in}
use Rattle.problem_facts.proofs.components.none_yet.Given as goal

abbrev pub invariant-loop-train : goal.invariant-loop-train
invariant-loop-train l = record {
  long : length l.each.items ≡ l._train;
  none : (t : ℕ)
      → own_in l.each.items t ≡ [];
}
