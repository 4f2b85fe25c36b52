-- the components so far are with their trains
use Rattle.std.proofs.Common.{◌≡◌, length, take}
use Rattle.problem_facts.specs.Components.{HaveEach}
use Rattle.problem_facts.proofs.components.OwnComponents.of.Given as goal

abbrev pub invariant-loop-component : goal.invariant-loop-component
invariant-loop-component l = record {
  long : length l.each.items ≡ length l.problem.trains;
  have : HaveEach (take l.component-index l.component-items) l.each.items;
}
