-- the components so far are added
use Rattle.std.proofs.Common.{take}
use Rattle.problem_facts.specs.Adding.{AddsComponents}
use Rattle.problem_facts.proofs.adding.add_components.Given as goal

abbrev pub invariant-loop-component : goal.invariant-loop-component
invariant-loop-component g l = AddsComponents (λ old c new. goal.F-post g l.more old c new) l.train (take l.component-index l.components) l.fn.kept.items l.kept.items
