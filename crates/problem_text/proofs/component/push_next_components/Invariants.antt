-- the texts so far
use Rattle.std.proofs.Common.{take, string_bytes}
use Rattle.std.specs.List.{flat_map}
use Rattle.plain_values.specs.Texts.{Adds}
use Rattle.problem_text.specs.Texts.{behind_comma, written_component}
use Rattle.problem_text.proofs.component.push_next_components.Given as goal

abbrev pub invariant-loop-component : goal.invariant-loop-component
invariant-loop-component l = Adds (string_bytes l.fn.text) (string_bytes l.text)
    (flat_map (behind_comma written_component) (take l.component-index l.components))
