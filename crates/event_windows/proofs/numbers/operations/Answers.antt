use Rattle.std.proofs.Common.{◌≡◌, length, take, ap, ◌∙◌, arith, List}
use Rattle.std.specs.Prelude.{sum_by}
use Rattle.std.proofs.lemmas.List.{take_all}
use Rattle.disp_model.specs.declared.train.Operation.{Operation}
use Rattle.event_windows.proofs.Numbering.{lists_all}
use Rattle.event_windows.proofs.numbers.operations.Goals as goal

pub returns : goal.returns
returns c =
    let xs = c.args.problem.now.trains in
    let whole : take c.loop-train.train xs ≡ xs = take_all c.loop-train.train xs (omega (arith, c.loop-train-test.false, c.len-train-end.ensures)) in
    lists_all c.args.problem.now c.loop-train.ops.items (c.loop-train.invariant.long ∙ ap (λ (l : List (List Operation)). sum_by (λ train. length train) l) whole) c.loop-train.invariant.lists
