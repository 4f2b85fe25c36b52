use Rattle.std.proofs.Common.{◌≡◌, ◌∙◌, take, fold, length, [], ap, arith}
use Rattle.std.specs.Prelude.{nat_eq}
use Rattle.std.proofs.Math.Seq.{take-length}
use Rattle.displib_reader.specs.Names.{with_new}
use Rattle.displib_reader.proofs.Once.{gathered_numbers}
use Rattle.displib_reader.proofs.operation.set_of.Goals as goal

pub returns : goal.returns
returns c =
    let numbers = c.args.numbers.now in
    let all : c.loop-number.number-index ≡ length numbers = omega arith in
    c.loop-number.invariant ∙ ap (λ n. fold (with_new nat_eq) [] (take n numbers)) all ∙ ap (fold (with_new nat_eq) []) (take-length numbers) ∙ gathered_numbers numbers
