use Rattle.std.proofs.Common.{◌≡◌, ◌≤◌, ◌<◌, ◌+◌, ◌∷◌, ◌∙◌, List, ℕ, length, drop, ap, subst, sym, arith}
use Rattle.std.proofs.lemmas.Grind.{common_steps}
use Rattle.std.proofs.lemmas.Bool.Decides.{nat_tests}
use Rattle.std.proofs.lemmas.List.{take_rest}
use Rattle.std.specs.Io.BufRead.{take_through}
use Rattle.disp_outside.specs.Lines.{feed_lines}
use Rattle.outside_in_memory.proofs.LineSplits.{split_at, within_at}
use Rattle.outside_in_memory.proofs.mem_lines.line_from.Goals as goal

pub returns-clause-line : goal.returns-clause-line
returns-clause-line c =
    let rest = take_rest c.args.bytes.now c.args.at in
    let some : 0 < length (drop c.args.at c.args.bytes.now) = grind (arith, common_steps, nat_tests, ap length rest) in
    let line = c.first_line.ensures ∙ ap (take_through 10) rest in
    subst (λ (line : List ℕ). feed_lines (drop c.args.at c.args.bytes.now) ≡ line ∷ feed_lines (drop (c.args.at + length line) c.args.bytes.now)) (sym line) (split_at c.args.bytes.now c.args.at some)

pub returns-clause-within : goal.returns-clause-within
returns-clause-within c =
    let line = c.first_line.ensures ∙ ap (take_through 10) (take_rest c.args.bytes.now c.args.at) in
    subst (λ (line : List ℕ). c.args.at + length line ≤ length c.args.bytes.now) (sym line) (within_at c.args.bytes.now c.args.at c.requires)
