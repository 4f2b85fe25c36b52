use Rattle.std.proofs.Common.{◌==◌, ◌∙◌, add-one, sym}
use Rattle.std.proofs.lemmas.List.Quantifiers.{position-Some}
use Rattle.outside_in_memory.proofs.LineSplits.{to_first, to_end}
use Rattle.outside_in_memory.proofs.mem_lines.first_line.Goals as goal

pub returns-in-Some : goal.returns-in-Some
returns-in-Some c =
    let at = position-Some (λ byte. byte == 10) c.args.bytes.now c.in-Some.at 0 (sym c.line_feed_at.ensures ∙ c.in-Some.is) in
    rw add-one (to_first c.args.bytes.now c.in-Some.at at.0 at.1 at.2)

pub returns-in-None : goal.returns-in-None
returns-in-None c = to_end c.args.bytes.now (sym c.line_feed_at.ensures ∙ c.in-None.is)
