use Rattle.std.proofs.Common.{◌≡◌, codes}
use Rattle.std.specs.Prelude.{pos}
use Rattle.std.specs.Range.{range_inclusive_end, range_inclusive_start}
use Rattle.clap.specs.declared.builder.value_parser.ValueParser.TheVariants.{Signed}
use Rattle.command_words.proofs.Building.{narrowed, reads}
use Rattle.command_words.specs.Program.{needed_rule}
use Rattle.command_words.proofs.program.number.Goals as goal

pub returns-clause-rule : goal.returns-clause-rule
returns-clause-rule c =
    let parser : c.range.result ≡ Signed (pos 0) (pos 2147483647) =
    narrowed c.value_parser.result c.range.result (range_inclusive_start c.new.result)
    (range_inclusive_end c.new.result) 0 4294967295 0 2147483647 c.value_parser.ensures
    c.new.ensures.start c.new.ensures.end c.range.ensures in
    reads c.needed_rule.result c.value_parser-2.result (needed_rule (codes "number")) c.range.result
    (Signed (pos 0) (pos 2147483647)) c.value_parser-2.ensures.others
    c.value_parser-2.ensures.given c.needed_rule.ensures.rule parser
