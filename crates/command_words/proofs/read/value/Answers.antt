use Rattle.std.proofs.Common.{◌∙◌}
use Rattle.clap.specs.Words.{found_of}
use Rattle.command_words.proofs.Rows.{first_is}
use Rattle.command_words.proofs.read.value.Goals as goal

pub returns : goal.returns
returns c = c.get_str.ensures ∙ first_is (found_of c.args.found.now) c.args.id.now
