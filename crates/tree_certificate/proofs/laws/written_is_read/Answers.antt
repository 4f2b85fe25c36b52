use Rattle.tree_certificate.proofs.TreesAgain.{written_text, written_again}
use Rattle.tree_certificate.proofs.laws.written_is_read.Goals as goal

pub returns-clause-is_text : goal.returns-clause-is_text
returns-clause-is_text c = written_text

pub returns-clause-is_read : goal.returns-clause-is_read
returns-clause-is_read c = written_again
