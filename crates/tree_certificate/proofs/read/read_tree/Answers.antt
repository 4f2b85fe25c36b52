use Rattle.tree_certificate.proofs.TreesAgain.{only_text}
use Rattle.tree_certificate.proofs.TreesTaken.{found_text}
use Rattle.tree_certificate.proofs.read.read_tree.Goals as goal

pub returns-clause-found : goal.returns-clause-found
returns-clause-found c = found_text c.args.bytes.now c.answer.result c.answer.ensures

pub returns-clause-only : goal.returns-clause-only
returns-clause-only c = λ version read is. only_text c.args.bytes.now version read c.answer.result c.answer.ensures is
