use Rattle.tree_certificate.proofs.TreesAgain.{says_one}
use Rattle.tree_certificate.proofs.laws.a_text_says_one_thing.Goals as goal

pub returns : goal.returns
returns c = says_one
