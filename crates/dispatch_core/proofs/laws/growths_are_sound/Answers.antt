use Rattle.dispatch_core.proofs.Growing.{grow_sound}
use Rattle.dispatch_core.proofs.laws.growths_are_sound.Goals as goal

pub returns : goal.returns
returns c = λ core searcher fragment told after sound growth is. grow_sound core sound searcher fragment growth told after is
