use Rattle.dispatch_core.proofs.Taking.{takes_sound, back_sound}
use Rattle.dispatch_core.proofs.laws.works_are_sound.Goals as goal

pub returns : goal.returns
returns c = record {
  takes = λ core edition want told after sound is. takes_sound core sound edition want told after is;
  back = λ core work examined told after sound may is. back_sound core sound work examined told after may is;
}
