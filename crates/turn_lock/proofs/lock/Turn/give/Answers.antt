use Rattle.std.proofs.Common.{rules, sym, ◌∙◌, subst}
use Rattle.std.specs.Prelude.{Contains}
use Rattle.turn_lock.proofs.Keeps.{splits}
use Rattle.turn_lock.proofs.lock.Turn.give.Goals as goal

pub split_seat-requires : goal.split_seat-requires
split_seat-requires g c = let same = c.requires.named in (
  search rules,
  search rules,
  splits _ _ _ _ _ _ g.C.Receiver.caller c.requires.first.0 c.requires.first.1 (λ e. c.requires.new_caller.0 (same ∙ e)) (λ h. c.requires.new_caller.1 (subst (Contains _) (sym same) h)),
)
