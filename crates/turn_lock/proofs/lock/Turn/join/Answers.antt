use Rattle.std.proofs.Common.{rules, ap, ◌∙◌, subst}
use Rattle.turn_lock.specs.Known.{AreApart}
use Rattle.turn_lock.proofs.Beginnings.{nil_of}
use Rattle.turn_lock.proofs.Keeps.{joins, settles}
use Rattle.turn_lock.proofs.lock.Turn.join.Goals as goal

pub join_seat-requires : goal.join_seat-requires
join_seat-requires g c = (
  search rules,
  search rules,
  nil_of _ c.args.other.bare,
  search rules,
  joins _ _ _ _ _ _ _ _ c.requires.first c.args.other.live c.args.other.idle.0,
)

pub load-requires : goal.load-requires
load-requires g c = (search rules, search rules, settles _ _ _ _ _ _ _ (ap (λ m. m.0.spent) c.join_seat.ensures.2 ∙ c.args.pass.now.live))

pub returns-clause-apart : goal.returns-clause-apart
returns-clause-apart g c = subst (λ m. AreApart m.0.met.kept m.0.met.brought) c.join_seat.ensures.2 c.load.ensures.2.3
