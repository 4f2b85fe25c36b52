use Rattle.std.proofs.Common.{sym, subst}
use Rattle.dispatch_core.specs.Asked.{MayGiveBack}
use Rattle.dispatch_core.specs.States.{Core}
use Rattle.dispatch_core.proofs.Sending.{kept_beside, back_stays, back_told, gone_told, back_returned}
use Rattle.dispatch_core.proofs.machine.Core.give_back.Goals.{in-Back, in-Gone}
use Rattle.dispatch_core.proofs.machine.Core.give_back.Goals as goal

pub invariant_of-self : goal.invariant_of-self
invariant_of-self c =
    let may = subst (λ (core : Core). MayGiveBack core c.args.work c.args.examined) (sym c.self.view_is) c.requires in (
      kept_beside _ _ _ _ _ _ c.self.invariant.0 c.give_back.new.self,
      back_stays _ c.self.invariant.1 c.args.work c.args.examined may c.give_back.result c.give_back.new.self c.give_back.ensures,
    )

pub returns : goal.returns
returns c = elim c.match-give_back.branch [
  | in-Back w ↦ back_returned _ _ c.self.view_is _ _ _ _ _ w.result-is (back_told _ c.self.invariant.1 c.args.work c.args.examined c.give_back.new.self w.in-Back.ensures)
  | in-Gone w ↦ back_returned _ _ c.self.view_is _ _ _ _ _ w.result-is (gone_told _ c.self.invariant.1 c.args.work c.args.examined w.in-Gone.node c.give_back.new.self w.in-Gone.ensures)
]
