use Rattle.std.proofs.Common.{◌∙◌}
use Rattle.dispatch_core.proofs.Sending.{kept_beside, asked_by, taken_stays, take_returned}
use Rattle.dispatch_core.proofs.machine.Core.take.Goals.{in-Ripe, in-Taken, in-AllOut, in-Dry}
use Rattle.dispatch_core.proofs.machine.Core.take.Goals as goal

pub invariant_of-self-2 : goal.invariant_of-self-2
invariant_of-self-2 c =
    let kept = c.self.invariant.0 in
    let given = asked_by _ _ c.self.view_is _ _ _ _ _ kept c.args.edition c.args.want _ _ c.in_default.ensures c.free-free.ensures (c.len.ensures ∙ c.self.inside.history.ok.0) c.in_ok-take.field-0 c.take.new.self c.in_ok-take.ensures.ok in
    (kept_beside _ _ _ _ _ _ kept c.take.new.self, taken_stays _ c.self.invariant.1 c.args.edition c.args.want c.self.inside.spent c.in_ok-take.field-0 c.take.new.self given)

pub returns-clause-ok : goal.returns-clause-ok
returns-clause-ok c =
    let kept = c.self.invariant.0 in
    let given = asked_by _ _ c.self.view_is _ _ _ _ _ kept c.args.edition c.args.want _ _ c.in_default.ensures c.free-free.ensures (c.len.ensures ∙ c.self.inside.history.ok.0) c.in_ok-take.field-0 c.take.new.self c.in_ok-take.ensures.ok in
    let returned = take_returned _ _ c.self.view_is c.self.invariant.1 c.args.edition c.args.want c.self.inside.spent c.in_ok-take.field-0 in
    elim c.match-branch-2.branch [
      | in-Ripe w ↦ returned _ c.take.new.self given w.in-Ripe.is _ w.result-is
      | in-Taken w ↦ returned _ c.take.new.self given w.in-Taken.is _ w.result-is
      | in-AllOut w ↦ returned _ c.take.new.self given w.in-AllOut.is _ w.result-is
      | in-Dry w ↦ returned _ c.take.new.self given w.in-Dry.is _ w.result-is
    ]
