use Rattle.std.proofs.Common.{refl}
use Rattle.disp_model.specs.declared.entry.Entry.TheVariants.{Unread}
use Rattle.dispatch_core.specs.States.{Core}
use Rattle.dispatch_core.proofs.Asking.{unread_sound}
use Rattle.dispatch_core.proofs.Keeping.{silent_whole}
use Rattle.dispatch_core.proofs.machine.Core.unread.Goals as goal

pub invariant_of-self-2 : goal.invariant_of-self-2
invariant_of-self-2 c =
    let s = c.self.inside in
    let core : Core =
    record { problem = s.editions.problem; settings = s.settings; history = s.history.items; nodes = s.nodes; ended = s.ended.items; left = s.left.items } in
    silent_whole core s.editions s.best s.mark s.spent s.last c.self.invariant c.push.new.self.items (Unread c.args.feed c.args.line c.args.why)
    (record { change = refl; plan = λ b. refl; mark = λ n b. refl; splits = λ n. refl }) (unread_sound core c.args.feed c.args.line c.args.why c.self.invariant.1) c.in_ok-push.ensures.items
