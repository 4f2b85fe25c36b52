use Rattle.std.proofs.Common.{refl, sym, subst}
use Rattle.disp_model.specs.declared.entry.Entry.TheVariants.{Shown}
use Rattle.disp_model.specs.History.{IsStanding}
use Rattle.dispatch_core.specs.declared.event.CoreReply.TheVariants as reply
use Rattle.dispatch_core.specs.States.{Core, entered}
use Rattle.dispatch_core.proofs.Asking.{shows_sound}
use Rattle.dispatch_core.proofs.Keeping.{silent_whole}
use Rattle.dispatch_core.proofs.machine.Core.show.Goals as goal

pub invariant_of-self-2 : goal.invariant_of-self-2
invariant_of-self-2 c =
    let s = c.self.inside in
    let core : Core =
    record { problem = s.editions.problem; settings = s.settings; history = s.history.items; nodes = s.nodes; ended = s.ended.items; left = s.left.items } in
    let standing = c.standing-standing.result in
    let is : IsStanding core.problem core.history standing = subst (λ (t : Core). IsStanding t.problem t.history standing) (sym c.self.view_is) c.standing-standing.ensures in
    silent_whole core s.editions s.best s.mark s.spent s.last c.self.invariant c.push.new.self.items (Shown c.args.feed c.args.line standing)
    (record { change = refl; plan = λ b. refl; mark = λ n b. refl; splits = λ n. refl })
    (shows_sound core c.args.feed c.args.line (reply.Shown standing) (entered core (Shown c.args.feed c.args.line standing)) c.self.invariant.1 (record { standing_is = is; after_is = refl }))
    c.in_ok-push.ensures.items
