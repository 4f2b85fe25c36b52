use Rattle.std.proofs.Common.{sym, ap, subst}
use Rattle.disp_model.specs.declared.entry.Entry.TheVariants.{Settled}
use Rattle.dispatch_core.specs.declared.event.CoreReply.TheVariants as reply
use Rattle.dispatch_core.specs.States.{Core, entered}
use Rattle.dispatch_core.specs.Replies.{IsCurrent, IsRipe}
use Rattle.dispatch_core.proofs.Settled.{settles_sound}
use Rattle.dispatch_core.proofs.Closing.{settled_kept}
use Rattle.dispatch_core.proofs.machine.Core.settle.Goals as goal

pub invariant_of-self-2 : goal.invariant_of-self-2
invariant_of-self-2 c =
    let inside = c.self.inside in
    let core : Core = record { problem = inside.editions.problem; settings = inside.settings; history = inside.history.items; nodes = inside.nodes; ended = inside.ended.items; left = inside.left.items } in
    let current : IsCurrent core c.args.edition = subst (λ (s : Core). IsCurrent s c.args.edition) (sym c.self.view_is) c.in_default.ensures in
    let verdict = c.verdict_of-verdict.result in
    let ripe : IsRipe core verdict = record { best = inside.best; best_is = c.self.invariant.0.best_is; none = c.in_default-wanted.ensures; verdict_is = c.verdict_of-verdict.ensures } in
    rw (c.in_ok-push.ensures.items, c.mark_of-self-inside.ensures) (
      settled_kept core inside.editions inside.best inside.mark inside.spent inside.last c.args.edition verdict c.in_ok-tree.tree current.newest_is c.self.invariant.0,
      settles_sound core c.args.edition (reply.Settled verdict) (entered core (Settled c.args.edition verdict c.in_ok-tree.tree)) c.self.invariant.1
          (current, ripe, ap (λ t. entered core (Settled c.args.edition verdict t)) c.in_ok-tree.ensures),
    )
