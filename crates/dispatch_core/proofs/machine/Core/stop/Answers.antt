use Rattle.std.proofs.Common.{◌≡◌, ◌∙◌, refl, sym, ap, subst}
use Rattle.disp_model.specs.declared.entry.Entry.TheVariants.{Stopped}
use Rattle.disp_model.specs.declared.tree.Verdict.{Verdict}
use Rattle.disp_model.specs.History.{newest}
use Rattle.disp_model.specs.Replay.{spent_on}
use Rattle.dispatch_core.specs.declared.event.CoreReply.TheVariants as reply
use Rattle.dispatch_core.specs.States.{Core, entered}
use Rattle.dispatch_core.specs.Replies.{IsCurrent, IsRipe, IsStopBound}
use Rattle.dispatch_core.proofs.Stopping.{stops_sound}
use Rattle.dispatch_core.proofs.Closing.{stopped_kept, all_spent, ripe_at, some_open, stop_at}
use Rattle.dispatch_core.proofs.machine.Core.stop.Goals as goal

pub returns-in_default-wanted-clause-ok : goal.returns-in_default-wanted-clause-ok
returns-in_default-wanted-clause-ok c =
    let inside = c.self.inside in
    let core : Core = record { problem = inside.editions.problem; settings = inside.settings; history = inside.history.items; nodes = inside.nodes; ended = inside.ended.items; left = inside.left.items } in
    let kept = c.self.invariant.0 in
    let sound = c.self.invariant.1 in (
      c.in_default.ensures,
      subst (λ (s : Core). spent_on (newest s.history) s.history ≡ s.settings.budget) c.self.view_is (all_spent core sound inside.best inside.spent kept.best_is kept.spent_is c.if-self.false),
      subst (λ (s : Core). (v : Verdict) × IsRipe s v) c.self.view_is (ripe_at core sound inside.best inside.spent kept.best_is kept.spent_is c.if-self.false c.in_default-wanted.ensures),
      refl,
    )

pub returns-in_default-bound-clause-ok : goal.returns-in_default-bound-clause-ok
returns-in_default-bound-clause-ok c =
    let inside = c.self.inside in
    let core : Core = record { problem = inside.editions.problem; settings = inside.settings; history = inside.history.items; nodes = inside.nodes; ended = inside.ended.items; left = inside.left.items } in
    let kept = c.self.invariant.0 in
    let sound = c.self.invariant.1 in
    absurd (some_open core sound inside.best inside.spent kept.best_is kept.spent_is c.if-self.false c.in-Some-wanted.field-0 c.in-Some-wanted.ensures c.in_default-bound.ensures)

pub invariant_of-self-2 : goal.invariant_of-self-2
invariant_of-self-2 c =
    let inside = c.self.inside in
    let core : Core = record { problem = inside.editions.problem; settings = inside.settings; history = inside.history.items; nodes = inside.nodes; ended = inside.ended.items; left = inside.left.items } in
    let kept = c.self.invariant.0 in
    let sound = c.self.invariant.1 in
    let current : IsCurrent core c.args.edition = subst (λ (s : Core). IsCurrent s c.args.edition) (sym c.self.view_is) c.in_default.ensures in
    let bound = c.in-Some-bound.bound in
    let stop = stop_at core sound inside.best inside.spent kept.best_is kept.spent_is c.if-self.false c.in-Some-wanted.field-0 c.in-Some-wanted.ensures bound c.in_default-unexamined.ensures c.in-Some-bound.ensures in
    let spent : c.from-spent.result ≡ spent_on (newest core.history) core.history = c.from-spent.ensures ∙ kept.spent_is in
    rw c.in_ok-push.ensures.items (
      stopped_kept core inside.editions inside.best inside.mark inside.spent inside.last c.args.edition c.from-spent.result bound current.newest_is kept,
      stops_sound core c.args.edition (reply.Stopped bound) (entered core (Stopped c.args.edition c.from-spent.result bound)) sound
          (current, stop, ap (λ n. entered core (Stopped c.args.edition n bound)) spent),
    )

pub returns-clause-ok : goal.returns-clause-ok
returns-clause-ok c =
    let inside = c.self.inside in
    let core : Core = record { problem = inside.editions.problem; settings = inside.settings; history = inside.history.items; nodes = inside.nodes; ended = inside.ended.items; left = inside.left.items } in
    let kept = c.self.invariant.0 in
    let sound = c.self.invariant.1 in
    let bound = c.in-Some-bound.bound in
    let stop = stop_at core sound inside.best inside.spent kept.best_is kept.spent_is c.if-self.false c.in-Some-wanted.field-0 c.in-Some-wanted.ensures bound c.in_default-unexamined.ensures c.in-Some-bound.ensures in
    let spent : c.from-spent.result ≡ spent_on (newest core.history) core.history = c.from-spent.ensures ∙ kept.spent_is in (
      c.in_default.ensures,
      subst (λ (s : Core). IsStopBound s bound) c.self.view_is stop,
      rw c.in_ok-push.ensures.items (subst (λ (s : Core). entered core (Stopped c.args.edition c.from-spent.result bound) ≡ entered s (Stopped c.args.edition (spent_on (newest s.history) s.history) bound)) c.self.view_is (ap (λ n. entered core (Stopped c.args.edition n bound)) spent)),
    )
