use Rattle.std.specs.Prelude.{All, Some}
use Rattle.disp_model.specs.WellFormed.{horizon}
use Rattle.dispatch_core.specs.Kept.{AreCountsKept}
use Rattle.std.proofs.Common.{◌∙◌, ◌≤◌, ℕ, refl, sym, subst}
use Rattle.disp_model.specs.declared.entry.Entry.TheVariants.{Published}
use Rattle.dispatch_core.specs.declared.event.CoreReply.TheVariants as reply
use Rattle.dispatch_core.specs.States.{Core, entered}
use Rattle.dispatch_core.specs.Judging.{IsPlanJudged}
use Rattle.dispatch_core.specs.Replies.{IsCurrent, IsBetter}
use Rattle.dispatch_core.proofs.Publishing.{publishes_sound}
use Rattle.dispatch_core.proofs.Closing.{published_kept, better_at}
use Rattle.dispatch_core.proofs.machine.Core.publish.Goals as goal

pub invariant_of-self-2 : goal.invariant_of-self-2
invariant_of-self-2 c =
    let inside = c.self.inside in
    let core : Core = record { problem = inside.editions.problem; settings = inside.settings; history = inside.history.items; nodes = inside.nodes; ended = inside.ended.items; left = inside.left.items } in
    let cost = c.in-Ok-Costs.cost in
    let judged = subst (IsPlanJudged c.args.self.now c.args.plan) c.in-Ok-Costs.field-0-is c.in-Ok-Costs.ensures in
    let both : IsCurrent core c.args.edition × IsBetter core c.args.plan cost =
    subst (λ (s : Core). IsCurrent s c.args.edition × IsBetter s c.args.plan cost) (sym c.self.view_is)
    (c.in_default.ensures, better_at c.args.self.now c.args.plan cost judged.0 judged.1 c.in_default-no_more_than.ensures) in
    let within = subst (λ (s : Core). All (λ e. e.time ≤ horizon s.problem.trains) c.args.plan) (sym c.self.view_is) c.requires in
    rw (c.push_reserved.ensures.items, c.reserve.ensures.items) (
      subst (λ (n : ℕ). AreCountsKept (entered core (Published c.args.edition c.args.plan cost)) inside.editions (Some cost) inside.mark inside.spent (Some n)) (sym (c.len-place.ensures ∙ inside.history.ok.0))
          (published_kept core inside.editions inside.best inside.mark inside.spent inside.last c.args.edition c.args.plan cost both.1.valid c.self.invariant.0),
      publishes_sound core c.args.edition c.args.plan (reply.Published cost) (entered core (Published c.args.edition c.args.plan cost)) c.self.invariant.1 within (both.0, both.1, refl),
    )
