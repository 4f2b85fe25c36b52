use Rattle.std.proofs.Common.{◌∙◌, List, drop, refl, ap, subst}
use Rattle.disp_model.specs.declared.fixing.Change.{Change}
use Rattle.disp_model.specs.History.{changes_of}
use Rattle.dispatch_core.specs.Remaining.{AreFixingChanges}
use Rattle.dispatch_core.specs.States.{Core, IsSound}
use Rattle.dispatch_core.proofs.Onward.{all_stays, growth_fills}
use Rattle.dispatch_core.proofs.machine.Core.left.Goals as goal

pub returns-then-are_fixings : goal.returns-then-are_fixings
returns-then-are_fixings c =
    let f = c.args.fragment.now in
    let changes = c.changes-changes.ensures.all ∙ c.self.invariant.0.changes ∙ ap (λ (core : Core). changes_of core.history) c.self.view_is in
    let fixings = subst AreFixingChanges (c.newer.ensures ∙ ap (λ (l : List Change). drop f.work.edition l) changes) (c.if-are_fixings.ensures.0 refl) in
    all_stays c.args.self.now (subst IsSound c.self.view_is c.self.invariant.1) f c.requires fixings

pub left_of-requires : goal.left_of-requires
left_of-requires c =
    growth_fills c.args.self.now c.args.fragment.now c.requires c.problem.result.now c.as_slice-2.result.now c.as_slice-3.result.now
    (c.problem.ensures ∙ c.self.invariant.0.problem ∙ ap (λ (core : Core). core.problem) c.self.view_is) c.as_slice-2.ensures c.as_slice-3.ensures
