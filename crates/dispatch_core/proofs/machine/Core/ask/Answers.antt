use Rattle.std.proofs.Common.{◌≡◌, ◌∙◌, ◌∷◌, ◌++◌, [], ℕ, List, sym, ap, subst}
use Rattle.disp_model.specs.declared.entry.Entry.{Entry}
use Rattle.disp_model.specs.declared.entry.Entry.TheVariants.{Asked}
use Rattle.disp_model.specs.declared.entry.Mark.TheVariants.{Working}
use Rattle.disp_model.specs.declared.fixing.Fixing.{Fixing}
use Rattle.disp_model.specs.declared.reply.Reply.{Reply}
use Rattle.disp_model.specs.declared.reply.Reply.TheVariants.{Accepted}
use Rattle.disp_model.specs.Changes.{standing_of}
use Rattle.disp_model.specs.History.{changes_of, last_plan}
use Rattle.disp_model.specs.Replies.{IsReply}
use Rattle.fixing_editions.specs.Edition.{changes_after, with_changes}
use Rattle.open_nodes.specs.Shown.{with_edition}
use Rattle.open_nodes.specs.States.{State}
use Rattle.dispatch_core.specs.Falling.{fallen_all}
use Rattle.dispatch_core.specs.Kept.{IsCostUnder}
use Rattle.dispatch_core.specs.Replies.{Asks}
use Rattle.dispatch_core.proofs.Answering.{core_of, other_whole, accepted_whole}
use Rattle.dispatch_core.proofs.Keeping.{IsWhole}
use Rattle.dispatch_core.proofs.machine.Core.ask.Goals as goal

-- a change that is not accepted: what is kept is right, and it was asked for
other : (c : goal.After-drop-fixings-in_default)
    → IsWhole (core_of c.self.inside.settings c.self.inside.ended.items c.self.inside.left.items c.ask.new.self c.push_reserved.new.self.items c.self.inside.nodes) c.ask.new.self c.self.inside.best c.self.inside.mark c.self.inside.spent c.self.inside.last
    × Asks c.args.self.now c.args.feed c.args.line c.args.change c.in_ok-reply.reply (core_of c.self.inside.settings c.self.inside.ended.items c.self.inside.left.items c.ask.new.self c.push_reserved.new.self.items c.self.inside.nodes)
other c =
    let s = c.self.inside in
    let later : c.push_reserved.new.self.items ≡ s.history.items ++ Asked c.args.feed c.args.line c.args.change c.in_ok-reply.reply ∷ [] =
    c.push_reserved.ensures.items ∙ ap (λ (l : List Entry). l ++ Asked c.args.feed c.args.line c.args.change c.in_ok-reply.reply ∷ []) c.reserve.ensures.items in
    other_whole s.settings s.ended.items s.left.items c.args.self.now s.editions c.ask.new.self s.history.items c.push_reserved.new.self.items s.nodes s.best s.mark s.spent s.last
    c.args.feed c.args.line c.args.change c.self.invariant c.self.view_is c.in_ok-reply.reply c.in_default.not-Accepted c.in_ok-reply.ensures.reply c.in_ok-reply.ensures.kept later

-- an accepted one
accepted : (c : goal.After-drop-fixings-2)
    → IsWhole (core_of c.self.inside.settings c.self.inside.ended.items c.self.inside.left.items c.ask.new.self c.push_reserved.new.self.items c.fall_back.new.nodes) c.ask.new.self c.standing_cost-best.result Working 0 c.self.inside.last
    × Asks c.args.self.now c.args.feed c.args.line c.args.change (Accepted c.in-Accepted.number) (core_of c.self.inside.settings c.self.inside.ended.items c.self.inside.left.items c.ask.new.self c.push_reserved.new.self.items c.fall_back.new.nodes)
accepted c =
    let s = c.self.inside in
    let change = c.args.change in
    let number = c.in-Accepted.number in
    let asked : Entry = Asked c.args.feed c.args.line change (Accepted number) in
    let is : IsReply s.editions.problem s.editions.changes change (Accepted number) =
    subst (λ (r : Reply). IsReply s.editions.problem s.editions.changes change r) c.in-Accepted.is c.in_ok-reply.ensures.reply in
    let now : c.ask.new.self ≡ with_changes s.editions (s.editions.changes ++ change ∷ []) =
    subst (λ (r : Reply). c.ask.new.self ≡ with_changes s.editions (changes_after s.editions.changes change r)) c.in-Accepted.is c.in_ok-reply.ensures.kept in
    let later : c.push_reserved.new.self.items ≡ s.history.items ++ asked ∷ [] =
    c.push_reserved.ensures.items ∙ ap (λ (l : List Entry). l ++ Asked c.args.feed c.args.line change c.in_ok-reply.reply ∷ []) c.reserve.ensures.items
    ∙ ap (λ (r : Reply). s.history.items ++ Asked c.args.feed c.args.line change r ∷ []) c.in-Accepted.is in
    let fixings : c.as_slice.result.now ≡ standing_of (changes_of c.args.self.now.history ++ change ∷ []) = c.as_slice.ensures.value ∙ c.in_ok-fixings.ensures in
    let cost : IsCostUnder c.args.self.now.problem c.as_slice.result.now (last_plan c.args.self.now.history) c.standing_cost-best.result =
    subst (λ (fs : List Fixing). IsCostUnder c.args.self.now.problem fs (last_plan c.args.self.now.history) c.standing_cost-best.result)
    (c.as_slice-2.ensures.value ∙ sym c.as_slice.ensures.value) c.standing_cost-best.ensures in
    let after : c.fall_back.new.nodes ≡ fallen_all (with_edition s.nodes number) c.in_ok-fallen.fallen.items =
    c.fall_back.ensures ∙ ap (λ (l : List ℕ). fallen_all c.rebase.new.self l) c.as_slice-3.ensures.value ∙ ap (λ (t : State). fallen_all t c.in_ok-fallen.fallen.items) c.rebase.ensures in
    accepted_whole s.settings s.ended.items s.left.items c.args.self.now s.editions c.ask.new.self s.history.items c.push_reserved.new.self.items s.nodes s.best s.mark s.spent s.last
    c.args.feed c.args.line change c.self.invariant c.self.view_is number c.in_ok-fallen.fallen.items c.as_slice.result.now c.standing_cost-best.result c.fall_back.new.nodes
    is now later fixings c.in_ok-fallen.ensures cost after

pub invariant_of-self-in_default : goal.invariant_of-self-in_default
invariant_of-self-in_default c = (other c).0

pub returns-in_default-clause-ok : goal.returns-in_default-clause-ok
returns-in_default-clause-ok c = (other c).1

pub invariant_of-self-2 : goal.invariant_of-self-2
invariant_of-self-2 c = (accepted c).0

pub returns-clause-ok : goal.returns-clause-ok
returns-clause-ok c = (accepted c).1
