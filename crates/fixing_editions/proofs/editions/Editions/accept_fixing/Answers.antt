use Rattle.std.proofs.Common.{sym, subst}
use Rattle.disp_model.specs.declared.fixing.Change.TheVariants.{Fix}
use Rattle.disp_model.specs.declared.reply.Reply.TheVariants.{Accepted}
use Rattle.disp_model.specs.Replies.{IsReply}
use Rattle.fixing_editions.specs.Edition.{Edition}
use Rattle.fixing_editions.proofs.Keeping.{kept_more}
use Rattle.fixing_editions.proofs.editions.Editions.accept_fixing.Goals as goal

pub invariant_of-self-in-Ok : goal.invariant_of-self-in-Ok
invariant_of-self-in-Ok c =
    let inside = c.self.inside in
    let reply : IsReply inside.problem inside.changes.items (Fix c.args.fixing) (Accepted c.args.number) =
    subst (λ (e : Edition). IsReply e.problem e.changes (Fix c.args.fixing) (Accepted c.args.number)) (sym c.self.view_is) c.requires in
    kept_more inside.problem inside.changes.items c.push.new.self.items c.args.fixing c.args.number inside.kept c.enter.new.kept
    c.self.invariant reply c.in_ok-push.ensures.items c.in-Ok.ensures.ok
