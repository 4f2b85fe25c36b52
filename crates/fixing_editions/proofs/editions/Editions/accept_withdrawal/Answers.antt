use Rattle.std.proofs.Common.{◌≡◌, ◌<◌, Some, length, sym, subst, arith}
use Rattle.disp_model.specs.declared.fixing.Change.TheVariants.{Fix, Withdraw}
use Rattle.disp_model.specs.declared.reply.Reply.TheVariants.{Accepted}
use Rattle.disp_model.specs.Changes.{change_at}
use Rattle.disp_model.specs.Replies.{IsReply}
use Rattle.fixing_editions.specs.Own.{train_of}
use Rattle.fixing_editions.specs.Edition.{Edition}
use Rattle.fixing_editions.proofs.Accepting.{change_within}
use Rattle.fixing_editions.proofs.Keeping.{kept_less, train_there}
use Rattle.fixing_editions.proofs.editions.Editions.accept_withdrawal.Goals as goal

pub take_back-requires-clause-train : goal.take_back-requires-clause-train
take_back-requires-clause-train c =
    let inside = c.self.inside in
    let there : change_at inside.changes.items c.args.number ≡ Some (Fix c.args.fixing) =
    subst (λ (e : Edition). change_at e.changes c.args.number ≡ Some (Fix c.args.fixing)) (sym c.self.view_is) c.requires.there in
    omega (arith, train_there inside.problem inside.changes.items c.args.number c.args.fixing c.self.invariant.edition there, c.self.invariant.long)

pub take_back-requires-clause-within : goal.take_back-requires-clause-within
take_back-requires-clause-within c =
    let inside = c.self.inside in
    let there : change_at inside.changes.items c.args.number ≡ Some (Fix c.args.fixing) =
    subst (λ (e : Edition). change_at e.changes c.args.number ≡ Some (Fix c.args.fixing)) (sym c.self.view_is) c.requires.there in
    let found = change_within inside.changes.items c.args.number (Fix c.args.fixing) there in
    omega (arith, found.1, found.2, c.self.invariant.withdrawn.long)

pub invariant_of-self-in-Ok : goal.invariant_of-self-in-Ok
invariant_of-self-in-Ok c =
    let inside = c.self.inside in
    let there : change_at inside.changes.items c.args.number ≡ Some (Fix c.args.fixing) =
    subst (λ (e : Edition). change_at e.changes c.args.number ≡ Some (Fix c.args.fixing)) (sym c.self.view_is) c.requires.there in
    let reply : IsReply inside.problem inside.changes.items (Withdraw c.args.number) (Accepted c.args.by) =
    subst (λ (e : Edition). IsReply e.problem e.changes (Withdraw c.args.number) (Accepted c.args.by)) (sym c.self.view_is) c.requires.accepted in
    let train : train_of c.args.fixing < length inside.kept.by_train.items =
    omega (arith, train_there inside.problem inside.changes.items c.args.number c.args.fixing c.self.invariant.edition there, c.self.invariant.long) in
    kept_less inside.problem inside.changes.items c.push.new.self.items c.args.number c.args.by c.args.fixing inside.kept c.take_back.new.kept
    c.self.invariant reply there train c.in_ok-push.ensures.items c.in-Ok.ensures.ok
