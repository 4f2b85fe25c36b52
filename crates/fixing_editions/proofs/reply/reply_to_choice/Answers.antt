use Rattle.std.proofs.Common.{Some, None, refl, inr}
use Rattle.disp_model.specs.Train.{IsSuccessor}
use Rattle.disp_model.specs.Valid.{train_at}
use Rattle.disp_model.specs.declared.fixing.Fixing.TheVariants.{Chosen}
use Rattle.fixing_editions.proofs.Owning.{number_found, next_found}
use Rattle.fixing_editions.proofs.reply.reply_to_choice.Goals as goal

pub returns-in-Some : goal.returns-in-Some
returns-in-Some c =
    let fixing = Chosen c.args.at_train c.args.at_op c.args.next in
    let next : IsSuccessor (train_at c.args.problem.now c.args.at_train) c.args.at_op c.args.next =
    rw c.requires.operation (c.is_successor.ensures.0 c.if-not-is_successor.false) in
    inr (λ none. none next, rw (number_found c.args.at_train fixing c.args.changes.now c.args.kept.now c.number_in.result (Some c.in-Some.number) refl c.requires.kept c.number_in.ensures c.in-Some.is) refl)

pub returns-in-Some-next_in : goal.returns-in-Some-next_in
returns-in-Some-next_in c =
    let fixing = Chosen c.args.at_train c.args.at_op c.args.next in
    let next : IsSuccessor (train_at c.args.problem.now c.args.at_train) c.args.at_op c.args.next =
    rw c.requires.operation (c.is_successor.ensures.0 c.if-not-is_successor.false) in
    inr (
      λ none. none next,
      rw (
        number_found c.args.at_train fixing c.args.changes.now c.args.kept.now c.number_in.result None refl c.requires.kept c.number_in.ensures c.in_default.is,
        next_found c.args.at_train c.args.at_op c.args.changes.now c.args.kept.now c.next_in.result (Some c.in-Some-next_in.next) c.requires.kept c.next_in.ensures c.in-Some-next_in.is,
      ) refl,
    )

pub returns : goal.returns
returns c =
    let fixing = Chosen c.args.at_train c.args.at_op c.args.next in
    let next : IsSuccessor (train_at c.args.problem.now c.args.at_train) c.args.at_op c.args.next =
    rw c.requires.operation (c.is_successor.ensures.0 c.if-not-is_successor.false) in
    inr (
      λ none. none next,
      rw (
        number_found c.args.at_train fixing c.args.changes.now c.args.kept.now c.number_in.result None refl c.requires.kept c.number_in.ensures c.in_default.is,
        next_found c.args.at_train c.args.at_op c.args.changes.now c.args.kept.now c.next_in.result None c.requires.kept c.next_in.ensures c.in_default-next_in.is,
      ) c.in_ok-reply.ensures,
    )
