use Rattle.std.proofs.Common.{Some, None, refl}
use Rattle.disp_model.specs.declared.fixing.Fixing.TheVariants.{Started}
use Rattle.fixing_editions.proofs.Owning.{number_found, start_found, earliest_found}
use Rattle.fixing_editions.proofs.reply.reply_in_time.Goals as goal

pub returns-in-Some : goal.returns-in-Some
returns-in-Some c =
    let fixing = Started c.args.at_train c.args.at_op c.args.time in
    rw (number_found c.args.at_train fixing c.args.changes.now c.args.kept.now c.number_in.result (Some c.in-Some.number) refl c.requires.kept c.number_in.ensures c.in-Some.is) refl

pub returns-in-Some-start_in : goal.returns-in-Some-start_in
returns-in-Some-start_in c =
    let fixing = Started c.args.at_train c.args.at_op c.args.time in
    rw (
      number_found c.args.at_train fixing c.args.changes.now c.args.kept.now c.number_in.result None refl c.requires.kept c.number_in.ensures c.in_default.is,
      start_found c.args.at_train c.args.at_op c.args.changes.now c.args.kept.now c.start_in.result (Some c.in-Some-start_in.start) c.requires.kept c.start_in.ensures c.in-Some-start_in.is,
    ) refl

pub returns : goal.returns
returns c =
    let fixing = Started c.args.at_train c.args.at_op c.args.time in
    rw (
      number_found c.args.at_train fixing c.args.changes.now c.args.kept.now c.number_in.result None refl c.requires.kept c.number_in.ensures c.in_default.is,
      start_found c.args.at_train c.args.at_op c.args.changes.now c.args.kept.now c.start_in.result None c.requires.kept c.start_in.ensures c.in_default-start_in.is,
      earliest_found c.args.at_train c.args.at_op c.args.changes.now c.args.kept.now c.requires.kept,
    ) c.in_ok-reply.ensures
