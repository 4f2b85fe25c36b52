use Rattle.std.proofs.Common.{Some, None, refl, inl, inr, arith}
use Rattle.disp_model.specs.declared.fixing.Fixing.TheVariants.{NotBefore}
use Rattle.fixing_editions.proofs.Owning.{number_found, start_found}
use Rattle.fixing_editions.proofs.reply.reply_to_earliest.Goals as goal
use Rattle.fixing_editions.proofs.reply.reply_to_earliest.Goals.{in-Some-start_in+else-start-time, in_default-start_in}

pub returns-in-Some : goal.returns-in-Some
returns-in-Some c =
    let fixing = NotBefore c.args.at_train c.args.at_op c.args.time in
    inr (λ large. omega arith, rw (number_found c.args.at_train fixing c.args.changes.now c.args.kept.now c.number_in.result (Some c.in-Some.number) refl c.requires.kept c.number_in.ensures c.in-Some.is) refl)

pub returns-then-start-time : goal.returns-then-start-time
returns-then-start-time c =
    let fixing = NotBefore c.args.at_train c.args.at_op c.args.time in
    inr (
      λ large. omega arith,
      rw (
        number_found c.args.at_train fixing c.args.changes.now c.args.kept.now c.number_in.result None refl c.requires.kept c.number_in.ensures c.in_default.is,
        start_found c.args.at_train c.args.at_op c.args.changes.now c.args.kept.now c.start_in.result (Some c.in-Some-start_in.start) c.requires.kept c.start_in.ensures c.in-Some-start_in.is,
      ) (inl (c.if-start-time.true, refl)),
    )

pub returns : goal.returns
returns c =
    let fixing = NotBefore c.args.at_train c.args.at_op c.args.time in
    inr (
      λ large. omega arith,
      rw (number_found c.args.at_train fixing c.args.changes.now c.args.kept.now c.number_in.result None refl c.requires.kept c.number_in.ensures c.in_default.is)
          (elim c.match-start_in.branch [
            | in-Some-start_in+else-start-time w ↦ rw (start_found c.args.at_train c.args.at_op c.args.changes.now c.args.kept.now c.start_in.result (Some w.in-Some-start_in.start) c.requires.kept c.start_in.ensures w.in-Some-start_in.is)
                (inr (λ less. omega (arith, less, w.if-start-time.false), c.counted.ensures))
            | in_default-start_in w ↦ rw (start_found c.args.at_train c.args.at_op c.args.changes.now c.args.kept.now c.start_in.result None c.requires.kept c.start_in.ensures w.in_default-start_in.is) c.counted.ensures
          ]),
    )
