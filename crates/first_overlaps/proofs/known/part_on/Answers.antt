use Rattle.std.proofs.Common.{◌∙◌, ◌<◌, List, false, length, take, get_or, set, refl, sym, subst, arith}
use Rattle.std.proofs.lemmas.List.{take_more, take_all, length-set, get_or_default}
use Rattle.first_overlaps.specs.declared.holder.Holder.{Holder}
use Rattle.first_overlaps.specs.Holds.{NoneMore, AreParted}
use Rattle.first_overlaps.proofs.Knowing.{none_more, fewer_then, word_kept, word_is, parted_none, parted_more}
use Rattle.first_overlaps.proofs.known.part_on.Goals as goal

abbrev no_holder : Holder
no_holder = record { op = record { train = 0; op = 0 }; number = 0; release = 0 }

pub loop-holder-init : goal.loop-holder-init
loop-holder-init c = record { words = refl; fewer = none_more c.args.apart.now.items; parted = parted_none c.args.spans.now c.args.hold.now c.args.apart.now.items }

pub loop-holder-preserved : goal.loop-holder-preserved
loop-holder-preserved c =
    let hs = c.args.holders.now in
    let i = c.loop-holder.holder-index in
    let h = get_or hs i no_holder in
    let old = c.loop-holder.apart.items in
    let new = set old h.number c.stays_apart.result in
    let within : h.number < length old = omega (arith, c.requires.spans i no_holder c.loop-holder-test.true, c.requires.words, c.loop-holder.invariant.words) in
    let fewer : NoneMore old new = word_kept old h.number c.stays_apart.result within (λ is. get_or_default old h.number false c.index.result.now within ∙ sym c.index.ensures ∙ c.stays_apart.ensures.before is) in
    record {
      words = length-set old h.number c.stays_apart.result ∙ c.loop-holder.invariant.words;
      fewer = fewer_then c.args.apart.now.items old new c.loop-holder.invariant.fewer fewer;
      parted = subst (λ (xs : List Holder). AreParted xs c.args.spans.now c.args.hold.now new) (sym (take_more hs i no_holder c.loop-holder-test.true))
          (parted_more (take i hs) h c.args.spans.now c.args.hold.now old new fewer c.loop-holder.invariant.parted
          (λ other trains holds word. c.stays_apart.ensures.apart (word_is old h.number c.stays_apart.result within word) other trains holds));
    }

pub returns-clause-parted : goal.returns-clause-parted
returns-clause-parted c =
    subst (λ (xs : List Holder). AreParted xs c.args.spans.now c.args.hold.now c.loop-holder.apart.items) (take_all c.loop-holder.holder-index c.args.holders.now (omega (arith, c.loop-holder-test.false))) c.loop-holder.invariant.parted
