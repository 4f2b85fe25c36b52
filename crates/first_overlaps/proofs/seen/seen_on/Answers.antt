use Rattle.std.proofs.Common.{List, take, get_or, sym, subst, arith}
use Rattle.std.proofs.lemmas.List.{take_more, take_all, get_or_default}
use Rattle.first_overlaps.specs.declared.holder.Holder.{Holder}
use Rattle.first_overlaps.specs.Holds.{HoldsMeet}
use Rattle.first_overlaps.proofs.Seeing.{same_seen, seen_then, met_none, met_more}
use Rattle.first_overlaps.proofs.seen.seen_on.Goals as goal

abbrev no_holder : Holder
no_holder = record { op = record { train = 0; op = 0 }; number = 0; release = 0 }

pub loop-holder-init : goal.loop-holder-init
loop-holder-init c = record { found = λ found. found; later = same_seen c.args.known; met = met_none c.args.graph.now c.args.hold.now c.args.spans.now c.args.known }

pub seen_beside-seen-requires-clause-holds : goal.seen_beside-seen-requires-clause-holds
seen_beside-seen-requires-clause-holds c =
    let hs = c.args.holders.now in
    let i = c.loop-holder.holder-index in
    (c.requires.hold.0, c.requires.hold.1, λ other holds. c.requires.hold.2 (get_or hs i no_holder) other (i, c.loop-holder-test.true, get_or_default hs i (get_or hs i no_holder) no_holder c.loop-holder-test.true) holds)

pub loop-holder-preserved : goal.loop-holder-preserved
loop-holder-preserved c =
    let hs = c.args.holders.now in
    let i = c.loop-holder.holder-index in
    record {
      found = λ found. c.seen_beside-seen.ensures.found (c.loop-holder.invariant.found found);
      later = seen_then c.args.known c.loop-holder.seen c.seen_beside-seen.result c.loop-holder.invariant.later c.seen_beside-seen.ensures.later;
      met = subst (λ (xs : List Holder). HoldsMeet c.args.graph.now c.args.hold.now c.args.spans.now xs c.seen_beside-seen.result) (sym (take_more hs i no_holder c.loop-holder-test.true))
          (met_more c.args.graph.now c.args.hold.now c.args.spans.now (take i hs) (get_or hs i no_holder) c.loop-holder.seen c.seen_beside-seen.result c.seen_beside-seen.ensures.later c.loop-holder.invariant.met c.seen_beside-seen.ensures.met);
    }

pub returns-clause-met : goal.returns-clause-met
returns-clause-met c =
    subst (λ (xs : List Holder). HoldsMeet c.args.graph.now c.args.hold.now c.args.spans.now xs c.loop-holder.seen) (take_all c.loop-holder.holder-index c.args.holders.now (omega (arith, c.loop-holder-test.false))) c.loop-holder.invariant.met
