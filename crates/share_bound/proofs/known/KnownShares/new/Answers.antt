use Rattle.std.proofs.Common.{◌≡◌, ◌+◌, ◌∙◌, [], ◌∷◌, None, length, ap, arith}
use Rattle.std.proofs.lemmas.List.{length-append}
use Rattle.share_bound.proofs.Knowing.{none_more, none_known}
use Rattle.share_bound.proofs.known.KnownShares.new.Goals as goal

pub loop-train-preserved : goal.loop-train-preserved
loop-train-preserved c =
    let old = c.loop-train.each.items in
    let long : length c.push.new.self.items ≡ length old + 1 = ap length c.in_ok-push.ensures.items
    ∙ length-append old (None ∷ []) in
    record {
      long = omega (arith, long, c.loop-train.invariant.long);
      none = none_more old c.push.new.self.items c.loop-train.invariant.none
          c.in_ok-push.ensures.items;
    }

pub returns : goal.returns
returns c = λ node is. none_known node _
    (omega (
      arith,
      c.loop-train.invariant.long,
      c.loop-train-test.false,
      ap (λ p. length p.trains) is,
    )) c.loop-train.invariant.none
