use Rattle.std.proofs.Common.{◌≡◌, ◌+◌, ◌∙◌, [], ◌∷◌, length, ap, arith}
use Rattle.std.proofs.lemmas.List.{length-append}
use Rattle.problem_facts.proofs.Owned.{none_more}
use Rattle.problem_facts.proofs.components.none_yet.Goals as goal

pub loop-train-preserved : goal.loop-train-preserved
loop-train-preserved c =
    let old = c.loop-train.each.items in
    let long : length c.push.new.self.items ≡ length old + 1 = ap length c.in_ok-push.ensures.items
    ∙ length-append old (c.new.result ∷ []) in
    record {
      long = omega (arith, long, c.loop-train.invariant.long);
      none = none_more old c.push.new.self.items c.new.result c.loop-train.invariant.none
          c.new.ensures c.in_ok-push.ensures.items;
    }
