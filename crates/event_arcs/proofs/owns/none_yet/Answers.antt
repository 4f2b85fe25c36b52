use Rattle.std.proofs.Common.{◌≡◌, ◌+◌, ◌∙◌, [], ◌∷◌, length, ap, arith}
use Rattle.std.proofs.lemmas.List.{length-append}
use Rattle.event_arcs.specs.declared.owns.Own.{Own}
use Rattle.event_arcs.proofs.Owning.{own_none_more}
use Rattle.event_arcs.proofs.owns.none_yet.Goals as goal

pub loop-train-preserved : goal.loop-train-preserved
loop-train-preserved c =
    let old = c.loop-train.owns.items in
    let own : Own = record { fixings = c.new.result; decisions = c.new-in-loop-train.result } in
    let long : length c.push.new.self.items ≡ length old + 1 = ap length c.in_ok-push.ensures.items ∙ length-append old (own ∷ []) in
    record {
      long = omega (arith, long, c.loop-train.invariant.long);
      none = own_none_more old c.push.new.self.items own c.loop-train.invariant.none c.new.ensures c.new-in-loop-train.ensures c.in_ok-push.ensures.items;
    }
