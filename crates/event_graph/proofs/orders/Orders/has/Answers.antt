use Rattle.std.proofs.Common.{Bool, true, false, ◌≡◌, ◌∙◌, ◌-◌, map, get_or, ap, refl, arith}
use Rattle.event_graph.specs.Pairs.{Ordered}
use Rattle.event_graph.proofs.Touching.{placed_last, place_on, none_yet, pair_before, none_on, none_there, order_there}
use Rattle.event_graph.proofs.orders.Orders.has.Goals as goal

true_not_false : {b : Bool} → b ≡ true → b ≡ false → ⊥
true_not_false is is_not = cc

pub loop-place-init : goal.loop-place-init
loop-place-init c =
    let keys = c.self.inside.by_first.keys in
    let mapped = c.self.invariant.firsts ∙ ap (λ (o : Ordered). map (λ p. p.from) o.pairs) c.self.view_is in
    (placed_last keys _ c.args.from c.last-place.result (omega arith) c.last-place.ensures, none_yet keys c.args.self.now.pairs c.last-place.result c.args.from c.args.first c.args.second mapped c.last-place.ensures)

pub loop-place-preserved : goal.loop-place-preserved
loop-place-preserved c =
    let keys = c.self.inside.by_first.keys in
    let mapped = c.self.invariant.firsts ∙ ap (λ (o : Ordered). map (λ p. p.from) o.pairs) c.self.view_is in
    let pair = c.index.result.now in
    let some = c.loop-place-test.true in
    let placed = c.loop-place.invariant.0 in
    let at = pair_before keys c.args.self.now.pairs c.loop-place.place c.args.from pair mapped some placed (c.index.ensures ∙ ap (λ (o : Ordered). get_or o.pairs (c.loop-place.place - 1) pair) c.self.view_is) in (
      place_on keys c.args.from c.loop-place.place c.before-place.result some placed c.before-place.ensures,
      none_on keys c.args.self.now.pairs c.loop-place.place c.before-place.result c.args.from pair c.args.first c.args.second mapped some placed c.before-place.ensures at (λ is. true_not_false (c.is_of.ensures.1 is) c.if-is_of.false) c.loop-place.invariant.1,
    )

pub returns-then-is_of : goal.returns-then-is_of
returns-then-is_of c =
    let keys = c.self.inside.by_first.keys in
    let mapped = c.self.invariant.firsts ∙ ap (λ (o : Ordered). map (λ p. p.from) o.pairs) c.self.view_is in
    let pair = c.index.result.now in
    let some = c.loop-place-test.true in
    let placed = c.loop-place.invariant.0 in
    let at = pair_before keys c.args.self.now.pairs c.loop-place.place c.args.from pair mapped some placed (c.index.ensures ∙ ap (λ (o : Ordered). get_or o.pairs (c.loop-place.place - 1) pair) c.self.view_is) in
    (λ yes. order_there keys c.args.self.now.pairs c.loop-place.place c.args.from pair c.args.first c.args.second mapped some placed at (c.is_of.ensures.0 c.if-is_of.true), λ has. refl)

pub returns : goal.returns
returns c = (λ no. absurd (true_not_false no refl), λ has. absurd (none_there c.args.self.now.pairs c.loop-place.place c.args.from c.args.first c.args.second c.loop-place-test.false c.loop-place.invariant.1 has))
