use Rattle.std.proofs.Common.{rules, ◌≡◌, ℕ, List, replicate, Some, None, ◌-◌, length, get_or, ap, subst, arith}
use Rattle.std.specs.Prelude.{slice_get}
use Rattle.std.proofs.lemmas.Option.{slice_get-get_or}
use Rattle.node_facts.proofs.Holding.{inside_next}
use Rattle.tree_checker.proofs.Entered.{none_left, left_more, left_all}
use Rattle.tree_checker.proofs.entering.entered_of.Goals as goal

pub loop-step-init : goal.loop-step-init
loop-step-init c =
    let empty : c.in_ok-entered.entered.items ≡ replicate (length c.args.operations.now) None = search rules in
    rw c.entry-entry.ensures
    (none_left c.args.operations.now c.args.known.now.order.items c.args.known.now.places.items c.args.known.now.demands.items c.args.bases.now c.args.known.now.entry c.in_ok-entered.entered.items c.requires.order c.requires.places c.requires.entry empty)

pub leave-requires-clause-inside : goal.leave-requires-clause-inside
leave-requires-clause-inside c s next = omega (arith, inside_next c.args.operations.now _ s c.requires.inside next, c.loop-step.invariant.long)

pub loop-step-preserved : goal.loop-step-preserved
loop-step-preserved c =
    let order = c.args.known.now.order.items in
    let read : List ℕ = c.order-order.result.now in
    let step = c.loop-step.step in
    let op = get_or read (length read - 1 - step) 0 in
    let long : length read ≡ length order = ap (λ (l : List ℕ). length l) c.order-order.ensures in
    let here : slice_get read (length read - 1 - step) ≡ Some op = slice_get-get_or read (length read - 1 - step) 0 (omega (arith, c.loop-step-test.true)) in
    let at : slice_get order (length order - 1 - step) ≡ Some op = subst (λ (l : List ℕ). slice_get l (length l - 1 - step) ≡ Some op) c.order-order.ensures here in
    left_more c.args.operations.now order c.args.known.now.places.items c.args.known.now.demands.items c.args.bases.now c.args.known.now.entry step op c.loop-step.entered.items c.leave.new.entered.items c.requires.order c.requires.places
    (omega (arith, long, c.loop-step-test.true)) at c.requires.bases c.leave.ensures.small c.loop-step.invariant c.leave.ensures.leaves

pub returns : goal.returns
returns c =
    let order = c.args.known.now.order.items in
    let long : length c.order-order.result.now ≡ length order = ap (λ (l : List ℕ). length l) c.order-order.ensures in
    left_all c.args.operations.now order c.args.known.now.places.items c.args.known.now.demands.items c.args.bases.now c.args.known.now.entry c.loop-step.step c.loop-step.entered.items c.requires.order c.requires.places
    (omega (arith, long, c.loop-step-test.false)) c.loop-step.invariant
