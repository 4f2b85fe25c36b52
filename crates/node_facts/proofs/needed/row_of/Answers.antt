use Rattle.std.proofs.Common.{◌≡◌, ℕ, List, length, take, ap, subst, arith}
use Rattle.std.specs.Prelude.{Contains, ◌↔◌}
use Rattle.std.proofs.lemmas.List.{take_all}
use Rattle.route_marks.proofs.Keeping.{row_more}
use Rattle.node_facts.specs.Live.{IsLiveStep}
use Rattle.node_facts.proofs.needed.row_of.Goals as goal

pub loop-next-preserved : goal.loop-next-preserved
loop-next-preserved c =
    rw c.in_ok-push_if.ensures.ok
    (row_more (IsLiveStep c.args.places.now c.args.demands.now c.args.sums.now c.args.op) c.args.operation.now.next
    c.as_slice-next-items.result.now c.loop-next.row c.loop-next.next-index c.is_live-kept.result c.as_slice-next-items.ensures
    c.loop-next-test.true c.is_live-kept.ensures c.loop-next.invariant)

pub returns : goal.returns
returns c =
    let items = c.as_slice-next-items.result.now in
    let kept : ℕ → Type 0 = IsLiveStep c.args.places.now c.args.demands.now c.args.sums.now c.args.op in
    let long : length items ≡ length c.args.operation.now.next = ap (λ (l : List ℕ). length l) c.as_slice-next-items.ensures in
    let whole : take c.loop-next.next-index c.args.operation.now.next ≡ c.args.operation.now.next =
    take_all c.loop-next.next-index c.args.operation.now.next (omega (arith, long, c.loop-next-test.false)) in
    subst (λ (l : List ℕ). (s : ℕ) → Contains c.loop-next.row s ↔ (Contains l s × kept s)) whole c.loop-next.invariant
