use Rattle.near_plans.proofs.Finding.{beside_itself, beside_at, beside_beside}
use Rattle.near_plans.proofs.neighbours.try_region.Goals as goal

pub loop-init : goal.loop-init
loop-init c = (beside_itself c.take_over.new.graph, λ root beside found. found)

pub loop-preserved : goal.loop-preserved
loop-preserved c =
    let inv = c.loop.invariant in (
      beside_beside c.take_over.new.graph c.loop.graph c.try_round.new.graph inv.0 c.try_round.ensures.beside,
      λ root beside found. c.try_round.ensures.plan root (beside_beside root c.take_over.new.graph c.loop.graph beside inv.0) (inv.1 root beside found),
    )

pub returns-then-is_over-clause-plan : goal.returns-then-is_over-clause-plan
returns-then-is_over-clause-plan c =
    λ root beside found.
    let back = beside_beside root c.args.graph.now c.rewind.new.graph beside (beside_at c.args.graph.now c.rewind.new.graph _ c.rewind.ensures) in
    c.loop.invariant.1 root (beside_beside root c.rewind.new.graph c.take_over.new.graph back c.take_over.ensures) found

pub returns-in_err-try_round-clause-plan : goal.returns-in_err-try_round-clause-plan
returns-in_err-try_round-clause-plan c =
    λ root beside found.
    let inv = c.loop.invariant in
    let back = beside_beside root c.args.graph.now c.rewind.new.graph beside (beside_at c.args.graph.now c.rewind.new.graph _ c.rewind.ensures) in
    let taken = beside_beside root c.rewind.new.graph c.take_over.new.graph back c.take_over.ensures in
    c.try_round.ensures.plan root (beside_beside root c.take_over.new.graph c.loop.graph taken inv.0) (inv.1 root taken found)

pub returns-clause-plan : goal.returns-clause-plan
returns-clause-plan c =
    λ root beside found.
    let back = beside_beside root c.args.graph.now c.rewind.new.graph beside (beside_at c.args.graph.now c.rewind.new.graph _ c.rewind.ensures) in
    c.loop.invariant.1 root (beside_beside root c.rewind.new.graph c.take_over.new.graph back c.take_over.ensures) found
