use Rattle.std.proofs.Common.{◌≡◌, ◌∙◌, ◌∷◌, ◌++◌, [], None, sym, ap, subst, arith}
use Rattle.std.specs.Prelude.{if◌then◌else◌}
use Rattle.cost_bound.proofs.Passing.{ArePassed, pass_first, pass_more, pass_last}
use Rattle.cost_bound.proofs.ends.ends_behind.Goals as goal

pub loop-number-init : goal.loop-number-init
loop-number-init c =
    let problem = c.args.graph.now.problem in
    let none : c.from_vec-ends.result ≡ [] = c.from_vec-ends.ensures
    ∙ c.in_ok-with_capacity.ensures.items in
    subst (ArePassed problem c.args.first c.args.rest.now None c.operation-op.result 0) (sym none)
    (pass_first problem c.args.first c.args.rest.now c.operation-op.result
    c.operation-op.ensures.there c.operation-op.ensures.number)

pub loop-number-preserved : goal.loop-number-preserved
loop-number-preserved c =
    let now = c.loop-number in
    let next = c.operation-next in
    let kept : c.keep.new.ends ≡ (if c.is_end.result then now.ends ++ now.op ∷ [] else now.ends) =
    c.in_ok-keep.ensures in
    pass_more c.args.graph.now.problem c.args.first c.args.rest.now now.before now.op next.result
    now.number-index now.ends c.keep.new.ends now.invariant c.loop-number-test.true
    next.ensures.there next.ensures.number
    (kept ∙ ap (λ b. if b then now.ends ++ now.op ∷ [] else now.ends) c.is_end.ensures)

pub returns : goal.returns
returns c =
    let now = c.loop-number in
    pass_last c.args.graph.now.problem c.args.first c.args.rest.now now.before now.op
    now.number-index now.ends c.push.new.self now.invariant
    (omega (arith, c.loop-number-test.false)) c.in_ok-push.ensures.ok
