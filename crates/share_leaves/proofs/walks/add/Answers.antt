use Rattle.std.proofs.Common.{ℕ, refl, arith, subst, sym, inl, inr}
use Rattle.disp_model.specs.Node.{Node}
use Rattle.disp_model.specs.Nodes.{component_op}
use Rattle.disp_model.specs.Routes.{IsForced}
use Rattle.disp_model.specs.Walks.{IsLongest}
use Rattle.disp_model.specs.Shares.{IsBase}
use Rattle.disp_model.specs.declared.train.Op.{Op}
use Rattle.cost_bound.specs.Bounds.{IsLongWalk}
use Rattle.share_leaves.proofs.Beside.{beside_same, beside_more}
use Rattle.share_leaves.proofs.walks.add.Goals as goal

longest_is : (node : Node) (o : Op) (base : ℕ) → IsForced node o → IsBase node o base
    → IsLongest node o base
longest_is node o base forced (inl (again, longest)) = longest
longest_is node o base forced (inr (free, is)) = absurd (free forced)

pub longest_walk-requires : goal.longest_walk-requires
longest_walk-requires c =
    let node = c.args.graph.now in
    let op = component_op c.args.component.now in
    subst (IsForced node) (sym c.op_of-op.ensures)
    ((c.forced.ensures node op.train c.routes.ensures.routes).0 c.if-not-forced.false)

pub returns-then-cost-eq0 : goal.returns-then-cost-eq0
returns-then-cost-eq0 c =
    beside_same c.args.graph.now c.args.trains.now c.args.place c.args.component.now c.args.walks.now
    c.requires.there c.requires.before

pub returns : goal.returns
returns c =
    let node = c.args.graph.now in
    let op = component_op c.args.component.now in
    let forced : IsForced node op =
    (c.forced.ensures node op.train c.routes.ensures.routes).0 c.if-not-forced.false in
    let longest : IsLongest node op c.base_of.result = longest_is node op c.base_of.result forced
    (subst (λ (o : Op). IsBase node o c.base_of.result) c.op_of-op.ensures c.base_of.ensures.base) in
    beside_more node c.args.trains.now c.args.place c.args.component.now c.args.walks.now _ _
    c.base_of.result c.cost_of-cost.result c.requires.there
    (c.is_other.ensures c.if-not-is_other.false) longest c.cost_of-cost.ensures refl
    (subst (λ (o : Op). IsLongWalk node o c.in_ok-walk.walk) c.op_of-op.ensures
    c.in_ok-walk.ensures.walk) c.in_ok-push.ensures.ok
    (omega (arith, c.saturating_add-walks.ensures)) c.requires.before
