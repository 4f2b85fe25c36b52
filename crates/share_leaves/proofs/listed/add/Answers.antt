use Rattle.std.proofs.Common.{◌∙◌, ℕ, ◌≤◌, sym, inl, inr, arith}
use Rattle.std.proofs.lemmas.Bool.{false≢true}
use Rattle.disp_model.specs.Node.{Node}
use Rattle.disp_model.specs.Routes.{IsForced}
use Rattle.disp_model.specs.Walks.{lower_of, IsLongest}
use Rattle.disp_model.specs.Shares.{IsBase}
use Rattle.disp_model.specs.declared.train.Op.{Op}
use Rattle.share_leaves.proofs.Basing.{shows_lower, shows_walk}
use Rattle.share_leaves.proofs.listed.add.Goals as goal

lower_is : (node : Node) (o : Op) (base : ℕ) → (IsForced node o → ⊥) → IsBase node o base
    → base ≤ lower_of node.problem node.fixings o
lower_is node o base not (inl (forced, longest)) = absurd (not forced)
lower_is node o base not (inr (free, is)) = omega (arith, is)

longest_is : (node : Node) (o : Op) (base : ℕ) → IsForced node o → IsBase node o base
    → IsLongest node o base
longest_is node o base forced (inl (again, longest)) = longest
longest_is node o base forced (inr (free, is)) = absurd (free forced)

pub returns-then-bases-op-eq0 : goal.returns-then-bases-op-eq0
returns-then-bases-op-eq0 c = shows_lower c.args.graph.now c.args.op c.args.bases.now
    c.args.walks.now c.requires.before (omega (arith, c.if-bases-op-eq0.true))

pub returns-then-not-forced : goal.returns-then-not-forced
returns-then-not-forced c =
    let node = c.args.graph.now in
    let not : IsForced node c.args.op → ⊥ = λ forced. false≢true (sym c.if-not-forced.true
    ∙ (c.forced.ensures node c.args.op.train c.routes.ensures.routes).1 forced) in
    let lower = lower_is node c.args.op c.requires.low.0 not c.requires.low.1 in
    shows_lower node c.args.op c.args.bases.now c.args.walks.now c.requires.before
    (omega (arith, c.requires.low.2, lower))

pub longest_walk-requires : goal.longest_walk-requires
longest_walk-requires c =
    (c.forced.ensures c.args.graph.now c.args.op.train c.routes.ensures.routes).0
    c.if-not-forced.false

pub returns : goal.returns
returns c =
    let node = c.args.graph.now in
    let forced : IsForced node c.args.op =
    (c.forced.ensures node c.args.op.train c.routes.ensures.routes).0 c.if-not-forced.false in
    shows_walk node c.args.op c.args.bases.now c.args.walks.now c.requires.before
    c.in_ok-walk.walk c.push.new.self c.requires.low.0 c.in_ok-push.ensures.ok c.in_ok-walk.ensures.walk
    (longest_is node c.args.op c.requires.low.0 forced c.requires.low.1) c.requires.low.2
