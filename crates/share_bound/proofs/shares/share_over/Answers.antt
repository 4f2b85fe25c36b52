use Rattle.std.proofs.Common.{◌≡◌, ◌∙◌, ◌<◌, List, length, sym, ap, subst, arith}
use Rattle.std.proofs.lemmas.Result.{IfOk-weaker}
use Rattle.disp_model.specs.declared.train.Operation.{Operation}
use Rattle.disp_model.specs.declared.problem.Problem.{Problem}
use Rattle.disp_model.specs.Valid.{train_at}
use Rattle.route_marks.specs.Marks.{IsLaid}
use Rattle.share_bound.specs.Prices.{HasOwn}
use Rattle.share_bound.proofs.Owning.{has_own}
use Rattle.share_bound.proofs.Sharing.{rows_read}
use Rattle.share_bound.proofs.shares.share_over.Goals as goal

pub routes-routes-requires : goal.routes-routes-requires
routes-routes-requires c = subst (λ (p : Problem). c.args.train < length p.trains)
    (sym c.requires.node) c.requires.train

pub of_train-own-requires : goal.of_train-own-requires
of_train-own-requires c = omega (arith, c.requires.train, c.requires.own.long)

pub least_over-requires-clause-laid : goal.least_over-requires-clause-laid
least_over-requires-clause-laid c =
    let node = c.args.graph.now in
    let same : train_at node.problem c.args.train ≡ c.train_of-operations.result.now = ap
    (λ (p : Problem). train_at p c.args.train) c.requires.node
    ∙ sym c.train_of-operations.ensures in
    let are = rows_read node c.args.train c.order-order.result.now _ c.rows-rows.result.now _
    c.order-order.ensures c.rows-rows.ensures.kept
    (c.rows-rows.ensures.allowed node c.args.train c.routes-routes.ensures.routes
    c.routes-routes.ensures.one) in
    subst (λ (l : List Operation). IsLaid l c.order-order.result.now c.rows-rows.result.now) same
    are.laid

pub least_over-requires-clause-long : goal.least_over-requires-clause-long
least_over-requires-clause-long c = c.requires.long
    ∙ ap (λ (l : List Operation). length l) (sym c.train_of-operations.ensures)

pub returns : goal.returns
returns c =
    let node = c.args.graph.now in
    let t = c.args.train in
    let same : train_at node.problem t ≡ c.train_of-operations.result.now = ap
    (λ (p : Problem). train_at p t) c.requires.node ∙ sym c.train_of-operations.ensures in
    let are = rows_read node t c.order-order.result.now _ c.rows-rows.result.now _
    c.order-order.ensures c.rows-rows.ensures.kept
    (c.rows-rows.ensures.allowed node t c.routes-routes.ensures.routes
    c.routes-routes.ensures.one) in
    let listed : HasOwn c.args.problem.now t c.of_train-own.result.now = subst
    (HasOwn c.args.problem.now t) (sym c.of_train-own.ensures)
    (has_own c.args.problem.now c.args.components.now t c.requires.own c.requires.train) in
    let own : HasOwn node.problem t c.of_train-own.result.now = subst
    (λ (p : Problem). HasOwn p t c.of_train-own.result.now) (sym c.requires.node) listed in
    IfOk-weaker c.least_over.result _ _ (λ found over. over node same are own)
    c.least_over.ensures
