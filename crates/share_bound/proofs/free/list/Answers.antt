use Rattle.std.proofs.Common.{◌∙◌, ◌<◌, List, [], length, refl, sym, ap, subst, arith}
use Rattle.std.proofs.lemmas.List.Sums.{get_or-le-sum_by}
use Rattle.disp_model.specs.declared.train.Operation.{Operation}
use Rattle.disp_model.specs.declared.problem.Problem.{Problem}
use Rattle.disp_model.specs.Valid.{train_at}
use Rattle.route_sets.proofs.Answering.{train_fits}
use Rattle.share_bound.proofs.Sharing.{more_fits}
use Rattle.share_bound.proofs.Freeing.{listed_same, listed_more}
use Rattle.share_bound.proofs.free.list.Goals as goal

pub returns-then-share-eq0 : goal.returns-then-share-eq0
returns-then-share-eq0 c = listed_same c.args.graph.now c.args.train c.in_ok-share.share
    c.args.bound.now c.if-share-eq0.true c.in_ok-share.ensures c.requires.before

pub walks_of-requires-clause-train : goal.walks_of-requires-clause-train
walks_of-requires-clause-train c = subst (λ (p : Problem). c.args.train < length p.trains)
    (sym c.requires.node) c.requires.train

pub walks_of-requires-clause-count : goal.walks_of-requires-clause-count
walks_of-requires-clause-count c = ap (λ (l : List Operation). length l) (c.train_of-count.ensures
    ∙ ap (λ (p : Problem). train_at p c.args.train) (sym c.requires.node))

pub walks_of-requires-clause-fits : goal.walks_of-requires-clause-fits
walks_of-requires-clause-fits c = omega (
  arith,
  ap (λ (l : List Operation). length l) c.train_of-count.ensures,
  train_fits c.args.problem.now c.args.train c.requires.train,
)

pub overflow_add-bound : goal.overflow_add-bound
overflow_add-bound c = omega (
  arith,
  more_fits c.args.graph.now c.args.train c.args.bound.now.cost c.in_ok-share.share
      c.requires.before.sum c.in_ok-share.ensures,
)

pub returns : goal.returns
returns c =
    let node = c.args.graph.now in
    let problem = c.args.problem.now in
    let t = c.args.train in
    let there = subst (λ (p : Problem). t < length p.trains) (sym c.requires.node) c.requires.train
    in
    let same = ap (λ (l : List Operation). length l) (c.train_of-count.ensures
    ∙ ap (λ (p : Problem). train_at p t) (sym c.requires.node)) in
    let long = ap (λ (l : List Operation). length l) c.train_of-count.ensures in
    listed_more node t c.in_ok-share.share (length c.train_of-count.result.now) c.args.bound.now _
    c.in_ok-walks.walks there same
    (omega (
      arith,
      long,
      get_or-le-sum_by (λ (train : List Operation). length train) problem.trains t []
          c.requires.train,
      problem.well_formed.operations_fit,
    )) c.in_ok-share.ensures
    c.in_ok-walks.ensures c.in_ok-push.ensures.ok refl refl c.requires.before
