use Rattle.std.proofs.Common.{◌≡◌, ◌∙◌, ◌<◌, ℕ, List, length, sym, ap, subst, arith}
use Rattle.std.specs.Prelude.{slice_index}
use Rattle.std.proofs.lemmas.Result.{IfOk-weaker}
use Rattle.disp_model.specs.declared.train.Operation.{Operation}
use Rattle.disp_model.specs.declared.problem.Problem.{Problem}
use Rattle.disp_model.specs.Valid.{train_at}
use Rattle.event_arcs.proofs.Shortness.{horizon_small}
use Rattle.share_bound.proofs.Sharing.{each_base, share_of_bases}
use Rattle.share_bound.proofs.shares.share_of.Goals as goal

pub bases_of-requires-clause-train : goal.bases_of-requires-clause-train
bases_of-requires-clause-train c = subst (λ (p : Problem). c.args.train < length p.trains)
    (sym c.requires.node) c.requires.train

pub bases_of-requires-clause-count : goal.bases_of-requires-clause-count
bases_of-requires-clause-count c = ap (λ (l : List Operation). length l)
    (c.train_of-count.ensures
    ∙ ap (λ (p : Problem). train_at p c.args.train) (sym c.requires.node))

pub share_over-requires-clause-bases : goal.share_over-requires-clause-bases
share_over-requires-clause-bases c o =
    let node = c.args.graph.now in
    let value = ap (λ (l : List ℕ). slice_index l o) c.deref.ensures.value in
    omega (
      arith,
      value,
      each_base node c.args.train (length c.train_of-count.result.now)
          c.in_ok-bases.bases.items c.in_ok-bases.ensures o,
      horizon_small node.problem,
    )

pub share_over-requires-clause-long : goal.share_over-requires-clause-long
share_over-requires-clause-long c = ap (λ (l : List ℕ). length l) c.deref.ensures.value
    ∙ c.in_ok-bases.ensures.long ∙ ap (λ (l : List Operation). length l) c.train_of-count.ensures

pub returns : goal.returns
returns c =
    let node = c.args.graph.now in
    let t = c.args.train in
    let same : length c.train_of-count.result.now ≡ length (train_at node.problem t) = ap
    (λ (l : List Operation). length l) (c.train_of-count.ensures
    ∙ ap (λ (p : Problem). train_at p t) (sym c.requires.node)) in
    IfOk-weaker c.share_over.result _ _ (λ found over.
    share_of_bases node t (length c.train_of-count.result.now) c.in_ok-bases.bases.items
    c.deref.result.now found c.in_ok-bases.ensures same c.deref.ensures.value over)
    c.share_over.ensures
