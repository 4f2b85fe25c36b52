use Rattle.std.proofs.Common.{length, refl, sym, ap}
use Rattle.disp_model.specs.declared.problem.Problem.{Problem}
use Rattle.share_bound.proofs.Freeing.{free_by_costs, free_by_shares}
use Rattle.share_bound.proofs.free.free_bound.Goals as goal

pub returns-then-total-cost : goal.returns-then-total-cost
returns-then-total-cost c =
    free_by_costs c.args.graph.now c.in_ok-total.total c.cost.result c.in_ok-fixed.fixed.cost
    c.in_ok-fixed.fixed.walks _ c.in_ok-total.ensures c.if-total-cost.true c.cost.ensures
    c.in_ok-fixed.ensures.cost c.in_ok-fixed.ensures.leaf c.in_ok-fixed.ensures.fits refl refl
    c.new.ensures

pub returns : goal.returns
returns c = free_by_shares c.args.graph.now (length c.args.problem.now.trains) c.in_ok-shown.shown
    (ap (λ (p : Problem). length p.trains) (sym c.requires.node)) c.in_ok-shown.ensures
