-- A leaf of listed trains and walks beside them, which reaches the bound of its node.
use Rattle.std.proofs.Common.{◌≡◌, ℕ, ◌+◌, ◌≤◌, List, length, subst, inr, arith}
use Rattle.disp_model.specs.declared.tree.TrainWalks.{TrainWalks}
use Rattle.disp_model.specs.declared.settings.Rule.TheVariants.{Free}
use Rattle.disp_model.specs.Node.{Node}
use Rattle.disp_model.specs.Shares.{SharesCost, IsBound}
use Rattle.cost_bound.proofs.Bounding.{distinct_by_order}
use Rattle.share_bound.specs.Free.{IsFreeBound}
use Rattle.share_leaves.specs.declared.trains.Listed.{Listed}
use Rattle.share_leaves.specs.declared.walks.Walks.{Walks}
use Rattle.share_leaves.specs.Listed.{AreListed}
use Rattle.share_leaves.specs.Beside.{AreWalksBeside}

pub short_is : (node : Node) (total n count : ℕ) (listed : Listed) (walks : Walks)
    → IsBound node Free total → AreListed node n listed → n ≡ length node.problem.trains
    → AreWalksBeside node listed.trains count walks → total ≤ listed.cost + walks.cost
    → IsFreeBound node (record { cost = total; walks = walks.walks; trains = listed.trains })
short_is node total n count listed walks is shares all beside reached = record {
  cost = is;
  leaf = λ least le. inr (record {
    distinct = distinct_by_order walks.walks beside.order;
    distinct_trains = shares.distinct;
    others = beside.others;
    sum = beside.sum;
    sum_is = beside.costs;
    shares = shares.sum;
    shares_is = shares.shares;
    enough = omega (arith, le, reached, beside.reached, shares.reached);
  });
  alone = λ nothing least le.
      let free : shares.sum ≡ 0 = subst (λ (l : List TrainWalks). SharesCost node l shares.sum)
      nothing shares.shares in
      inr (record {
        distinct = distinct_by_order walks.walks beside.order;
        sum = beside.sum;
        sum_is = beside.costs;
        enough = omega (arith, le, reached, beside.reached, shares.reached, free);
      });
  fits = (
    omega (arith, beside.few, beside.there, node.problem.well_formed.components_fit),
    beside.fits,
    omega (arith, shares.few, all, node.problem.well_formed.trains_fit),
    shares.fits,
  );
}
