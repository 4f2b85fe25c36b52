use Rattle.std.proofs.Common.{List, refl, sym, subst}
use Rattle.std.specs.Prelude.{All, IsTrue, ◌↔◌}
use Rattle.std.proofs.lemmas.Bool.{false≢true}
use Rattle.disp_model.specs.declared.tree.ComponentWalk.{ComponentWalk}
use Rattle.disp_model.specs.declared.tree.TrainWalks.{TrainWalks}
use Rattle.disp_model.specs.Node.{node_at}
use Rattle.tree_checker.specs.Rules.{IsListRight}
use Rattle.tree_checker.proofs.rights.are_right.Goals as goal

pub returns-then-not-own_is_right : goal.returns-then-not-own_is_right
returns-then-not-own_is_right c fixings are = (λ h. absurd (false≢true h), λ right. absurd (false≢true ((c.if-not-own_is_right.ensures fixings are).1 right.own)))

pub returns-then-not-components_are_right : goal.returns-then-not-components_are_right
returns-then-not-components_are_right c fixings are =
    let right = IsListRight (node_at c.args.problem.now fixings c.args.decisions.now) c.args.rule in (
      λ h. absurd (false≢true h),
      λ all. absurd (false≢true ((c.if-not-components_are_right.ensures fixings are).1 (subst (λ (l : List ComponentWalk). All (λ w. right w.walk) l) (sym c.component_walks.ensures) all.components))),
    )

pub returns : goal.returns
returns c fixings are =
    let right = IsListRight (node_at c.args.problem.now fixings c.args.decisions.now) c.args.rule in
    let trains = subst (λ (l : List TrainWalks). IsTrue c.trains_are_right.result ↔ All (λ listed. All right listed.walks) l) c.listed_trains.ensures (c.trains_are_right.ensures fixings are) in (
      λ h. record {
        own = (c.if-not-own_is_right.ensures fixings are).0 refl;
        components = subst (λ (l : List ComponentWalk). All (λ w. right w.walk) l) c.component_walks.ensures ((c.if-not-components_are_right.ensures fixings are).0 refl);
        trains = trains.0 h;
      },
      λ all. trains.1 all.trains,
    )
