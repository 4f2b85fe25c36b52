use Rattle.std.proofs.Common.{List, ◌<◌, length, refl, sym, subst}
use Rattle.std.specs.Prelude.{All, IsTrue, ◌↔◌}
use Rattle.std.proofs.lemmas.Bool.{false≢true}
use Rattle.disp_model.specs.declared.tree.ComponentWalk.{ComponentWalk}
use Rattle.disp_model.specs.declared.tree.TrainWalks.{TrainWalks}
use Rattle.tree_checker.proofs.names.has_names.Goals as goal

pub returns-then-not-are_right : goal.returns-then-not-are_right
returns-then-not-are_right c fixings are = (λ h. absurd (false≢true h), λ names. absurd (false≢true ((c.if-not-are_right.ensures fixings are).1 names.operations)))

pub returns-then-not-have_components : goal.returns-then-not-have_components
returns-then-not-have_components c fixings are = (
  λ h. absurd (false≢true h),
  λ names. absurd (false≢true (c.if-not-have_components.ensures.1 (subst (λ (l : List ComponentWalk). All (λ w. w.component < length c.args.problem.now.components) l) (sym c.component_walks.ensures) names.components))),
)

pub returns : goal.returns
returns c fixings are =
    let trains = subst (λ (l : List TrainWalks). IsTrue c.have_trains.result ↔ All (λ t. t.train < length c.args.problem.now.trains) l) c.listed_trains.ensures c.have_trains.ensures in (
      λ h. record {
        operations = (c.if-not-are_right.ensures fixings are).0 refl;
        components = subst (λ (l : List ComponentWalk). All (λ w. w.component < length c.args.problem.now.components) l) c.component_walks.ensures (c.if-not-have_components.ensures.0 refl);
        trains = trains.0 h;
      },
      λ names. trains.1 names.trains,
    )
