-- What a walk to a component costs.
use Rattle.std.proofs.Common.{◌≡◌, ℕ, ◌≤◌, length, List, Option, Some, None, Bool, false, refl, sym, ap, subst, ◌∙◌}
use Rattle.std.specs.Prelude.{slice_get, IsTrue, ◌↔◌}
use Rattle.std.proofs.lemmas.Bool.{false≢true}
use Rattle.std.proofs.lemmas.Option.{none-some, same_Some}
use Rattle.disp_model.specs.declared.train.Op.{Op}
use Rattle.disp_model.specs.declared.train.Component.{Component}
use Rattle.disp_model.specs.declared.tree.ComponentWalk.{ComponentWalk}
use Rattle.disp_model.specs.Cost.{cost_at}
use Rattle.disp_model.specs.Node.{Node}
use Rattle.disp_model.specs.Nodes.{component_op}
use Rattle.disp_model.specs.Walks.{IsWalk, EndsIn}
use Rattle.disp_model.specs.Trees.{WalkCosts, WalksCost}
use Rattle.node_facts.specs.Costs.{capped, IsCapped, IsCappedSum}
use Rattle.node_facts.proofs.AddedUp.{AreSums, AreAddedUp, all_added_up}

pub ends_same : (walk : List Op) (found : Option Op) (end op : Op) (same : Bool) → ((o : Op) → (found ≡ Some o) ↔ EndsIn walk o) → found ≡ Some end → (IsTrue same ↔ (end ≡ op)) → IsTrue same ↔ EndsIn walk op
ends_same walk found end op same ends is says = (
  λ true. (ends op).0 (is ∙ ap (λ (o : Op). Some o) (says.0 true)),
  λ ending. says.1 (same_Some end op (sym is ∙ (ends op).1 ending)),
)

pub ends_nowhere : (walk : List Op) (found : Option Op) (op : Op) → ((o : Op) → (found ≡ Some o) ↔ EndsIn walk o) → found ≡ None → IsTrue false ↔ EndsIn walk op
ends_nowhere walk found op ends none = (λ h. absurd (false≢true h), λ ending. absurd (none-some op (sym none ∙ (ends op).1 ending)))

pub cost_missing : (node : Node) (w : ComponentWalk) → slice_get node.problem.components w.component ≡ None → (cost : ℕ) → WalkCosts node w cost → ⊥
cost_missing node w none cost costs = none-some costs.component (sym none ∙ costs.there)

pub cost_elsewhere : (node : Node) (w : ComponentWalk) (component : Component) → slice_get node.problem.components w.component ≡ Some component → (EndsIn w.walk (component_op component) → ⊥) → (cost : ℕ) → WalkCosts node w cost → ⊥
cost_elsewhere node w component there not cost costs = not (subst (λ (c : Component). EndsIn w.walk (component_op c)) (same_Some costs.component component (sym costs.there ∙ there)) costs.ends)

pub cost_no_walk : (node : Node) (w : ComponentWalk) (found : Option ℕ) → ((n : ℕ) → (found ≡ Some n) ↔ IsWalk node w.walk n) → found ≡ None → (cost : ℕ) → WalkCosts node w cost → ⊥
cost_no_walk node w found lengths none cost costs = none-some costs.total (sym none ∙ (lengths costs.total).1 costs.is_walk)

pub cost_is : (node : Node) (w : ComponentWalk) (component : Component) (found : Option ℕ) (total price : ℕ) → slice_get node.problem.components w.component ≡ Some component → EndsIn w.walk (component_op component)
    → ((n : ℕ) → (found ≡ Some n) ↔ IsWalk node w.walk n) → found ≡ Some total → price ≡ capped (cost_at component total) → IsCapped node w price
cost_is node w component found total price there ends lengths is price_is = record {
  cost = cost_at component total;
  costs = record { component = component; there = there; ends = ends; total = total; is_walk = (lengths total).0 is; cost_is = refl };
  found_is = price_is;
}

-- ---- walks, one after another

pub walks_are_sums : (node : Node) → AreSums (WalkCosts node) (WalksCost node)
walks_are_sums node = record {
  nothing = refl;
  joined = λ w walks cost rest costs more. (cost, rest, costs, more, refl);
  parted = λ w walks sum costs. (costs.0, costs.1, costs.2, costs.3);
}

pub summed_up : (node : Node) (walks : List ComponentWalk) (i total : ℕ) → length walks ≤ i → AreAddedUp (WalksCost node) walks i total → IsCappedSum node walks total
summed_up node walks i total past before =
    let all = all_added_up (WalkCosts node) (WalksCost node) walks i total (walks_are_sums node) past before in
    record { sum = all.0; sum_is = all.1; found_is = all.2 }
