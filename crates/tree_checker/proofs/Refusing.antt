-- Whether a leaf holds, and why it does not.
use Rattle.std.proofs.Common.{Bool, None, inl, inr}
use Rattle.std.specs.Prelude.{IsTrue, ◌↔◌}
use Rattle.disp_model.specs.declared.tree.Leaf.{Leaf}
use Rattle.disp_model.specs.declared.tree.TreeNode.TheVariants.{Leaf as ALeaf}
use Rattle.disp_model.specs.declared.tree.Verdict.{Verdict}
use Rattle.disp_model.specs.declared.tree.Verdict.TheVariants.{Infeasible}
use Rattle.disp_model.specs.Node.{Node}
use Rattle.disp_model.specs.Routes.{HasNoRoute}
use Rattle.disp_model.specs.Trees.{Shows, LeafHolds}
use Rattle.tree_checker.specs.declared.why.Why.{Why}
use Rattle.tree_checker.specs.Rules.{KeepsAllRules, IsFirstRule, IsRefusedFor, component_walks, listed_trains}
use Rattle.tree_checker.specs.Bounds.{IsBoundOfAll}
use Rattle.tree_checker.proofs.Kept.{kept_costs, kept_shows}

-- where every train has an allowed route a leaf holds by what it shows
pub holds_shown : (node : Node) (verdict : Verdict) (leaf : Leaf) (shown : Bool) → (HasNoRoute node → ⊥) → (IsTrue shown ↔ Shows node verdict leaf) → IsTrue shown ↔ LeafHolds node verdict leaf
holds_shown node verdict leaf shown routes says = (λ h. inr (says.0 h), λ holds. elim holds [ inl none ↦ absurd (routes none) | inr shows ↦ says.1 shows ])

pub refused_for : (node : Node) (verdict : Verdict) (leaf : Leaf) (why : Why) → (HasNoRoute node → ⊥) → (Shows node verdict leaf → ⊥) → IsFirstRule node verdict leaf why → IsRefusedFor node verdict (ALeaf leaf) why
refused_for node verdict leaf why routes not first = record {
  not = λ holds. elim holds [ inl none ↦ routes none | inr shows ↦ not shows ];
  is_first = record { broken = (routes, first.broken); first = λ other less breaks. first.first other less breaks.1 };
}

-- a leaf of all rules has costs
pub has_bound : (node : Node) (verdict : Verdict) (leaf : Leaf) → (HasNoRoute node → ⊥) → KeepsAllRules node verdict leaf → IsBoundOfAll node (component_walks leaf) (listed_trains leaf) None → ⊥
has_bound node verdict leaf routes keeps none = let found = kept_costs node verdict leaf routes keeps in none found.0 found.1 found.2 found.3

-- a leaf that keeps all rules under 'infeasible' shows something
pub no_cost : (node : Node) (leaf : Leaf) → KeepsAllRules node Infeasible leaf → (Shows node Infeasible leaf → ⊥) → ⊥
no_cost node leaf keeps not = (kept_shows node Infeasible leaf keeps not).1
