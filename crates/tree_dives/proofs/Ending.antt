-- How a dive ends, by the sides of its last place.
use Rattle.std.proofs.Common.{◌≡◌, ◌∙◌, ℕ, ◌+◌, ◌≤◌, List, [], ◌∷◌, ◌++◌, length, reverse, Option, sym, ap, subst, arith}
use Rattle.std.proofs.lemmas.List.{append_assoc, take_all}
use Rattle.disp_model.specs.declared.plan.Event.{Event}
use Rattle.disp_model.specs.declared.decision.Choice.{Choice}
use Rattle.disp_model.specs.declared.decision.Decision.{Decision}
use Rattle.disp_model.specs.declared.fixing.Fixing.{Fixing}
use Rattle.disp_model.specs.declared.problem.Problem.{Problem}
use Rattle.disp_model.specs.declared.tree.TreeNode.{TreeNode}
use Rattle.disp_model.specs.declared.tree.TreeNode.TheVariants.{Leaf}
use Rattle.disp_model.specs.declared.settings.Rule.{Rule}
use Rattle.disp_model.specs.Node.{Node, node_at}
use Rattle.disp_model.specs.Valid.{IsValid}
use Rattle.disp_model.specs.Cost.{cost_of}
use Rattle.disp_laws.proofs.Bounds.{bound_same, earliest_costs_bound}
use Rattle.disp_laws.proofs.EarliestPlans.{one_earliest}
use Rattle.node_leaves.specs.declared.leaf.NodeLeaf.{NodeLeaf}
use Rattle.node_leaves.specs.Shown.{IsLeafOf}
use Rattle.open_nodes.specs.States.{IsBoundBelow}
use Rattle.tree_growth.specs.Grown.{Helps, branches}
use Rattle.tree_dives.specs.Leaves.{leaf_held, bound_in}
use Rattle.tree_dives.specs.Stages.{HasPlan, EndsThere}
use Rattle.tree_dives.specs.Halves.{Sides, Completes, IsLeafAt, IsBelowNode}
use Rattle.tree_dives.specs.Downs.{branches_in}
use Rattle.tree_dives.specs.Dives.{IsDive, IsEndOf, IsLastOf, EndsInPlan}
use Rattle.tree_dives.specs.Wholes.{IsDiveWhole, with_leaf}
use Rattle.tree_dives.specs.declared.given.Dive.{Dive}
use Rattle.tree_dives.specs.declared.stage.End.{End}
use Rattle.tree_dives.specs.declared.stage.End.TheVariants.{Closed, Plan, Open}
use Rattle.tree_dives.proofs.Growing.{grown, completes_first, below_itself, grows_with_leaf, branches_append, branches_leaf, branches_back}

-- as many branches as the sides have
pub whole_count : (sides : Sides)
    → branches (sides.before ++ reverse sides.behind) ≡ branches_in sides
whole_count sides = omega (arith, branches_append sides.before (reverse sides.behind), branches_back sides.behind)

-- a leaf that fills the place which is left stands at its node
pub stands_there : (rule : Rule) (best : Option ℕ) (root here : Node) (sides : Sides)
    → Completes rule best root here sides → (shown : NodeLeaf) → IsLeafOf rule here shown
    → IsLeafAt rule best root here ((with_leaf sides shown).before ++ reverse sides.behind) ((with_leaf sides shown).before_bounds ++ reverse sides.behind_bounds)
stands_there rule best root here sides complete shown is = record {
  sides = sides;
  completes = complete;
  leaf = leaf_held shown;
  bound = bound_in shown;
  grown = grown rule here shown is;
  nodes_are = append_assoc sides.before (Leaf (leaf_held shown) ∷ []) (reverse sides.behind);
  bounds_are = append_assoc sides.before_bounds (bound_in shown ∷ []) (reverse sides.behind_bounds);
}

-- where nothing is branched a leaf alone is that of the last node
pub alone_last : (rule : Rule) (best : Option ℕ) (root : Node) (shown : NodeLeaf)
    → IsLeafOf rule root shown
    → IsLastOf rule best root root (Leaf (leaf_held shown) ∷ []) (bound_in shown ∷ [])
alone_last rule best root shown is = record {
  below = below_itself root;
  deep = omega arith;
  stands = stands_there rule best root root (record { before = []; before_bounds = []; behind = []; behind_bounds = [] }) (completes_first rule best root) shown is;
}

-- and the last node is the root
pub last_is_root : (rule : Rule) (best : Option ℕ) (root here : Node) (nodes : List TreeNode)
    (bounds : List ℕ)
    → IsLastOf rule best root here nodes bounds → branches nodes ≡ 0 → here ≡ root
last_is_root rule best root here nodes bounds is none =
    let level : length here.decisions ≡ length root.decisions = omega (arith, is.deep, none) in
    let same : here.decisions ≡ root.decisions = sym (take_all (length root.decisions) here.decisions (omega (arith, level))) ∙ is.below.first in
    ap (λ (p : Problem). node_at p here.fixings here.decisions) is.below.problem ∙ ap (λ (f : List Fixing). node_at root.problem f here.decisions) is.below.fixings
    ∙ ap (λ (ds : List Decision). node_at root.problem root.fixings ds) same

-- it adds no branch
pub leaf_count : (sides : Sides) (shown : NodeLeaf)
    → branches_in (with_leaf sides shown) ≡ branches_in sides
leaf_count sides shown = ap (λ n. n + branches sides.behind) (branches_leaf sides.before (leaf_held shown))

module _ (rule : Rule) (best : Option ℕ) (root : Node) (allowance : ℕ) (here : Node) (below : IsBelowNode root here) (sides : Sides)
    (stands : IsLeafAt rule best root here (sides.before ++ reverse sides.behind) (sides.before_bounds ++ reverse sides.behind_bounds))
    (end : End) (dive : Dive) (whole : IsDiveWhole sides end dive) (count : ℕ) (counted : branches_in sides ≡ count) (few : count ≤ allowance) (deep : length here.decisions ≡ length root.decisions + count) where
  all : branches dive.nodes ≡ count
  all = ap branches whole.nodes ∙ whole_count sides ∙ counted

  last : IsLastOf rule best root here dive.nodes dive.bounds
  last = record { below = below; deep = deep ∙ ap (λ n. length root.decisions + n) (sym all); stands = rw (whole.nodes, whole.bounds) stands }

  -- no place is left, and a leaf stands at the last node
  ended_dive : IsEndOf rule root best allowance dive.nodes dive.bounds end
      → IsDive rule root best allowance dive
  ended_dive ends = record {
    grows = grows_with_leaf rule best root here dive.nodes dive.bounds last.stands;
    few = omega (arith, all, few);
    ends = subst (λ (e : End). IsEndOf rule root best allowance dive.nodes dive.bounds e) (sym whole.end_is) ends;
  }

  -- its plan is valid for the root, and costs the bound of its leaf
  ends_in_plan : (plan : List Event) → HasPlan rule best here plan
      → EndsInPlan rule root best dive.nodes dive.bounds plan
  ends_in_plan plan has = record {
    valid = subst (λ (p : Problem). IsValid p root.fixings plan) below.problem (subst (λ f. IsValid here.problem f plan) below.fixings valid_here);
    better = subst (λ n. IsBoundBelow n best) (sym cost) has.below;
    here = here;
    last = last;
    costs = cost ∙ bound_same here rule has.bound last.stands.bound has.bound_is (last.stands.grown.own has.alive);
    alive = has.alive;
    earliest = has.earliest;
  }
    where
      valid_here : IsValid here.problem here.fixings plan
      valid_here = subst (IsValid here.problem here.fixings) (one_earliest here has.picked.plan plan has.picked.earliest has.earliest) has.picked.valid

      cost : cost_of root.problem.components plan ≡ has.bound
      cost = subst (λ (p : Problem). cost_of p.components plan ≡ has.bound) below.problem (earliest_costs_bound here rule plan has.bound has.earliest valid_here has.bound_is)

  -- the last node ended by itself
  pub ended_there : EndsThere rule best here end → IsDive rule root best allowance dive
  ended_there there = ended_dive (ends end there)
    where
      ends : (e : End) → EndsThere rule best here e
          → IsEndOf rule root best allowance dive.nodes dive.bounds e
      ends Closed closed = record { here = here; last = last; closed = closed }
      ends (Plan plan) has = ends_in_plan plan has
      ends Open never = absurd never

  -- the whole allowance is spent, and there is more to branch
  pub spent_there : (choice : Choice) → Helps rule best here choice → count ≡ allowance → end ≡ Open
      → IsDive rule root best allowance dive
  spent_there choice helps spent is_open =
      ended_dive (subst (IsEndOf rule root best allowance dive.nodes dive.bounds) (sym is_open)
      (record { all = all ∙ spent; here = here; last = last; choice = choice; helps = helps }))
