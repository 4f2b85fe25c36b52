use Rattle.std.proofs.Common.{◌≡◌, ◌∙◌, ℕ, List, ◌++◌, length, map, drop, Option, ap, subst, sym, arith}
use Rattle.std.proofs.lemmas.List.{take-append-drop, append-nil, length-take-le, nil_from_length}
use Rattle.disp_model.specs.declared.decision.Decision.{Decision}
use Rattle.disp_model.specs.declared.problem.Problem.{Problem}
use Rattle.disp_model.specs.Node.{Node, with_decision}
use Rattle.disp_model.specs.Nodes.{IsDead}
use Rattle.disp_model.specs.Trees.{children_of}
use Rattle.node_leaves.specs.Shown.{IsLeafOf}
use Rattle.tree_growth.specs.Grown.{Helps, GrowsBelow}
use Rattle.tree_dives.specs.Leaves.{leaf_held, bound_in}
use Rattle.tree_dives.specs.Halves.{IsBelowNode}
use Rattle.tree_dives.specs.Downs.{sides_of}
use Rattle.tree_growth.proofs.Children.{children_few}
use Rattle.tree_dives.proofs.Growing.{grown, deeper_by_one}
use Rattle.tree_dives.proofs.Downs.{some_child, none_to_follow, one_followed, none_followed}
use Rattle.tree_dives.proofs.down.go_down.Goals as goal
use Rattle.tree_dives.proofs.down.go_down.Goals.{After-split_at}

pub overflow_cast-len : goal.overflow_cast-len
overflow_cast-len c = let few = children_few c.args.problem.now c.args.choice in omega (arith, c.len.ensures, ap (λ (l : List Decision). length l) c.in_ok-children.ensures, few)

-- the children before the one that is followed, and the others
parted : (c : After-split_at) → children_of c.args.graph.now.problem c.args.choice ≡ c.split_at.result.0.now ++ c.split_at.result.1.now
parted c =
    let all : children_of c.args.graph.now.problem c.args.choice ≡ c.as_slice-2.result.now = ap (λ (p : Problem). children_of p c.args.choice) c.requires.node ∙ sym (c.as_slice-2.ensures ∙ c.in_ok-children.ensures) in
    all ∙ sym (take-append-drop c.followed-place.result c.as_slice-2.result.now) ∙ ap (λ (l : List Decision). l ++ drop c.followed-place.result c.as_slice-2.result.now) (sym c.split_at.ensures.front) ∙ ap (λ (l : List Decision). c.split_at.result.0.now ++ l) (sym c.split_at.ensures.back)

counted : (c : After-split_at) → c.len.result ≡ length (children_of c.args.graph.now.problem c.args.choice)
counted c = c.len.ensures ∙ ap (λ (l : List Decision). length l) c.in_ok-children.ensures ∙ ap (λ (p : Problem). length (children_of p c.args.choice)) (sym c.requires.node)

-- where the branch helps some child is to be followed
pub returns-in_default-clause-down : goal.returns-in_default-clause-down
returns-in_default-clause-down c =
    let d = (goal.at.returns-in_default-clause-down c).After-split_at in
    let node = c.args.graph.now in
    let rule = c.args.reckoning.now.rule in
    let place = c.followed-place.result in
    let all : children_of node.problem c.args.choice ≡ c.split_at.result.0.now = parted d ∙ ap (λ (l : List Decision). c.split_at.result.0.now ++ l) (nil_from_length c.split_at.result.1.now c.in_default.ensures.cases) ∙ append-nil c.split_at.result.0.now in
    let same : children_of node.problem c.args.choice ≡ c.as_slice-2.result.now = ap (λ (p : Problem). children_of p c.args.choice) c.requires.node ∙ sym (c.as_slice-2.ensures ∙ c.in_ok-children.ensures) in
    let first : length c.as_slice.result.now ≡ length c.as_slice-2.result.now = ap (λ (l : List Decision). length l) (c.as_slice.ensures ∙ sym c.as_slice-2.ensures) in
    let never : (best : Option ℕ) → Helps rule best node c.args.choice → ⊥ = λ best helps.
    let some = some_child rule best node c.args.choice helps in
    let there = c.followed-place.ensures.there (omega (arith, ap (λ (l : List Decision). length l) same, some, first)) in
    let front = ap (λ (l : List Decision). length l) c.split_at.ensures.front ∙ length-take-le place c.as_slice-2.result.now (omega (arith, there, first)) in
    omega (arith, there, front, first, ap (λ (l : List Decision). length l) all, ap (λ (l : List Decision). length l) same) in
    rw (c.in_ok-append.ensures.nodes, c.in_ok-append.ensures.bounds, c.in_ok-push_branch.ensures.nodes, c.in_ok-push_branch.ensures.bounds)
    (none_to_follow rule c.args.choice node node (sides_of c.args.halves.now) c.len.result (counted d) c.in_ok-left.left.nodes.items c.in_ok-left.left.bounds.items c.in_ok-left.ensures.leaves never)

pub returns-then-branch-clause-down : goal.returns-then-branch-clause-down
returns-then-branch-clause-down c =
    let d = (goal.at.returns-then-branch-clause-down c).After-split_at in
    let node = c.args.graph.now in
    let kept : c.leaves_of.new.graph ≡ node = c.in_ok-left.ensures.same ∙ c.followed-place.ensures.same in
    let there : c.leaves_of-2.new.graph ≡ node = c.in_ok-right.ensures.same ∙ kept in
    let below : c.follow.new.graph ≡ with_decision node c.in-Some.taken.now = c.in_ok-follow.ensures.yes c.if-branch.true ∙ ap (λ (n : Node). with_decision n c.in-Some.taken.now) there in
    rw (c.in_ok-append.ensures.nodes, c.in_ok-append.ensures.bounds, c.in_ok-push_branch.ensures.nodes, c.in_ok-push_branch.ensures.bounds, c.in_ok-append_back.ensures.nodes, c.in_ok-append_back.ensures.bounds)
    (one_followed c.args.reckoning.now.rule c.args.choice node c.follow.new.graph (sides_of c.args.halves.now) c.len.result (counted d) c.split_at.result.0.now c.in-Some.last.now c.in-Some.taken.now c.in_ok-left.left.nodes.items c.in_ok-right.right.nodes.items c.in_ok-left.left.bounds.items c.in_ok-right.right.bounds.items
    below (parted d ∙ ap (λ (l : List Decision). c.split_at.result.0.now ++ l) c.in-Some.ensures.cases.0)
    (λ best. subst (λ (n : Node). GrowsBelow c.args.reckoning.now.rule best (map (with_decision n) c.split_at.result.0.now) c.in_ok-left.left.nodes.items c.in_ok-left.left.bounds.items) c.followed-place.ensures.same (c.in_ok-left.ensures.grows best))
    (λ best. subst (λ (n : Node). GrowsBelow c.args.reckoning.now.rule best (map (with_decision n) c.in-Some.last.now) c.in_ok-right.right.nodes.items c.in_ok-right.right.bounds.items) kept (c.in_ok-right.ensures.grows best))
    c.in_ok-left.ensures.leaves c.in_ok-right.ensures.leaves)

child_below : (here below : Node) (d : Decision) → below ≡ with_decision here d → IsBelowNode here below
child_below here below d is = rw is (deeper_by_one here d)

pub returns-then-branch-clause-below : goal.returns-then-branch-clause-below
returns-then-branch-clause-below c =
    let there : c.leaves_of-2.new.graph ≡ c.args.graph.now = c.in_ok-right.ensures.same ∙ c.in_ok-left.ensures.same ∙ c.followed-place.ensures.same in
    child_below c.args.graph.now c.follow.new.graph c.in-Some.taken.now (c.in_ok-follow.ensures.yes c.if-branch.true ∙ ap (λ (n : Node). with_decision n c.in-Some.taken.now) there)

pub returns-in_err-append_back-clause-below : goal.returns-in_err-append_back-clause-below
returns-in_err-append_back-clause-below c =
    let there : c.leaves_of-2.new.graph ≡ c.args.graph.now = c.in_ok-right.ensures.same ∙ c.in_ok-left.ensures.same ∙ c.followed-place.ensures.same in
    child_below c.args.graph.now c.follow.new.graph c.in-Some.taken.now (c.in_ok-follow.ensures.yes c.if-branch.true ∙ ap (λ (n : Node). with_decision n c.in-Some.taken.now) there)

pub returns-clause-down : goal.returns-clause-down
returns-clause-down c =
    let d = (goal.at.returns-clause-down c).After-split_at in
    let node = c.args.graph.now in
    let kept : c.leaves_of.new.graph ≡ node = c.in_ok-left.ensures.same ∙ c.followed-place.ensures.same in
    let there : c.leaves_of-2.new.graph ≡ node = c.in_ok-right.ensures.same ∙ kept in
    let still : c.follow.new.graph ≡ node = c.in_ok-follow.ensures.no c.if-branch.false ∙ there in
    rw (c.in_ok-append-2.ensures.nodes, c.in_ok-append-2.ensures.bounds, c.in_ok-push_leaf.ensures.nodes, c.in_ok-push_leaf.ensures.bounds, c.in_ok-append.ensures.nodes, c.in_ok-append.ensures.bounds, c.in_ok-push_branch.ensures.nodes, c.in_ok-push_branch.ensures.bounds)
    (none_followed c.args.reckoning.now.rule c.args.choice node node (sides_of c.args.halves.now) c.len.result (counted d) c.split_at.result.0.now c.in-Some.last.now c.in-Some.taken.now c.in_ok-left.left.nodes.items c.in_ok-right.right.nodes.items (leaf_held c.in_ok-leaf.leaf) (bound_in c.in_ok-leaf.leaf) c.in_ok-left.left.bounds.items c.in_ok-right.right.bounds.items
    (parted d ∙ ap (λ (l : List Decision). c.split_at.result.0.now ++ l) c.in-Some.ensures.cases.0)
    (λ best. subst (λ (n : Node). GrowsBelow c.args.reckoning.now.rule best (map (with_decision n) c.split_at.result.0.now) c.in_ok-left.left.nodes.items c.in_ok-left.left.bounds.items) c.followed-place.ensures.same (c.in_ok-left.ensures.grows best))
    (subst (λ (n : Node). IsDead (with_decision n c.in-Some.taken.now)) there (c.in_ok-follow.ensures.dead c.if-branch.false))
    (grown c.args.reckoning.now.rule (with_decision node c.in-Some.taken.now) c.in_ok-leaf.leaf (subst (λ (n : Node). IsLeafOf c.args.reckoning.now.rule (with_decision n c.in-Some.taken.now) c.in_ok-leaf.leaf) still c.in_ok-leaf.ensures.leaf))
    (λ best. subst (λ (n : Node). GrowsBelow c.args.reckoning.now.rule best (map (with_decision n) c.in-Some.last.now) c.in_ok-right.right.nodes.items c.in_ok-right.right.bounds.items) kept (c.in_ok-right.ensures.grows best))
    c.in_ok-left.ensures.leaves c.in_ok-right.ensures.leaves)
