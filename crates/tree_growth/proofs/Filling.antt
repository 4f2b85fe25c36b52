-- What keeps its bounds at nodes of one problem fills as many places, has choices of the problem, and can be written.
use Rattle.std.proofs.Common.{◌≡◌, ◌∙◌, ℕ, ◌+◌, List, [], ◌∷◌, ◌++◌, length, map, sym, ap, subst, arith}
use Rattle.std.specs.Prelude.{All}
use Rattle.std.proofs.lemmas.List.{length-append, length-map}
use Rattle.std.proofs.lemmas.List.Elements.{All-cons, All-nil}
use Rattle.disp_model.specs.declared.decision.Decision.{Decision}
use Rattle.disp_model.specs.declared.problem.Problem.{Problem}
use Rattle.disp_model.specs.declared.settings.Rule.{Rule}
use Rattle.disp_model.specs.declared.tree.TreeNode.{TreeNode}
use Rattle.disp_model.specs.declared.tree.TreeNode.TheVariants.{Branch, Leaf}
use Rattle.disp_model.specs.Node.{Node, with_decision}
use Rattle.disp_model.specs.Trees.{children_of, IsChoice, FitsChildren, FitsNode}
use Rattle.open_nodes.specs.Grafts.{FillPlaces}
use Rattle.open_nodes.specs.Filled.{HaveChoices}
use Rattle.tree_growth.specs.Grown.{KeepBounds}
use Rattle.tree_growth.proofs.Children.{choice_fits, children_fit}

-- nodes of one problem
abbrev pub AreOf : Problem → List Node → Type 0
AreOf problem [] = Unit {0}
AreOf problem (node ∷ nodes) = (node.problem ≡ problem) × AreOf problem nodes

children_are_of : (problem : Problem) (node : Node) (cs : List Decision) (nodes : List Node) → node.problem ≡ problem → AreOf problem nodes → AreOf problem (map (with_decision node) cs ++ nodes)
children_are_of problem node [] nodes is are = are
children_are_of problem node (d ∷ cs) nodes is are = (is, children_are_of problem node cs nodes is are)

-- nodes of a tree fill so many places with choices of the problem, and can be written
pub record Filled (problem : Problem) (count : ℕ) (tree : List TreeNode) (bounds : List ℕ) : Type 0 where
  pub fill : FillPlaces problem count tree bounds
  pub choices : HaveChoices problem tree
  pub fits : All FitsNode tree

pub keeps_fill : (problem : Problem) (rule : Rule) (tree : List TreeNode) (nodes : List Node) (bounds : List ℕ) → AreOf problem nodes → KeepBounds rule nodes tree bounds
    → Filled problem (length nodes) tree bounds
keeps_fill problem rule [] [] [] are keeps = record { fill = tt; choices = tt; fits = All-nil FitsNode }
keeps_fill problem rule [] [] (bound ∷ bounds) are keeps = absurd keeps
keeps_fill problem rule (top ∷ tree) [] bounds are keeps = absurd keeps
keeps_fill problem rule [] (node ∷ nodes) bounds are keeps = absurd keeps
keeps_fill problem rule (Leaf leaf ∷ tree) (node ∷ nodes) [] are keeps = absurd keeps
keeps_fill problem rule (Leaf leaf ∷ tree) (node ∷ nodes) (bound ∷ bounds) are keeps =
    let f = keeps_fill problem rule tree nodes bounds are.1 keeps.1 in
    record { fill = f.fill; choices = f.choices; fits = All-cons FitsNode (Leaf leaf) tree keeps.0.fits f.fits }
keeps_fill problem rule (Branch choice children ∷ tree) (node ∷ nodes) bounds are keeps =
    let cs : List Decision = children_of node.problem choice in
    let more : List Node = map (with_decision node) cs ++ nodes in
    let f = keeps_fill problem rule tree more bounds (children_are_of problem node cs nodes are.0 are.1) keeps.2 in
    let is_choice : IsChoice problem choice = subst (λ (p : Problem). IsChoice p choice) are.0 keeps.0 in
    let many : children ≡ length (children_of problem choice) = keeps.1 ∙ ap (λ (p : Problem). length (children_of p choice)) are.0 in
    let long : length more ≡ children + length nodes = omega (arith, length-append (map (with_decision node) cs) nodes, length-map cs (with_decision node), keeps.1) in
    record {
      fill = (many, subst (λ (k : ℕ). FillPlaces problem k tree bounds) long f.fill);
      choices = (is_choice, f.choices);
      fits = All-cons FitsNode (Branch choice children) tree
          (choice_fits problem choice is_choice, subst (λ (k : ℕ). FitsChildren choice k) (sym many) (children_fit problem choice is_choice)) f.fits;
    }
