-- What the places of a tree show of the grown tree, one after the other.
use Rattle.std.proofs.Common.{◌≡◌, ◌≢◌, ◌∙◌, ℕ, inl, inr, List, [], ◌∷◌, ◌++◌, length, refl, sym, ap, subst, arith}
use Rattle.std.specs.Prelude.{Some, None, ◌⊎◌, slice_get}
use Rattle.std.proofs.lemmas.Option.{same_Some, slice_get_within}
use Rattle.disp_model.specs.declared.decision.Choice.{Choice}
use Rattle.disp_model.specs.declared.problem.Problem.{Problem}
use Rattle.disp_model.specs.declared.tree.Leaf.{Leaf as TreeLeaf}
use Rattle.disp_model.specs.declared.tree.TreeNode.{TreeNode}
use Rattle.disp_model.specs.declared.tree.TreeNode.TheVariants.{Branch, Leaf}
use Rattle.disp_model.specs.Replay.{Place as Grown, branch, leaf}
use Rattle.disp_model.specs.Trees.{children_of}
use Rattle.open_nodes.specs.declared.place.Place.{Place}
use Rattle.open_nodes.specs.declared.place.Kind.TheVariants.{Branch as Branched}
use Rattle.open_nodes.specs.States.{State}
use Rattle.open_nodes.specs.Preorder.{preorder}
use Rattle.open_nodes.specs.Filled.{Spot, spots_for, ShowsLeaf, ShowsBranch, AreFilled, IsTree}
use Rattle.open_nodes.proofs.Accepting.{order_is}
use Rattle.open_nodes.proofs.Joining.{IsIn, every_in}
use Rattle.tree_replay.specs.Replayed.{IsShownAt, AreShownAt}

-- which nodes are leaves
abbrev is_leaf : TreeNode → Type 0
is_leaf (Leaf shown) = Unit {0}
is_leaf (Branch choice children) = ⊥

-- no node is a leaf and a branch
pub leaf_or_branch : (kept : List TreeNode) (k : ℕ) (shown : TreeLeaf) (choice : Choice) (children : ℕ) → slice_get kept k ≡ Some (Leaf shown)
    → slice_get kept k ≡ Some (Branch choice children) → ⊥
leaf_or_branch kept k shown choice children a b = subst is_leaf (same_Some (Leaf shown) (Branch choice children) (sym a ∙ b)) tt

-- a place shows a leaf, or a branch
abbrev pub ShowsOne : Problem → List TreeNode → Place → Type 0
ShowsOne problem kept p = ((shown : TreeLeaf) × ShowsLeaf kept p shown) ⊎ ((choice : Choice) × (first : ℕ) × ShowsBranch problem kept p choice first)

shown_in : (problem : Problem) (places : List Place) (kept : List TreeNode) (spots : List Spot) (xs : List ℕ) → AreFilled problem (slice_get places) kept spots xs
    → (q : ℕ) → IsIn q xs → (p : Place) → slice_get places q ≡ Some p → ShowsOne problem kept p
shown_in problem places kept [] [] f q h p at = absurd h
shown_in problem places kept [] (x ∷ xs) f q h p at = absurd f
shown_in problem places kept (s ∷ ss) [] f q h p at = absurd h
shown_in problem places kept (s ∷ ss) (x ∷ xs) (r, is, inl (shown, shows, rest)) q (inl e) p at =
    inl (shown, subst (λ (t : Place). ShowsLeaf kept t shown) (same_Some r p (sym is.there ∙ ap (λ (k : ℕ). slice_get places k) e ∙ at)) shows)
shown_in problem places kept (s ∷ ss) (x ∷ xs) (r, is, inr (choice, first, shows, rest)) q (inl e) p at =
    inr (choice, first, subst (λ (t : Place). ShowsBranch problem kept t choice first) (same_Some r p (sym is.there ∙ ap (λ (k : ℕ). slice_get places k) e ∙ at)) shows)
shown_in problem places kept (s ∷ ss) (x ∷ xs) (r, is, inl (shown, shows, rest)) q (inr h) p at = shown_in problem places kept ss xs rest q h p at
shown_in problem places kept (s ∷ ss) (x ∷ xs) (r, is, inr (choice, first, shows, rest)) q (inr h) p at =
    shown_in problem places kept (spots_for x first (children_of problem choice) ++ ss) xs rest q h p at

module _ (problem : Problem) (state : State) (tree : IsTree problem state) where
  -- each place is on the links
  pub on_links : (n : ℕ) (p : Place) → slice_get state.places n ≡ Some p → IsIn n tree.numbers
  on_links n p at = every_in problem state.places state.kept (record { number = 0; above = None } ∷ []) tree.numbers (Some 0) tree.leads tree.filled tree.count n
      (slice_get_within state.places n p at)

  -- the preorder is the numbers along the links
  pub numbers_are : preorder state.places ≡ tree.numbers
  numbers_are = order_is state.places (Some 0) tree.numbers (length state.places) tree.leads (omega (arith, tree.count))

  -- each place shows a node
  pub shows_one : (n : ℕ) (p : Place) → slice_get state.places n ≡ Some p → ShowsOne problem state.kept p
  shows_one n p at = shown_in problem state.places state.kept (record { number = 0; above = None } ∷ []) tree.numbers tree.filled n (on_links n p at) p at

  -- where the place is not known as a branch, a leaf is shown
  pub no_branch : (n : ℕ) (p : Place) → slice_get state.places n ≡ Some p → p.kind ≢ Branched → (choice : Choice) (children : ℕ)
      → slice_get state.kept p.shows ≡ Some (Branch choice children) → ⊥
  no_branch n p at other choice children shown = elim (shows_one n p at) [
    | inl (listed, shows) ↦ leaf_or_branch state.kept p.shows listed choice children shows.shown shown
    | inr (listed, first, shows) ↦ other shows.kind_is
  ]

-- what is shown in another state
pub each_shown : (state other : State) (xs : List ℕ) (gs : List Grown) → ((q : ℕ) (g : Grown) → IsIn q xs → IsShownAt state q g → IsShownAt other q g)
    → AreShownAt state xs gs → AreShownAt other xs gs
each_shown state other [] [] same are = tt
each_shown state other [] (g ∷ gs) same are = absurd are
each_shown state other (x ∷ xs) [] same are = absurd are
each_shown state other (x ∷ xs) (g ∷ gs) same (is, rest) = (same x g (inl refl) is, each_shown state other xs gs (λ q f h. same q f (inr h)) rest)

-- what is shown one behind the other
pub shown_append : (state : State) (xs ys : List ℕ) (gs hs : List Grown) → AreShownAt state xs gs → AreShownAt state ys hs → AreShownAt state (xs ++ ys) (gs ++ hs)
shown_append state [] ys [] hs are more = more
shown_append state [] ys (g ∷ gs) hs are more = absurd are
shown_append state (x ∷ xs) ys [] hs are more = absurd are
shown_append state (x ∷ xs) ys (g ∷ gs) hs (is, rest) more = (is, shown_append state xs ys gs hs rest more)

-- the places of the numbers that are shown
place_shown : (state : State) (x : ℕ) (g : Grown) → IsShownAt state x g → (p : Place) × (slice_get state.places x ≡ Some p)
place_shown state x (branch choice) (p, children, there, kept) = (p, there)
place_shown state x (leaf number above) (p, shown, there, kept, same, decisions) = (p, there)

pub shown_place : (state : State) (xs : List ℕ) (gs : List Grown) → AreShownAt state xs gs → (q : ℕ) → IsIn q xs → (p : Place) × (slice_get state.places q ≡ Some p)
shown_place state [] gs are q h = absurd h
shown_place state (x ∷ xs) [] are q h = absurd are
shown_place state (x ∷ xs) (g ∷ gs) (is, rest) q (inl e) = let (p, there) = place_shown state x g is in (p, ap (λ (k : ℕ). slice_get state.places k) (sym e) ∙ there)
shown_place state (x ∷ xs) (g ∷ gs) (is, rest) q (inr h) = shown_place state xs gs rest q h

-- a number among others, which is not the first of them
pub later_in : (x n : ℕ) (xs : List ℕ) → x ≢ n → IsIn n (x ∷ xs) → IsIn n xs
later_in x n xs ne (inl e) = absurd (ne e)
later_in x n xs ne (inr h) = h
