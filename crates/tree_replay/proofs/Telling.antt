-- What the grown tree tells of the places that show it.
use Rattle.std.proofs.Common.{◌≡◌, ◌≢◌, ◌∙◌, ℕ, inl, inr, List, [], ◌∷◌, ◌++◌, refl, sym, ap, subst, eq-eqb, ne_eqb}
use Rattle.std.specs.Prelude.{Option, Some, ◌==◌, if◌then◌else◌, slice_get, option_to_list}
use Rattle.std.proofs.lemmas.Bool.{cases_eq}
use Rattle.std.proofs.lemmas.Option.{same_Some}
use Rattle.disp_model.specs.declared.decision.Decision.{Decision}
use Rattle.disp_model.specs.declared.problem.Problem.{Problem}
use Rattle.disp_model.specs.declared.tree.Leaf.{Leaf as TreeLeaf}
use Rattle.disp_model.specs.declared.tree.Leaf.TheVariants.{Costs}
use Rattle.disp_model.specs.declared.tree.TreeNode.{TreeNode}
use Rattle.disp_model.specs.declared.tree.TreeNode.TheVariants.{Branch, Leaf}
use Rattle.disp_model.specs.Legal.{HasBranchesOf}
use Rattle.disp_model.specs.Replay.{Place as Grown, branch, leaf, Growth, one_leaf as first_growth, above_leaf}
use Rattle.open_nodes.specs.declared.place.Place.{Place}
use Rattle.open_nodes.specs.States.{State, decisions_of, one_open_leaf, first_place}
use Rattle.open_nodes.specs.Preorder.{preorder}
use Rattle.open_nodes.specs.Filled.{IsTree}
use Rattle.open_nodes.specs.Shown.{shown_at, shown_by, all_shown, tree_of}
use Rattle.open_nodes.proofs.Paths.{no_some}
use Rattle.open_nodes.proofs.Joining.{IsIn}
use Rattle.tree_replay.specs.Replayed.{AreShownAt, IsReplayed}
use Rattle.tree_replay.proofs.Showing.{leaf_or_branch, on_links, numbers_are, later_in}

-- a leaf of a number in front, or behind another
if_same : (number n : ℕ) (up above : List Decision) (rest : Option (List Decision)) → number ≡ n → (if number == n then Some up else rest) ≡ Some above → up ≡ above
if_same number n up above rest e h =
    let first : Some up ≡ Some above = rw (eq-eqb number n e) at h in
    same_Some up above first

if_other : (number n : ℕ) (up above : List Decision) (rest : Option (List Decision)) → number ≢ n → (if number == n then Some up else rest) ≡ Some above → rest ≡ Some above
if_other number n up above rest ne h = rw (ne_eqb number n ne) at h

module _ (state : State) where
  -- a leaf of a number is a leaf of the grown tree
  leaf_told : (xs : List ℕ) (gs : List Grown) → AreShownAt state xs gs → (n : ℕ) (place : Place) (shown : TreeLeaf) → IsIn n xs → slice_get state.places n ≡ Some place
      → slice_get state.kept place.shows ≡ Some (Leaf shown) → above_leaf n gs ≡ Some (decisions_of state.places n)
  leaf_told [] gs are n place shown h at l = absurd h
  leaf_told (x ∷ xs) [] are n place shown h at l = absurd are
  leaf_told (x ∷ xs) (branch choice ∷ gs) ((p, children, there, kept), rest) n place shown (inl e) at l =
      let same : p ≡ place = same_Some p place (sym there ∙ ap (λ (k : ℕ). slice_get state.places k) e ∙ at) in
      absurd (leaf_or_branch state.kept place.shows shown choice children l (subst (λ (t : Place). slice_get state.kept t.shows ≡ Some (Branch choice children)) same kept))
  leaf_told (x ∷ xs) (branch choice ∷ gs) (is, rest) n place shown (inr h) at l = leaf_told xs gs rest n place shown h at l
  leaf_told (x ∷ xs) (leaf number above ∷ gs) ((p, listed, there, kept, same, decisions), rest) n place shown h at l = elim (cases_eq number n) [
    | inl e ↦ rw (eq-eqb number n e) (ap Some (decisions ∙ ap (decisions_of state.places) (sym same ∙ e)))
    | inr ne ↦ rw (ne_eqb number n ne) (leaf_told xs gs rest n place shown (later_in x n xs (λ e. ne (same ∙ e)) h) at l)
  ]

  -- the place of a number shows a leaf with these decisions above it
  abbrev IsLeafAt : ℕ → List Decision → Type 0
  IsLeafAt n above = (place : Place) × (shown : TreeLeaf) × (slice_get state.places n ≡ Some place) × (slice_get state.kept place.shows ≡ Some (Leaf shown))
      × (above ≡ decisions_of state.places n)

  -- and the other way round
  leaf_back : (xs : List ℕ) (gs : List Grown) → AreShownAt state xs gs → (n : ℕ) (above : List Decision) → above_leaf n gs ≡ Some above → IsLeafAt n above
  leaf_back [] [] are n above h = absurd (no_some above h)
  leaf_back [] (g ∷ gs) are n above h = absurd are
  leaf_back (x ∷ xs) [] are n above h = absurd are
  leaf_back (x ∷ xs) (branch choice ∷ gs) (is, rest) n above h = leaf_back xs gs rest n above h
  leaf_back (x ∷ xs) (leaf number up ∷ gs) ((p, listed, there, kept, same, decisions), rest) n above h = elim (cases_eq number n) [
    | inl e ↦
        let here : x ≡ n = sym same ∙ e in (
          p,
          listed,
          ap (λ (k : ℕ). slice_get state.places k) (sym here) ∙ there,
          kept,
          sym (if_same number n up above (above_leaf n gs) e h) ∙ decisions ∙ ap (decisions_of state.places) here,
        )
    | inr ne ↦ leaf_back xs gs rest n above (if_other number n up above (above_leaf n gs) ne h)
  ]

  -- the branches of both are the same
  has_branches : (xs : List ℕ) (gs : List Grown) → AreShownAt state xs gs → HasBranchesOf gs (all_shown state.places state.kept xs)
  has_branches [] [] are = tt
  has_branches [] (g ∷ gs) are = absurd are
  has_branches (x ∷ xs) [] are = absurd are
  has_branches (x ∷ xs) (branch choice ∷ gs) ((p, children, there, kept), rest) =
      let here : shown_at state.places state.kept x ≡ Some (Branch choice children) = ap (shown_by state.kept) there ∙ kept in
      subst (λ (o : Option TreeNode). HasBranchesOf (branch choice ∷ gs) (option_to_list o ++ all_shown state.places state.kept xs)) (sym here) (refl, has_branches xs gs rest)
  has_branches (x ∷ xs) (leaf number above ∷ gs) ((p, shown, there, kept, same, decisions), rest) =
      let here : shown_at state.places state.kept x ≡ Some (Leaf shown) = ap (shown_by state.kept) there ∙ kept in
      subst (λ (o : Option TreeNode). HasBranchesOf (leaf number above ∷ gs) (option_to_list o ++ all_shown state.places state.kept xs)) (sym here) (has_branches xs gs rest)

-- ---- a tree that shows the grown one

module _ (problem : Problem) (growth : Growth) (state : State) where
  pub tells_leaves : (n : ℕ) (place : Place) (shown : TreeLeaf) → IsTree problem state → IsReplayed growth state → slice_get state.places n ≡ Some place
      → slice_get state.kept place.shows ≡ Some (Leaf shown) → above_leaf n growth.places ≡ Some (decisions_of state.places n)
  tells_leaves n place shown tree replayed at l =
      leaf_told state (preorder state.places) growth.places replayed.shown n place shown
      (subst (λ (ns : List ℕ). IsIn n ns) (sym (numbers_are problem state tree)) (on_links problem state tree n place at)) at l

  pub tells_back : (n : ℕ) (above : List Decision) → IsTree problem state → IsReplayed growth state → above_leaf n growth.places ≡ Some above
      → (place : Place) × (shown : TreeLeaf) × (slice_get state.places n ≡ Some place) × (slice_get state.kept place.shows ≡ Some (Leaf shown))
      × (above ≡ decisions_of state.places n)
  tells_back n above tree replayed h = leaf_back state (preorder state.places) growth.places replayed.shown n above h

  pub tells_branches : IsTree problem state → IsReplayed growth state → HasBranchesOf growth.places (tree_of state)
  tells_branches tree replayed = has_branches state (preorder state.places) growth.places replayed.shown

-- the first leaf
pub one_leaf_replayed : IsReplayed first_growth one_open_leaf
one_leaf_replayed = record { unused = refl; shown = ((first_place, Costs [], refl, refl, refl, refl), tt) }
