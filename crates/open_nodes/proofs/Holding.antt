-- What holds at the leaves of a tree holds where one of them has grown, if it does at the new ones.
use Rattle.std.proofs.Common.{◌≡◌, ◌∙◌, ℕ, zero, suc, ◌<◌, inl, inr, List, [], ◌∷◌, ◌++◌, length, refl, sym, ap, arith}
use Rattle.std.specs.Prelude.{Option, Some, None, slice_get}
use Rattle.std.proofs.lemmas.Option.{same_Some}
use Rattle.disp_model.specs.declared.decision.Decision.{Decision}
use Rattle.disp_model.specs.declared.problem.Problem.{Problem}
use Rattle.disp_model.specs.declared.tree.TreeNode.{TreeNode}
use Rattle.disp_model.specs.declared.tree.TreeNode.TheVariants.{Branch, Leaf}
use Rattle.disp_model.specs.Trees.{children_of}
use Rattle.open_nodes.specs.declared.place.Place.{Place}
use Rattle.open_nodes.specs.declared.place.Above.{Above}
use Rattle.open_nodes.specs.States.{above_at, decisions_to, decisions_of, HaveSmallerParents}
use Rattle.open_nodes.specs.Filled.{Spot, spots_for, AreFilled}
use Rattle.open_nodes.proofs.Joining.{IsIn}

-- each place shows a node that is kept
pub shows_kept : (problem : Problem) (places : List Place) (kept : List TreeNode) (spots : List Spot) (xs : List ℕ) → AreFilled problem (slice_get places) kept spots xs
    → (q : ℕ) → IsIn q xs → (p : Place) → slice_get places q ≡ Some p → (node : TreeNode) × (slice_get kept p.shows ≡ Some node)
shows_kept problem places kept [] [] f q h p at = absurd h
shows_kept problem places kept [] (x ∷ xs) f q h p at = absurd f
shows_kept problem places kept (s ∷ ss) [] f q h p at = absurd h
shows_kept problem places kept (s ∷ ss) (x ∷ xs) (r, is, inl (leaf, shows, rest)) q (inl e) p at =
    let same : r ≡ p = same_Some r p (sym is.there ∙ ap (λ (k : ℕ). slice_get places k) e ∙ at) in
    (Leaf leaf, ap (λ (t : Place). slice_get kept t.shows) (sym same) ∙ shows.shown)
shows_kept problem places kept (s ∷ ss) (x ∷ xs) (r, is, inr (choice, first, shows, rest)) q (inl e) p at =
    let same : r ≡ p = same_Some r p (sym is.there ∙ ap (λ (k : ℕ). slice_get places k) e ∙ at) in
    (Branch choice shows.children, ap (λ (t : Place). slice_get kept t.shows) (sym same) ∙ shows.shown)
shows_kept problem places kept (s ∷ ss) (x ∷ xs) (r, is, inl (leaf, shows, rest)) q (inr h) p at = shows_kept problem places kept ss xs rest q h p at
shows_kept problem places kept (s ∷ ss) (x ∷ xs) (r, is, inr (choice, first, shows, rest)) q (inr h) p at =
    shows_kept problem places kept (spots_for x first (children_of problem choice) ++ ss) xs rest q h p at

-- where places have the same parents, the decisions above them are the same
module _ (places after : List Place) (small : HaveSmallerParents places) (same : (m : ℕ) → m < length places → above_at after m ≡ above_at places m) where
  to_same : (at : Option Above) (fuel : ℕ) → ((a : Above) → at ≡ Some a → a.parent < length places) → decisions_to at fuel after ≡ decisions_to at fuel places
  to_same None fuel lt = refl
  to_same (Some a) zero lt = refl
  to_same (Some a) (suc fuel) lt =
      let within : a.parent < length places = lt a refl in
      ap (λ (z : List Decision). z ++ a.decision ∷ []) (
      ap (λ (o : Option Above). decisions_to o fuel after) (same a.parent within)
      ∙ to_same (above_at places a.parent) fuel (λ b e. let less : b.parent < a.parent = small a.parent b e in omega (arith, less, within)))

  pub decisions_same : (m : ℕ) → m < length places → decisions_of after m ≡ decisions_of places m
  decisions_same m lt =
      ap (λ (o : Option Above). decisions_to o m after) (same m lt)
      ∙ to_same (above_at places m) m (λ b e. let less : b.parent < m = small m b e in omega (arith, less, lt))
