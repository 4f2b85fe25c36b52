-- What the places show, one after the other.
use Rattle.std.proofs.Common.{◌≡◌, ◌∙◌, ℕ, suc, List, [], ◌++◌, refl, sym, ap, append_assoc}
use Rattle.std.specs.Prelude.{Option, Some, None, option_to_list}
use Rattle.std.proofs.lemmas.List.{append-nil}
use Rattle.disp_model.specs.declared.tree.TreeNode.{TreeNode}
use Rattle.open_nodes.specs.declared.place.Place.{Place}
use Rattle.open_nodes.specs.Preorder.{next_at, order}
use Rattle.open_nodes.specs.Shown.{shown_at, all_shown}

no_order : (at : Option ℕ) (fuel : ℕ) (places : List Place) (kept : List TreeNode) → fuel ≡ 0 → all_shown places kept (order at fuel places) ≡ []
no_order None fuel places kept e = refl
no_order (Some n) fuel places kept e = ap (λ (f : ℕ). all_shown places kept (order (Some n) f places)) e

module _ (places : List Place) (kept tree all : List TreeNode) (at : Option ℕ) (fuel : ℕ) (is : tree ++ all_shown places kept (order at fuel places) ≡ all) where
  pub show_end : fuel ≡ 0 → tree ≡ all
  show_end e = sym (append-nil tree) ∙ ap (λ (l : List TreeNode). tree ++ l) (sym (no_order at fuel places kept e)) ∙ is

  pub show_none : at ≡ None → tree ≡ all
  show_none e = sym (append-nil tree) ∙ ap (λ (a : Option ℕ). tree ++ all_shown places kept (order a fuel places)) (sym e) ∙ is

  pub show_more : (n most : ℕ) → at ≡ Some n → fuel ≡ suc most
      → (tree ++ option_to_list (shown_at places kept n)) ++ all_shown places kept (order (next_at places n) most places) ≡ all
  show_more n most e one =
      append_assoc tree (option_to_list (shown_at places kept n)) (all_shown places kept (order (next_at places n) most places))
      ∙ ap (λ (a : Option ℕ). tree ++ all_shown places kept (order a (suc most) places)) (sym e)
      ∙ ap (λ (f : ℕ). tree ++ all_shown places kept (order at f places)) (sym one) ∙ is
