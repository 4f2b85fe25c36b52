-- The first that is sought, along the links.
use Rattle.std.proofs.Common.{◌≡◌, ◌∙◌, ℕ, suc, ◌≤◌, inl, inr, List, ◌∷◌, length, refl, sym, ap, subst}
use Rattle.std.specs.Prelude.{Option, Some, None, slice_get}
use Rattle.std.proofs.lemmas.Option.{same_Some, slice_get_past}
use Rattle.open_nodes.specs.declared.place.Place.{Place}
use Rattle.open_nodes.specs.Preorder.{link_of, next_at, order, IsSought, IsFirstSought}
use Rattle.open_nodes.proofs.Paths.{no_some}

module _ (places : List Place) (best edition : Option ℕ) where
  pub none_left : (at : Option ℕ) (fuel : ℕ) → fuel ≡ 0 → IsFirstSought places best edition (order at fuel places) None
  none_left None fuel e = refl
  none_left (Some n) fuel e = subst (λ (f : ℕ). IsFirstSought places best edition (order (Some n) f places) None) (sym e) refl

  module _ (n most fuel : ℕ) (one : fuel ≡ suc most) where
    from_one : (found : Option (ℕ × ℕ)) → IsFirstSought places best edition (n ∷ order (next_at places n) most places) found → IsFirstSought places best edition (order (Some n) fuel places) found
    from_one found has = subst (λ (f : ℕ). IsFirstSought places best edition (order (Some n) f places) found) (sym one) has

    pub none_there : length places ≤ n → IsFirstSought places best edition (order (Some n) fuel places) None
    none_there past =
        let gone : slice_get places n ≡ None = slice_get_past places n past in
        from_one None (inr (
          λ place there sought. no_some place (sym gone ∙ there),
          subst (λ (at : Option ℕ). IsFirstSought places best edition (order at most places) None) (sym (ap link_of gone)) refl,
        ))

    module _ (p : Place) (there : slice_get places n ≡ Some p) where
      pub sought_here : IsSought best edition p → IsFirstSought places best edition (order (Some n) fuel places) (Some (n, p.bound))
      sought_here sought = from_one (Some (n, p.bound)) (inl (record { place = p; there = there; sought = sought; found_is = refl }))

      pub sought_behind : (IsSought best edition p → ⊥) → (found : Option (ℕ × ℕ)) → IsFirstSought places best edition (order p.next most places) found → IsFirstSought places best edition (order (Some n) fuel places) found
      sought_behind not found has = from_one found (inr (
        λ place at sought. not (subst (λ (q : Place). IsSought best edition q) (same_Some place p (sym at ∙ there)) sought),
        subst (λ (at : Option ℕ). IsFirstSought places best edition (order at most places) found) (sym (ap link_of there)) has,
      ))
