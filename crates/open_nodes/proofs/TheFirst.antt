-- The first tree, and what is wanted of a tree.
use Rattle.std.proofs.Common.{◌≡◌, ◌≢◌, ◌∙◌, ℕ, zero, suc, inl, inr, List, [], ◌∷◌, length, refl, sym, ap, subst, arith, get_or}
use Rattle.std.specs.Prelude.{Option, Some, None, ◌↔◌, slice_get}
use Rattle.std.proofs.lemmas.Option.{same_Some, slice_get_within, slice_get-get_or, get_or_from_slice_get}
use Rattle.disp_model.specs.declared.problem.Problem.{Problem}
use Rattle.disp_model.specs.declared.tree.Leaf.TheVariants.{Costs}
use Rattle.open_nodes.specs.declared.place.Place.{Place}
use Rattle.open_nodes.specs.declared.place.Errand.{Errand}
use Rattle.open_nodes.specs.declared.place.Kind.TheVariants.{Branch as Branched}
use Rattle.open_nodes.specs.States.{State, one_open_leaf, first_place, HaveSmallerParents, IsWanted, NoneWanted}
use Rattle.open_nodes.specs.Preorder.{preorder, IsFirstSought, IsNotAt}
use Rattle.open_nodes.specs.Filled.{IsTree}
use Rattle.open_nodes.proofs.Paths.{no_some}
use Rattle.open_nodes.proofs.Accepting.{order_is}
use Rattle.open_nodes.proofs.Joining.{IsIn, every_in}

pub one_leaf_tree : (problem : Problem) → IsTree problem one_open_leaf
one_leaf_tree problem = record {
  numbers = 0 ∷ [];
  leads = (refl, refl);
  filled = (first_place, record { number_is = refl; there = refl; above_is = refl }, inl (Costs [], record { shown = refl; kind_is = refl }, tt));
  count = refl;
  parents = no_parents;
  leaves = none_out;
  empty = refl;
}
  where
    no_parents : HaveSmallerParents one_open_leaf.places
    no_parents zero above is = absurd (no_some above is)
    no_parents (suc n) above is = absurd (no_some above is)

    none_out : (n : ℕ) (place : Place) (errand : Errand) → slice_get one_open_leaf.places n ≡ Some place → place.out ≡ Some errand → place.kind ≢ Branched
    none_out zero place errand at out = absurd (no_some errand (ap (λ (p : Place). p.out) (same_Some first_place place at) ∙ out))
    none_out (suc n) place errand at out = absurd (no_some place at)

module _ (places : List Place) (best : Option ℕ) where
  none_sought : (xs : List ℕ) → IsFirstSought places best None xs None → (q : ℕ) → IsIn q xs → IsNotAt places best None q
  none_sought [] first q h = absurd h
  none_sought (x ∷ xs) (inl found) q h = absurd (no_some (x, found.place.bound) found.found_is)
  none_sought (x ∷ xs) (inr (not, rest)) q (inl e) = subst (λ (k : ℕ). IsNotAt places best None k) e not
  none_sought (x ∷ xs) (inr (not, rest)) q (inr h) = none_sought xs rest q h

  sought_none : (xs : List ℕ) → ((q : ℕ) → IsNotAt places best None q) → IsFirstSought places best None xs None
  sought_none [] not = refl
  sought_none (x ∷ xs) not = inr (not x, sought_none xs not)

pub none_wanted : (problem : Problem) (state : State) (best : Option ℕ) → IsTree problem state
    → (IsFirstSought state.places best None (preorder state.places) None ↔ NoneWanted best state.places)
none_wanted problem state best tree =
    let numbers_are : preorder state.places ≡ tree.numbers = order_is state.places (Some 0) tree.numbers (length state.places) tree.leads (omega (arith, tree.count)) in (
      λ first k d lt wanted.
          none_sought state.places best tree.numbers (subst (λ (ns : List ℕ). IsFirstSought state.places best None ns None) numbers_are first) k
          (every_in problem state.places state.kept (record { number = 0; above = None } ∷ []) tree.numbers (Some 0) tree.leads tree.filled tree.count k lt)
          (get_or state.places k d) (slice_get-get_or state.places k d lt) wanted,
      λ none. sought_none state.places best (preorder state.places) (λ q place at wanted.
          none q place (slice_get_within state.places q place at) (subst (λ (p : Place). IsWanted best p) (sym (get_or_from_slice_get state.places q place place at)) wanted)),
    )
