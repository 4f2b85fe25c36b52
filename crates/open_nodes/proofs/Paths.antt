-- The decisions above a place, from the last to the first.
use Rattle.std.proofs.Common.{◌≡◌, ◌≢◌, ◌∙◌, ℕ, zero, suc, ◌<◌, ◌≤◌, List, [], ◌∷◌, ◌++◌, take, length, get_or, refl, sym, ap, subst, append_assoc, arith}
use Rattle.std.specs.Prelude.{Bool, true, false, MatchBool, IfSome, Option, Some, None, reverse, slice_get, ◌↔◌}
use Rattle.std.proofs.lemmas.Option.{slice_get-get_or, get_or_from_slice_get}
use Rattle.std.proofs.Math.Seq.{take-suc, take-length}
use Rattle.std.proofs.Math.Nat.{le_refl}
use Rattle.std.proofs.lemmas.List.{reverse-append, same_from_push, length_push, length-take-le}
use Rattle.disp_model.specs.declared.decision.Decision.{Decision}
use Rattle.open_nodes.specs.declared.place.Place.{Place}
use Rattle.open_nodes.specs.declared.place.Above.{Above}
use Rattle.open_nodes.specs.States.{above_at, decisions_to, decisions_of, HaveSmallerParents}

pub no_true : false ≡ true → ⊥
no_true e = subst (λ (b : Bool). MatchBool b ⊥ (Unit {0})) e tt

pub no_some : {X : Type 0} (x : X) → None ≡ Some x → ⊥
no_some {X} x e = subst (λ (o : Option X). IfSome o (λ _. ⊥)) e tt

pub gather_more : (places : List Place) (a : Above) (more fuel : ℕ) (up : List Decision) (all : List Decision) → fuel ≡ suc more
    → decisions_to (Some a) fuel places ++ reverse up ≡ all
    → decisions_to (above_at places a.parent) more places ++ reverse (up ++ a.decision ∷ []) ≡ all
gather_more places a more fuel up all e kept =
    let there : decisions_to (Some a) (suc more) places ++ reverse up ≡ all = subst (λ (f : ℕ). decisions_to (Some a) f places ++ reverse up ≡ all) e kept in
    let turned : reverse (up ++ a.decision ∷ []) ≡ a.decision ∷ reverse up = reverse-append up (a.decision ∷ []) in
    rw turned (sym (append_assoc (decisions_to (above_at places a.parent) more places) (a.decision ∷ []) (reverse up)) ∙ there)

-- how many parents there are at most
abbrev pub most_above : Option Above → ℕ
most_above None = 0
most_above (Some above) = suc above.parent

abbrev pub decisions_up : Option Above → List Place → List Decision
decisions_up at places = decisions_to at (most_above at) places

few_above : (at : Option Above) (n f : ℕ) → ((b : Above) → at ≡ Some b → b.parent < n) → n ≤ f → most_above at ≤ f
few_above None n f small le = omega arith
few_above (Some b) n f small le = omega (arith, small b refl, le)

module _ (places : List Place) (small : HaveSmallerParents places) where
  same_up : (at : Option Above) (f g : ℕ) → most_above at ≤ f → most_above at ≤ g → decisions_to at f places ≡ decisions_to at g places
  same_up None f g lf lg = refl
  same_up (Some a) zero g lf lg = absurd (omega (arith, lf))
  same_up (Some a) (suc f) zero lf lg = absurd (omega (arith, lg))
  same_up (Some a) (suc f) (suc g) lf lg = ap (λ (z : List Decision). z ++ a.decision ∷ []) (same_up (above_at places a.parent) f g
      (few_above (above_at places a.parent) a.parent f (small a.parent) (omega (arith, lf)))
      (few_above (above_at places a.parent) a.parent g (small a.parent) (omega (arith, lg))))

  pub up_is : (n : ℕ) → decisions_of places n ≡ decisions_up (above_at places n) places
  up_is n = same_up (above_at places n) n (most_above (above_at places n)) (few_above (above_at places n) n n (small n) (le_refl n)) (le_refl (most_above (above_at places n)))

  pub up_more : (a : Above) → decisions_up (Some a) places ≡ decisions_up (above_at places a.parent) places ++ a.decision ∷ []
  up_more a = ap (λ (z : List Decision). z ++ a.decision ∷ []) (up_is a.parent)

-- of the decisions so many are left to compare
pub record Compares (places : List Place) (number : ℕ) (decisions : List Decision) (k : ℕ) (at : Option Above) : Type 0 where
  pub within : k ≤ length decisions
  pub same : (decisions ≡ decisions_of places number) ↔ (take k decisions ≡ decisions_up at places)

module _ (places : List Place) (small : HaveSmallerParents places) (number : ℕ) (decisions : List Decision) where
  pub compare_all : (k : ℕ) → k ≡ length decisions → Compares places number decisions k (above_at places number)
  compare_all k e =
      let whole : take k decisions ≡ decisions = ap (λ (n : ℕ). take n decisions) e ∙ take-length decisions in
      record {
        within = omega (arith, e);
        same = (λ is. whole ∙ is ∙ up_is places small number, λ is. sym whole ∙ is ∙ sym (up_is places small number));
      }

  module _ (n k : ℕ) (one : n ≡ suc k) (a : Above) (c : Compares places number decisions n (Some a)) where
    last : (d : Decision) → take n decisions ≡ take k decisions ++ get_or decisions k d ∷ []
    last d = ap (λ (m : ℕ). take m decisions) one ∙ take-suc decisions k d (omega (arith, c.within, one))

    pub compare_more : slice_get decisions k ≡ Some a.decision → Compares places number decisions k (above_at places a.parent)
    compare_more found =
        let here : get_or decisions k a.decision ≡ a.decision = get_or_from_slice_get decisions k a.decision a.decision found in
        let front : take n decisions ≡ take k decisions ++ a.decision ∷ [] = last a.decision ∙ ap (λ (z : Decision). take k decisions ++ z ∷ []) here in
        let up = up_more places small a in
        record {
          within = omega (arith, c.within, one);
          same = (
            λ is. (same_from_push (take k decisions) (decisions_up (above_at places a.parent) places) a.decision a.decision (sym front ∙ c.same.0 is ∙ up)).0,
            λ is. c.same.1 (front ∙ ap (λ (z : List Decision). z ++ a.decision ∷ []) is ∙ sym up),
          );
        }

    pub compare_other : (slice_get decisions k ≡ Some a.decision → ⊥) → decisions ≢ decisions_of places number
    compare_other other is = other (slice_get-get_or decisions k a.decision (omega (arith, c.within, one)) ∙ ap Some (same_from_push (take k decisions) (decisions_up (above_at places a.parent) places) (get_or decisions k a.decision) a.decision (sym (last a.decision) ∙ c.same.0 is ∙ up_more places small a)).1)

  pub compare_none : (n k : ℕ) → n ≡ suc k → Compares places number decisions n None → decisions ≢ decisions_of places number
  compare_none n k one c is =
      let empty : take n decisions ≡ [] = c.same.0 is in
      let long : length (take n decisions) ≡ n = length-take-le n decisions c.within in
      absurd (omega (arith, one, long, ap length empty))

  pub compare_end : Compares places number decisions 0 None → decisions ≡ decisions_of places number
  compare_end c = c.same.1 refl

  pub compare_left : (a : Above) → Compares places number decisions 0 (Some a) → decisions ≢ decisions_of places number
  compare_left a c is =
      let same : [] ≡ decisions_up (above_at places a.parent) places ++ a.decision ∷ [] = c.same.0 is ∙ up_more places small a in
      absurd (omega (arith, ap length same, length_push (decisions_up (above_at places a.parent) places) a.decision))
