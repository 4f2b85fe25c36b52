-- A node of a tournament is written: which inner nodes are still the lesser of the two below them.
use Rattle.std.proofs.Common.{◌≡◌, ◌≢◌, ◌∙◌, ℕ, ◌+◌, ◌-◌, ◌*◌, ◌/◌, ◌<◌, ◌≤◌, List, length, inl, inr, set, refl, sym, ap, arith, get_or-set_same, get_or-set_other}
use Rattle.std.specs.Prelude.{Option, None}
use Rattle.std.proofs.lemmas.Bool.{cases_eq}
use Rattle.least_bounds.specs.Tournaments.{bound_at, lesser_bound, IsLesserNode, AreLesserBut, AreLesserFrom, IsTournament}

lesser_of_same : (a b c d : Option ℕ) → a ≡ c → b ≡ d → lesser_bound a b ≡ lesser_bound c d
lesser_of_same a b c d e f = ap (λ (x : Option ℕ). lesser_bound x b) e ∙ ap (λ (y : Option ℕ). lesser_bound c y) f

module _ (nodes : List (Option ℕ)) (j : ℕ) (v : Option ℕ) where
  other_node : (i : ℕ) → i ≢ j → bound_at (set nodes j v) i ≡ bound_at nodes i
  other_node i ne = get_or-set_other nodes j i v None ne

  -- a node that is neither the one written nor above it
  same_below : (i : ℕ) → 2 * i ≢ j → 2 * i + 1 ≢ j → lesser_bound (bound_at nodes (2 * i)) (bound_at nodes (2 * i + 1))
      ≡ lesser_bound (bound_at (set nodes j v) (2 * i)) (bound_at (set nodes j v) (2 * i + 1))
  same_below i left right =
      lesser_of_same (bound_at nodes (2 * i)) (bound_at nodes (2 * i + 1)) (bound_at (set nodes j v) (2 * i)) (bound_at (set nodes j v) (2 * i + 1))
      (sym (other_node (2 * i) left)) (sym (other_node (2 * i + 1) right))

  keeps : (i : ℕ) → i ≢ j → 2 * i ≢ j → 2 * i + 1 ≢ j → IsLesserNode nodes i → IsLesserNode (set nodes j v) i
  keeps i ne left right is = other_node i ne ∙ is ∙ same_below i left right

  -- the node that is written is the lesser of the two below it
  becomes : j < length nodes → 1 ≤ j → v ≡ lesser_bound (bound_at nodes (2 * j)) (bound_at nodes (2 * j + 1)) → IsLesserNode (set nodes j v) j
  becomes lt some is = get_or-set_same nodes j v None lt ∙ is ∙ same_below j (λ e. omega (arith, e, some)) (λ e. omega (arith, e, some))

  pub leaf_set : (room : ℕ) → room ≤ j → j < length nodes → IsTournament nodes room → AreLesserBut (set nodes j v) room (j / 2)
  leaf_set room behind lt tree = record {
    inner = λ i some less ne. keeps i (λ e. omega (arith, e, less, behind)) (λ e. ne (omega (arith, e))) (λ e. ne (omega (arith, e))) (tree.inner i some less);
  }

  pub inner_set : (room : ℕ) → j < room → room ≤ length nodes → 1 ≤ j → v ≡ lesser_bound (bound_at nodes (2 * j)) (bound_at nodes (2 * j + 1))
      → AreLesserBut nodes room j → AreLesserBut (set nodes j v) room (j / 2)
  inner_set room less long some is are = record {
    inner = λ i one lt ne. elim (cases_eq i j) [
      | inl e ↦ rw e (becomes (omega (arith, less, long)) some is)
      | inr other ↦ keeps i other (λ e. ne (omega (arith, e))) (λ e. ne (omega (arith, e))) (are.inner i one lt other)
    ];
  }

  pub one_more : (room k : ℕ) → k ≡ j + 1 → k ≤ room → room ≤ length nodes → 1 ≤ j → v ≡ lesser_bound (bound_at nodes (2 * j)) (bound_at nodes (2 * j + 1))
      → AreLesserFrom nodes room k → AreLesserFrom (set nodes j v) room j
  one_more room k ke within long some is are = record {
    inner = λ i one from lt. elim (cases_eq i j) [
      | inl e ↦ rw e (becomes (omega (arith, ke, within, long)) some is)
      | inr other ↦ keeps i other (λ e. omega (arith, e, from, one)) (λ e. omega (arith, e, from, one)) (are.inner i one (omega (arith, ke, from, other)) lt)
    ];
  }

-- no node is left out
pub all_but_none : (nodes : List (Option ℕ)) (room : ℕ) → AreLesserBut nodes room 0 → room ≤ length nodes → length nodes ≤ 2 * room → IsTournament nodes room
all_but_none nodes room are begins ends = record { inner = λ i some lt. are.inner i some lt (λ e. omega (arith, e, some)); begins = begins; ends = ends }

pub all_from_one : (nodes : List (Option ℕ)) (room from : ℕ) → from ≤ 1 → AreLesserFrom nodes room from → room ≤ length nodes → length nodes ≤ 2 * room → IsTournament nodes room
all_from_one nodes room from le are begins ends = record { inner = λ i some lt. are.inner i some (omega (arith, le, some)) lt; begins = begins; ends = ends }
