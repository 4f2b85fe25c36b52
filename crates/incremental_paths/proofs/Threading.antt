-- A thread is followed from the last element of a node to the first.
use Rattle.std.proofs.Common.{◌≡◌, ◌≢◌, ℕ, ◌-◌, ◌<◌, ◌≤◌, inl, inr, List, length, get_or, map, ◌∙◌, sym, ap, subst, arith}
use Rattle.std.proofs.lemmas.Bool.{cases_eq, cases_lt}
use Rattle.std.proofs.lemmas.List.{get_or-map, length-map}
use Rattle.incremental_paths.specs.declared.arc.Arc.{Arc}
use Rattle.incremental_paths.specs.Threaded.{IsFront}

-- the front ends with an element of the node
pub record IsAt (keys : List ℕ) (node front : ℕ) : Type 0 where
  pub within : front ≤ length keys
  pub last : 0 < front → get_or keys (front - 1) 0 ≡ node

-- behind the front, and before another, no element is the node's
abbrev pub NoneFrom : List ℕ → ℕ → ℕ → ℕ → Type 0
NoneFrom keys node front k = (i : ℕ) → front ≤ i → i < k → get_or keys i 0 ≢ node

pub at_last : (keys : List ℕ) (node front : ℕ) → IsFront keys (length keys) node front → IsAt keys node front
at_last keys node front f = record { within = f.within; last = f.last }

module _ (keys : List ℕ) (node front : ℕ) (at : IsAt keys node front) (some : 0 < front) (next : ℕ) (f : IsFront keys (front - 1) (get_or keys (front - 1) 0) next) where
  pub at_next : IsAt keys node next
  at_next = record { within = omega (arith, f.within, at.within); last = λ more. f.last more ∙ at.last some }

  pub none_next : NoneFrom keys node next (front - 1)
  none_next = λ i from lt e. f.none_behind i from lt (e ∙ sym (at.last some))

key_at : (key : Arc → ℕ) (arcs : List Arc) (k : ℕ) (d : Arc) → k < length arcs → get_or (map key arcs) k 0 ≡ key (get_or arcs k d)
key_at key arcs k d lt = get_or-map key arcs k d 0 lt

module _ (key : Arc → ℕ) (arcs : List Arc) (keys : List ℕ) (is : keys ≡ map key arcs) (node front : ℕ) where
  pub none_first : IsFront keys (length keys) node front → (k : ℕ) (d : Arc) → front ≤ k → k < length arcs → key (get_or arcs k d) ≢ node
  none_first f k d le lt e =
      let long : length keys ≡ length arcs = ap length is ∙ length-map arcs key in
      f.none_behind k le (omega (arith, long, lt)) (ap (λ z. get_or z k 0) is ∙ key_at key arcs k d lt ∙ e)

  module _ (at : IsAt keys node front) (some : 0 < front) where
    pub in_arcs : front - 1 < length arcs
    in_arcs = omega (arith, at.within, some, ap length is, length-map arcs key)

    pub key_here : (d : Arc) → key (get_or arcs (front - 1) d) ≡ node
    key_here d = sym (key_at key arcs (front - 1) d in_arcs) ∙ sym (ap (λ z. get_or z (front - 1) 0) is) ∙ at.last some

    -- what holds of the arcs behind the front, and of the last of it, holds of those behind the next front
    pub ends_next : (P : Arc → Type 0) (next : ℕ) → IsFront keys (front - 1) (get_or keys (front - 1) 0) next
        → ((k : ℕ) (d : Arc) → front ≤ k → k < length arcs → key (get_or arcs k d) ≡ node → P (get_or arcs k d))
        → ((d : Arc) → P (get_or arcs (front - 1) d)) → (k : ℕ) (d : Arc) → next ≤ k → k < length arcs → key (get_or arcs k d) ≡ node → P (get_or arcs k d)
    ends_next P next f behind here k d le lt e = elim (cases_lt k (front - 1)) [
      | inl less ↦ absurd (none_next keys node front at some next f k le less (ap (λ z. get_or z k 0) is ∙ key_at key arcs k d lt ∙ e))
      | inr more ↦ elim (cases_eq k (front - 1)) [
        | inl same ↦ subst (λ z. P (get_or arcs z d)) (sym same) (here d)
        | inr other ↦ behind k d (omega (arith, more, other)) lt e
      ]
    ]
