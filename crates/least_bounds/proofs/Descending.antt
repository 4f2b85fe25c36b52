-- What the root of a tournament says of the places.
use Rattle.std.proofs.Common.{◌≡◌, ◌≢◌, ◌∙◌, ℕ, zero, suc, ◌+◌, ◌-◌, ◌*◌, ◌/◌, ◌<◌, ◌≤◌, List, length, inl, inr, drop, refl, sym, ap, subst, arith}
use Rattle.std.specs.Prelude.{Option, Some, None, ◌⊎◌, MatchOption}
use Rattle.std.proofs.lemmas.Bool.{cases_eq, cases_lt}
use Rattle.std.proofs.lemmas.List.{get_or_past, get_or-drop}
use Rattle.least_bounds.specs.Tournaments.{bound_at, lesser_bound, LiesBelow, NoneLiesBelow, HasNoBound, IsLeastBoundOf, IsLesserNode, IsTournament}

left_below : (x y limit : Option ℕ) → LiesBelow x limit → LiesBelow (lesser_bound x y) limit
left_below None y limit h = absurd h
left_below (Some a) None limit h = h
left_below (Some a) (Some b) None h = tt
left_below (Some a) (Some b) (Some l) h = omega (arith, h)

right_below : (x y limit : Option ℕ) → LiesBelow y limit → LiesBelow (lesser_bound x y) limit
right_below None y limit h = h
right_below (Some a) None limit h = absurd h
right_below (Some a) (Some b) None h = tt
right_below (Some a) (Some b) (Some l) h = omega (arith, h)

either_below : (x y limit : Option ℕ) → LiesBelow (lesser_bound x y) limit → LiesBelow x limit ⊎ LiesBelow y limit
either_below None y limit h = inr h
either_below (Some a) None limit h = inl h
either_below (Some a) (Some b) None h = inl tt
either_below (Some a) (Some b) (Some l) h = elim (cases_lt a l) [ inl lt ↦ inl lt | inr le ↦ inr (omega (arith, h, le)) ]

-- a node that is there
pub below_within : (nodes : List (Option ℕ)) (i : ℕ) (limit : Option ℕ) → LiesBelow (bound_at nodes i) limit → i < length nodes
below_within nodes i limit h = elim (cases_lt i (length nodes)) [
  | inl lt ↦ lt
  | inr le ↦ absurd (subst (λ (o : Option ℕ). LiesBelow o limit) (get_or_past nodes i None le) h)
]

module _ (nodes : List (Option ℕ)) (room : ℕ) (tree : IsTournament nodes room) (limit : Option ℕ) where
  up : (i h : ℕ) → 1 ≤ h → h < room → (i ≡ 2 * h) ⊎ (i ≡ 2 * h + 1) → LiesBelow (bound_at nodes i) limit → LiesBelow (bound_at nodes h) limit
  up i h some lt (inl e) below = subst (λ (o : Option ℕ). LiesBelow o limit) (sym (tree.inner h some lt))
      (left_below (bound_at nodes (2 * h)) (bound_at nodes (2 * h + 1)) limit (subst (λ (k : ℕ). LiesBelow (bound_at nodes k) limit) e below))
  up i h some lt (inr e) below = subst (λ (o : Option ℕ). LiesBelow o limit) (sym (tree.inner h some lt))
      (right_below (bound_at nodes (2 * h)) (bound_at nodes (2 * h + 1)) limit (subst (λ (k : ℕ). LiesBelow (bound_at nodes k) limit) e below))

  half : (i : ℕ) → (i ≡ 2 * (i / 2)) ⊎ (i ≡ 2 * (i / 2) + 1)
  half i = elim (cases_eq i (2 * (i / 2))) [ inl e ↦ inl e | inr ne ↦ inr (omega (arith, ne)) ]

  root_below : (fuel i : ℕ) → i ≤ fuel → 1 ≤ i → LiesBelow (bound_at nodes i) limit → LiesBelow (bound_at nodes 1) limit
  root_below zero i le some below = absurd (omega (arith, le, some))
  root_below (suc fuel) i le some below = elim (cases_eq i 1) [
    | inl e ↦ subst (λ (k : ℕ). LiesBelow (bound_at nodes k) limit) e below
    | inr ne ↦
        let within : i < length nodes = below_within nodes i limit below in
        root_below fuel (i / 2) (omega (arith, le, ne, some)) (omega (arith, ne, some))
        (up i (i / 2) (omega (arith, ne, some)) (omega (arith, within, tree.ends)) (half i) below)
  ]

  -- what lies below the limit at a place does at the root
  pub from_place : (place : ℕ) → LiesBelow (bound_at (drop room nodes) place) limit → LiesBelow (bound_at nodes 1) limit
  from_place place below =
      let there : LiesBelow (bound_at nodes (room + place)) limit = subst (λ (o : Option ℕ). LiesBelow o limit) (get_or-drop room nodes place None) below in
      let within : room + place < length nodes = below_within nodes (room + place) limit there in
      root_below (room + place) (room + place) (omega arith) (omega (arith, within, tree.ends)) there

  -- a node behind the inner ones is a place
  pub at_place : (node : ℕ) → room ≤ node → LiesBelow (bound_at nodes node) limit → LiesBelow (bound_at (drop room nodes) (node - room)) limit
  at_place node le below =
      let e : room + (node - room) ≡ node = omega (arith, le) in
      subst (λ (o : Option ℕ). LiesBelow o limit) (ap (bound_at nodes) (sym e) ∙ sym (get_or-drop room nodes (node - room) None)) below

  down : (fuel i : ℕ) → room ≤ i + fuel → 1 ≤ i → LiesBelow (bound_at nodes i) limit → (place : ℕ) × LiesBelow (bound_at (drop room nodes) place) limit
  down zero i le some below = (i - room, at_place i (omega (arith, le)) below)
  down (suc fuel) i le some below = elim (cases_lt i room) [
    | inr past ↦ (i - room, at_place i past below)
    | inl lt ↦ elim (either_below (bound_at nodes (2 * i)) (bound_at nodes (2 * i + 1)) limit (subst (λ (o : Option ℕ). LiesBelow o limit) (tree.inner i some lt) below)) [
      | inl left ↦ down fuel (2 * i) (omega (arith, le, some)) (omega (arith, some)) left
      | inr right ↦ down fuel (2 * i + 1) (omega (arith, le, some)) (omega (arith, some)) right
    ]
  ]

  -- what lies below the limit at the root does at some place
  pub to_place : LiesBelow (bound_at nodes 1) limit → (place : ℕ) × LiesBelow (bound_at (drop room nodes) place) limit
  to_place below = down room 1 (omega arith) (omega arith) below

  -- a node below the limit, on the way down
  pub next_below : (i child : ℕ) → 1 ≤ i → i < room → LiesBelow (bound_at nodes i) limit
      → (LiesBelow (lesser_bound (bound_at nodes (2 * i)) (bound_at nodes (2 * i + 1))) limit → LiesBelow (bound_at nodes child) limit) → LiesBelow (bound_at nodes child) limit
  next_below i child some lt below goes = goes (subst (λ (o : Option ℕ). LiesBelow o limit) (tree.inner i some lt) below)

bound_below : (o : Option ℕ) (limit : ℕ) → LiesBelow o (Some limit) → (bound : ℕ) × (o ≡ Some bound) × (bound < limit)
bound_below None limit h = absurd h
bound_below (Some bound) limit h = (bound, refl, h)

some_below : (o : Option ℕ) (bound : ℕ) → o ≡ Some bound → LiesBelow o (Some (bound + 1))
some_below o bound e = subst (λ (x : Option ℕ). LiesBelow x (Some (bound + 1))) (sym e) (omega arith)

module _ (nodes : List (Option ℕ)) (room : ℕ) (tree : IsTournament nodes room) where
  no_bound : bound_at nodes 1 ≡ None → HasNoBound (drop room nodes)
  no_bound none place = by_bound (bound_at (drop room nodes) place) refl
    where
      by_bound : (o : Option ℕ) → bound_at (drop room nodes) place ≡ o → o ≡ None
      by_bound None e = refl
      by_bound (Some bound) e = absurd (subst (λ (o : Option ℕ). LiesBelow o (Some (bound + 1))) none
          (from_place nodes room tree (Some (bound + 1)) place (some_below (bound_at (drop room nodes) place) bound e)))

  least_at : (least : ℕ) → bound_at nodes 1 ≡ Some least → IsLeastBoundOf (drop room nodes) least
  least_at least root =
      let lower : (other bound : ℕ) → bound_at (drop room nodes) other ≡ Some bound → least ≤ bound = λ other bound e.
      let below : least < bound + 1 = subst (λ (o : Option ℕ). LiesBelow o (Some (bound + 1))) root
      (from_place nodes room tree (Some (bound + 1)) other (some_below (bound_at (drop room nodes) other) bound e)) in omega (arith, below) in
      let (place, below) = to_place nodes room tree (Some (least + 1)) (some_below (bound_at nodes 1) least root) in
      let (bound, there, less) = bound_below (bound_at (drop room nodes) place) (least + 1) below in
      let same : bound ≡ least = omega (arith, less, lower place bound there) in
      record { place = place; there = there ∙ ap Some same; lower = lower }

  -- the root is the least bound
  pub root_least : (o : Option ℕ) → bound_at nodes 1 ≡ o → MatchOption o (HasNoBound (drop room nodes)) (IsLeastBoundOf (drop room nodes))
  root_least None e = no_bound e
  root_least (Some least) e = least_at least e
