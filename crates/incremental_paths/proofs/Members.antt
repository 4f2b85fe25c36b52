-- What a list contains, and the longest arc between two nodes.
use Rattle.std.proofs.Common.{◌≡◌, ℕ, zero, suc, ◌<◌, ◌≤◌, Bool, true, List, [], ◌∷◌, ◌⊎◌, inl, inr, length, get_or, map, refl, sym, ap, ◌∙◌, subst, arith, Contains, filter, cond}
use Rattle.std.proofs.lemmas.Bool.Decides.{nat_tests}
use Rattle.incremental_paths.specs.declared.arc.Arc.{Arc}
use Rattle.incremental_paths.specs.Walks.{JoinsPair, longest_arc}

pub Contains-here : {X : Type 0} (x : X) (xs : List X) → Contains (x ∷ xs) x
Contains-here x xs = (0, omega arith, refl)

pub Contains-there : {X : Type 0} (x y : X) (xs : List X) → Contains xs y → Contains (x ∷ xs) y
Contains-there x y xs c = (suc c.0, omega arith, c.2)

pub at_cons : {X : Type 0} (x y : X) (xs : List X) (k : ℕ) → k < length (x ∷ xs) → get_or (x ∷ xs) k y ≡ y → (x ≡ y) ⊎ Contains xs y
at_cons x y xs zero l e = inl e
at_cons x y xs (suc k) l e = inr (k, omega arith, e)

pub Contains-cons_cases : {X : Type 0} (x y : X) (xs : List X) → Contains (x ∷ xs) y → (x ≡ y) ⊎ Contains xs y
Contains-cons_cases x y xs c = at_cons x y xs c.0 c.1 c.2

pub Contains-nil : {X : Type 0} (y : X) → Contains [] y → ⊥
Contains-nil y c = omega (arith, c.1)

pub Contains-map : {X Y : Type 0} (f : X → Y) (xs : List X) (x : X) → Contains xs x → Contains (map f xs) (f x)
Contains-map f [] x c = absurd (Contains-nil x c)
Contains-map f (y ∷ ys) x c =
    elim (Contains-cons_cases y x ys c) [
      | inl e ↦ subst (λ z. Contains (map f (y ∷ ys)) (f z)) e (Contains-here (f y) (map f ys))
      | inr d ↦ Contains-there (f y) (f x) (map f ys) (Contains-map f ys x d)
    ]

pub Contains-map_from : {X Y : Type 0} (f : X → Y) (xs : List X) (y : Y) → Contains (map f xs) y → (x : X) × Contains xs x × (f x ≡ y)
Contains-map_from f [] y c = absurd (Contains-nil y c)
Contains-map_from f (x ∷ xs) y c =
    elim (Contains-cons_cases (f x) y (map f xs) c) [
      | inl e ↦ (x, Contains-here x xs, e)
      | inr d ↦ let h = Contains-map_from f xs y d in (h.0, Contains-there x h.0 xs h.1, h.2)
    ]

pub Contains-filter : {X : Type 0} (p : X → Bool) (xs : List X) (x : X) → Contains xs x → p x ≡ true → Contains (filter p xs) x
Contains-filter p [] x c e = absurd (Contains-nil x c)
Contains-filter p (y ∷ ys) x c e =
    elim (Contains-cons_cases y x ys c) [
      | inl same ↦ rw (ap p same ∙ e) (subst (λ z. Contains (y ∷ filter p ys) z) same (Contains-here y (filter p ys)))
      | inr d ↦ elim (p y) as (λ b. Contains (cond b (y ∷ filter p ys) (filter p ys)) x) [
        | true ↦ Contains-there y x (filter p ys) (Contains-filter p ys x d e)
        | _ ↦ Contains-filter p ys x d e
      ]
    ]

-- each arc of the one list stands in the other
abbrev pub IsPart : List Arc → List Arc → Type 0
IsPart xs ys = (a : Arc) → Contains xs a → Contains ys a

pub joined : (arcs : List Arc) (a : Arc) (u v : ℕ) → Contains arcs a → a.from ≡ u → a.to ≡ v → JoinsPair arcs u v
joined arcs a u v c f t = (c.0, a, c.1, c.2, (f, t))

pub joining : (arcs : List Arc) (u v : ℕ) → JoinsPair arcs u v → (a : Arc) × Contains arcs a × (a.from ≡ u) × (a.to ≡ v)
joining arcs u v j = (j.1, (j.0, j.2, j.3), j.4.0, j.4.1)

pub joined_part : (xs ys : List Arc) → IsPart xs ys → (u v : ℕ) → JoinsPair xs u v → JoinsPair ys u v
joined_part xs ys part u v j = let a = joining xs u v j in joined ys a.0 u v (part a.0 a.1) a.2 a.3

longest_head : (a : Arc) (arcs : List Arc) (u v : ℕ) → a.from ≡ u → a.to ≡ v → a.length ≤ longest_arc (a ∷ arcs) u v
longest_head a arcs u v f t = grind (arith, nat_tests)

longest_tail : (a : Arc) (arcs : List Arc) (u v : ℕ) → longest_arc arcs u v ≤ longest_arc (a ∷ arcs) u v
longest_tail a arcs u v = grind (arith, nat_tests)

-- no arc is longer than the longest
pub longest_ge : (arcs : List Arc) (a : Arc) (u v : ℕ) → Contains arcs a → a.from ≡ u → a.to ≡ v → a.length ≤ longest_arc arcs u v
longest_ge [] a u v c f t = absurd (Contains-nil a c)
longest_ge (b ∷ arcs) a u v c f t =
    elim (Contains-cons_cases b a arcs c) [
      | inl same ↦ subst (λ z. a.length ≤ longest_arc (z ∷ arcs) u v) (sym same) (longest_head a arcs u v f t)
      | inr d ↦ omega (arith, longest_ge arcs a u v d f t, longest_tail b arcs u v)
    ]

longest_cons : (a : Arc) (arcs : List Arc) (u v bound : ℕ) → (a.from ≡ u → a.to ≡ v → a.length ≤ bound) → longest_arc arcs u v ≤ bound → longest_arc (a ∷ arcs) u v ≤ bound
longest_cons a arcs u v bound here there = grind (arith, nat_tests)

-- the longest is no longer than what bounds each
pub longest_le : (arcs : List Arc) (u v bound : ℕ) → ((a : Arc) → Contains arcs a → a.from ≡ u → a.to ≡ v → a.length ≤ bound) → longest_arc arcs u v ≤ bound
longest_le [] u v bound each = omega arith
longest_le (a ∷ arcs) u v bound each =
    longest_cons a arcs u v bound (each a (Contains-here a arcs)) (longest_le arcs u v bound (λ b c. each b (Contains-there a b arcs c)))

pub longest_part : (xs ys : List Arc) → IsPart xs ys → (u v : ℕ) → longest_arc xs u v ≤ longest_arc ys u v
longest_part xs ys part u v = longest_le xs u v (longest_arc ys u v) (λ a c f t. longest_ge ys a u v (part a c) f t)
