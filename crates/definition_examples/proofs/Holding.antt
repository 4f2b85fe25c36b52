-- A train of two operations, the second behind the first, has one route.
use Rattle.std.proofs.Common.{◌≡◌, ℕ, zero, suc, ◌<◌, List, [], ◌∷◌, ◌++◌, refl, subst, ap, arith, rules}
use Rattle.disp_model.specs.declared.train.Listing.{Listing}
use Rattle.disp_model.specs.declared.train.Operation.{Operation}
use Rattle.disp_model.specs.Train.{GoesOn, IsRoute}
use Rattle.definition_examples.specs.Trains.{lasting}
use Rattle.definition_examples.proofs.Contained.{nil_parts}

-- a train of two operations
abbrev pub couple : ℕ → List Listing → ℕ → List Listing → List Operation
couple m ls n ks = lasting m ls (1 ∷ []) ∷ lasting n ks [] ∷ []

-- its route
abbrev pub both : List ℕ
both = 0 ∷ 1 ∷ []

pub route_there : (m : ℕ) (ls : List Listing) (n : ℕ) (ks : List Listing) → IsRoute (couple m ls n ks) both
route_there m ls n ks = search rules

goes_on_from_1 : (m : ℕ) (ls : List Listing) (n : ℕ) (ks : List Listing) (rest : List ℕ) → GoesOn (couple m ls n ks) 1 rest → rest ≡ []
goes_on_from_1 m ls n ks [] h = refl
goes_on_from_1 m ls n ks (s ∷ rest) h = absurd (grind (arith, h.0))

goes_on_from_0 : (m : ℕ) (ls : List Listing) (n : ℕ) (ks : List Listing) (rest : List ℕ) → GoesOn (couple m ls n ks) 0 rest → rest ≡ 1 ∷ []
goes_on_from_0 m ls n ks [] h = absurd (grind (arith, h.last))
goes_on_from_0 m ls n ks (s ∷ rest) h =
    let same : s ≡ 1 = grind (arith, h.0) in
    let on : GoesOn (couple m ls n ks) 1 rest = subst (λ x. GoesOn (couple m ls n ks) x rest) same h.1 in
    let nil : rest ≡ [] = goes_on_from_1 m ls n ks rest on in
    rw same (rw nil refl)

pub only_route : (m : ℕ) (ls : List Listing) (n : ℕ) (ks : List Listing) (route : List ℕ) → IsRoute (couple m ls n ks) route → route ≡ both
only_route m ls n ks [] h = absurd h
only_route m ls n ks (zero ∷ rest) h = ap (λ (xs : List ℕ). 0 ∷ xs) (goes_on_from_0 m ls n ks rest h.1)
only_route m ls n ks (suc zero ∷ rest) h = absurd (h.0.first 0 (0, omega arith, refl))
only_route m ls n ks (suc (suc o) ∷ rest) h = absurd (let t : suc (suc o) < 2 = h.0.there in omega (arith, t))

-- the route passes one operation behind another in one way
pub passed : (u v : ℕ) (before between behind : List ℕ) → both ≡ before ++ u ∷ (between ++ v ∷ behind) → (u ≡ 0) × (v ≡ 1) × (between ≡ [])
passed u v [] [] behind e = (grind (arith, e), grind (arith, e), refl)
passed u v [] (x ∷ []) behind e = absurd (grind (arith, e))
passed u v [] (x ∷ y ∷ between) behind e = absurd (grind (arith, e))
passed u v (p ∷ []) [] behind e = absurd (grind (arith, e))
passed u v (p ∷ []) (x ∷ between) behind e = absurd (grind (arith, e))
passed u v (p ∷ q ∷ before) between behind e = absurd (nil_parts before u (between ++ v ∷ behind) (grind (arith, e)))
