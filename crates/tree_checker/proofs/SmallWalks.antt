-- No walk is longer than a number of 127 bits holds.
use Rattle.std.proofs.Common.{◌≡◌, ℕ, suc, ◌+◌, ◌*◌, ◌^◌, ◌<◌, ◌≤◌, ◌⊎◌, List, [], ◌∷◌, ◌++◌, length, get_or, Option, Some, None, refl, ap, subst, inl, inr, arith}
use Rattle.std.specs.Prelude.{slice_get, sum_by, All, ◌↔◌, IfSome}
use Rattle.std.specs.Option.{option_map_or}
use Rattle.std.proofs.lemmas.Option.{slice_get_within, get_or_from_slice_get}
use Rattle.std.proofs.lemmas.List.{length-append}
use Rattle.std.proofs.lemmas.List.Sums.{sum_by-le}
use Rattle.disp_model.specs.declared.train.Op.{Op}
use Rattle.disp_model.specs.declared.train.Listing.{Listing}
use Rattle.disp_model.specs.declared.train.Operation.{Operation}
use Rattle.disp_model.specs.declared.problem.Problem.{Problem}
use Rattle.disp_model.specs.WellFormed.{greatest_release}
use Rattle.disp_model.specs.Train.{duration_of, IsRoute}
use Rattle.disp_model.specs.Valid.{train_at}
use Rattle.disp_model.specs.Node.{Node}
use Rattle.disp_model.specs.Arcs.{release_of, IsTrainArc, IsOrderArc, IsReleaseArc, IsArc}
use Rattle.disp_model.specs.Walks.{lower_of, WalksOn, IsWalk}
use Rattle.disp_laws.proofs.Charges.{release_within}
use Rattle.disp_laws.proofs.RouteSearch.{route_fits}
use Rattle.node_facts.proofs.Assembling.{is_acyclic, train_fits}

-- ---- numbers of an operation

duration_small : (problem : Problem) (t o : ℕ) → t < length problem.trains → duration_of (train_at problem t) o ≤ 2 ^ 31
duration_small problem t o there = by (slice_get (train_at problem t) o) refl
  where
    by : (found : Option Operation) → slice_get (train_at problem t) o ≡ found → option_map_or (λ p. p.min) found 0 ≤ 2 ^ 31
    by None at = omega arith
    by (Some p) at =
        let fits = problem.well_formed.numbers t [] there o p (slice_get_within (train_at problem t) o p at) in
        let same : get_or (train_at problem t) o p ≡ p = get_or_from_slice_get (train_at problem t) o p p at in
        let min = ap (λ (q : Operation). q.min) same in
        omega (arith, fits.min, min)

greatest_small : (listings : List Listing) → All (λ l. l.release ≤ 2 ^ 31) listings → greatest_release listings ≤ 2 ^ 31
greatest_small [] each = omega arith
greatest_small (l ∷ listings) each = omega (arith, each 0 l (omega arith), greatest_small listings (λ k d lt. each (suc k) d (omega (arith, lt))))

release_small : (problem : Problem) (a b : Op) → a.train < length problem.trains → release_of problem a b ≤ 2 ^ 31
release_small problem a b there = omega (arith, release_within problem a b, by (slice_get (train_at problem a.train) a.op) refl)
  where
    by : (found : Option Operation) → slice_get (train_at problem a.train) a.op ≡ found → greatest_release (option_map_or (λ p. p.listings) found []) ≤ 2 ^ 31
    by None at = omega arith
    by (Some p) at =
        let fits = problem.well_formed.numbers a.train [] there a.op p (slice_get_within (train_at problem a.train) a.op p at) in
        let same : get_or (train_at problem a.train) a.op p ≡ p = get_or_from_slice_get (train_at problem a.train) a.op p p at in
        let numbers = subst (λ (q : Operation). All (λ (l : Listing). l.release ≤ 2147483647) q.listings) same fits.releases in
        greatest_small p.listings (λ k d lt. omega (arith, numbers k d lt))

-- ---- arcs

arc_small : (node : Node) (u v : Op) (n : ℕ) → IsArc node u v n → n ≤ 2 ^ 62
arc_small node u v n arc = by arc.kind
  where
    train : List Operation
    train = train_at node.problem u.train

    there : u.train < length node.problem.trains
    there = arc.from_forced.train

    long : (route before rest : List ℕ) (o : ℕ) → IsRoute train route → route ≡ before ++ o ∷ rest → length (o ∷ rest) ≤ length train
    long [] before rest o is same = absurd is
    long (p ∷ route) before rest o is same =
        let fits = route_fits train p route (is_acyclic node.problem u.train there) is.1 in
        let whole = ap (λ (l : List ℕ). length l) same in
        omega (arith, fits, whole, length-append before (o ∷ rest))

    by : IsTrainArc node u v n ⊎ (IsOrderArc node.problem node.decisions u v n ⊎ IsReleaseArc node u v n) → n ≤ 2 ^ 62
    by (inl own) =
        let passes = own.reached.2 in
        let fits = long own.reached.0 passes.before (passes.between ++ v.op ∷ passes.behind) u.op own.reached.1.is_route passes.route_is in
        let parts = length-append passes.between (v.op ∷ passes.behind) in
        let sum = sum_by-le (duration_of train) (2 ^ 31) (u.op ∷ passes.between) (λ k d lt. duration_small node.problem u.train _ there) in
        product (length (u.op ∷ passes.between)) (sum_by (duration_of train) (u.op ∷ passes.between)) sum (omega (arith, fits, parts, train_fits node.problem u.train there)) passes.total_is
      where
        product : (count sum : ℕ) → sum ≤ count * 2 ^ 31 → count < 2 ^ 31 → n ≡ sum → n ≤ 2 ^ 62
        product count sum most few is = omega (arith, most, few, is)
    by (inr (inl order)) = omega (arith, order.length_is, duration_small node.problem u.train u.op there, release_small node.problem u v there)
    by (inr (inr release)) = omega (arith, release.length_is, release_small node.problem release.holder v release.forced.train)

-- ---- walks

walks_small : (node : Node) (u : Op) (walked : ℕ) (rest : List Op) (total : ℕ) → WalksOn node u walked rest total → total ≤ walked + length rest * 2 ^ 62
walks_small node u walked [] total walk = omega (arith, walk)
walks_small node u walked (v ∷ rest) total walk = omega (arith, walks_small node v (walked + walk.0) rest total walk.2, arc_small node u v walk.0 walk.1.there)

pub walk_small : (node : Node) (u : Op) (rest : List Op) (total lower count : ℕ) → lower ≡ lower_of node.problem node.fixings u → lower < 2 ^ 64 → count ≡ length rest → count < 2 ^ 64 → IsWalk node (u ∷ rest) total → total ≤ 2 ^ 127
walk_small node u rest total lower count lower_is low count_is few walk = omega (arith, lower_is, low, count_is, few, walks_small node u (lower_of node.problem node.fixings u) rest total walk.1)

-- as it is found
pub found_small : (node : Node) (u : Op) (rest : List Op) (found : Option ℕ) (lower count : ℕ) → lower ≡ lower_of node.problem node.fixings u → lower < 2 ^ 64 → count ≡ length rest → count < 2 ^ 64
    → ((n : ℕ) → (found ≡ Some n) ↔ IsWalk node (u ∷ rest) n) → IfSome found (λ n. n ≤ 2 ^ 127)
found_small node u rest None lower count lower_is low count_is few says = tt
found_small node u rest (Some total) lower count lower_is low count_is few says = walk_small node u rest total lower count lower_is low count_is few ((says total).0 refl)
