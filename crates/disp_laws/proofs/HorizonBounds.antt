-- No walk of a node without a cycle is longer than the horizon.
use Rattle.std.proofs.Common.{◌≡◌, ℕ, zero, suc, ◌+◌, ◌<◌, ◌≤◌, List, [], ◌∷◌, ◌++◌, length, get_or, take, map, Option, Some, None, Bool, true, false, cond, refl, ap, subst, ◌∙◌, arith, inl, inr}
use Rattle.std.specs.Prelude.{nat_eq, slice_get, unwrap_or, sum_by, ◌&&◌, max}
use Rattle.std.specs.Option.{option_map_or}
use Rattle.std.proofs.lemmas.Option.{none-some, same_Some, slice_get_within, get_or_from_slice_get}
use Rattle.std.proofs.lemmas.List.Sums.{sum_by_more, sum_by-take-le}
use Rattle.disp_model.specs.declared.limits.TheConstants.{GREATEST_NUMBER}
use Rattle.disp_model.specs.declared.train.Op.{Op}
use Rattle.disp_model.specs.declared.train.Operation.{Operation}
use Rattle.disp_model.specs.declared.fixing.Fixing.{Fixing}
use Rattle.disp_model.specs.declared.fixing.Fixing.TheVariants.{Started, Chosen, NotBefore}
use Rattle.disp_model.specs.declared.fixing.Change.{Change}
use Rattle.disp_model.specs.declared.fixing.Change.TheVariants.{Fix, Withdraw}
use Rattle.disp_model.specs.declared.reply.Reply.TheVariants.{Accepted, Refused}
use Rattle.disp_model.specs.declared.reply.Refusal.TheVariants.{TooLarge}
use Rattle.disp_model.specs.declared.problem.Problem.{Problem}
use Rattle.disp_model.specs.WellFormed.{span_of, horizon}
use Rattle.disp_model.specs.Changes.{standing_of, standing_from, is_withdrawn}
use Rattle.disp_model.specs.Valid.{train_at}
use Rattle.disp_model.specs.Node.{Node}
use Rattle.disp_model.specs.Arcs.{min_of}
use Rattle.disp_model.specs.Walks.{fixed_start, not_before, lower_of, IsWalk, HasCycle}
use Rattle.disp_model.specs.Replies.{RepliesToStart, RepliesToEarliest, IsReply, IsEdition}
use Rattle.disp_laws.proofs.Tightened.{within_row, at_least, by_place}
use Rattle.disp_laws.proofs.LongestWalks.{Among, Once, EachAmong, cut, each_cut_out, among_all_ops, all_ops_up_to, ops_up_to, all_ops, forced_among}
use Rattle.disp_laws.proofs.Charges.{sum_ops, most_released}
use Rattle.disp_laws.proofs.Horizon.{walk_charge, sum_append}

-- ---- a sum over operations that stand once is within the sum over all

each_among : (xs all : List Op) → ((x : Op) → Among x xs → Among x all) → EachAmong xs all
each_among [] all each = tt
each_among (x ∷ xs) all each = (each x (inl refl), each_among xs all (λ y there. each y (inr there)))

sum_once : (f : Op → ℕ) (xs all : List Op) → Once xs → EachAmong xs all → sum_ops f xs ≤ sum_ops f all
sum_once f [] all once each = omega arith
sum_once f (x ∷ xs) all once each =
    let parts = cut x all each.0 in
    let rest = each_cut_out x parts.front parts.back xs (subst (EachAmong xs) parts.is each.1) once.0 in
    let later = sum_once f xs (parts.front ++ parts.back) once.1 rest in
    let whole : sum_ops f all ≡ sum_ops f parts.front + sum_ops f (x ∷ parts.back) = ap (sum_ops f) parts.is ∙ sum_append f parts.front (x ∷ parts.back) in
    omega (arith, later, whole, sum_append f parts.front parts.back)

sum_two : (f g : Op → ℕ) (xs : List Op) → sum_ops f xs + sum_ops g xs ≡ sum_ops (λ o. f o + g o) xs
sum_two f g [] = omega arith
sum_two f g (x ∷ xs) = omega (arith, sum_two f g xs)

-- ---- the sum over all operations is that of the horizon

-- what an operation can be charged with
span_at : Problem → Op → ℕ
span_at problem o = min_of problem o + most_released problem o

pub get_within : {X : Type 0} (xs : List X) (k : ℕ) → k < length xs → (x : X) × (slice_get xs k ≡ Some x)
get_within [] k lt = absurd (omega arith)
get_within (x ∷ xs) zero lt = (x, refl)
get_within (x ∷ xs) (suc k) lt = get_within xs k (omega arith)

span_is : (problem : Problem) (t k : ℕ) (p : Operation) → slice_get (train_at problem t) k ≡ Some p → span_at problem (record { train = t; op = k }) ≡ span_of p
unfolding span_at
span_is problem t k p at = rw at refl

train_sum : (problem : Problem) (t k : ℕ) → k ≤ length (train_at problem t) → sum_ops (span_at problem) (ops_up_to t k) ≡ sum_by span_of (take k (train_at problem t))
unfolding ops_up_to
train_sum problem t zero le = refl
train_sum problem t (suc k) le =
    let train = train_at problem t in
    let at = get_within train k (omega (arith, le)) in
    let more = sum_by_more span_of train k at.0 (omega (arith, le)) in
    let same : get_or train k at.0 ≡ at.0 = get_or_from_slice_get train k at.0 at.0 at.1 in
    let value : span_of (get_or train k at.0) ≡ span_of at.0 = ap span_of same in
    let suc_is : k + 1 ≡ suc k = omega arith in
    let next : sum_by span_of (take (suc k) train) ≡ sum_by span_of (take k train) + span_of (get_or train k at.0) = subst (λ (n : ℕ). sum_by span_of (take n train) ≡ sum_by span_of (take k train) + span_of (get_or train k at.0)) suc_is more in
    omega (arith, next, value, span_is problem t k at.0 at.1, train_sum problem t k (omega (arith, le)))

trains_sum : (problem : Problem) (n : ℕ) → n ≤ length problem.trains → sum_ops (span_at problem) (all_ops_up_to problem n) ≤ sum_by (λ train. sum_by span_of train) (take n problem.trains)
unfolding all_ops_up_to
trains_sum problem zero le = omega arith
trains_sum problem (suc n) le =
    let train = train_at problem n in
    let own = train_sum problem n (length train) (omega arith) in
    let more = sum_by_more (λ train. sum_by span_of train) problem.trains n [] (omega (arith, le)) in
    let suc_is : n + 1 ≡ suc n = omega arith in
    let next : sum_by (λ train. sum_by span_of train) (take (suc n) problem.trains) ≡ sum_by (λ train. sum_by span_of train) (take n problem.trains) + sum_by span_of (get_or problem.trains n []) =
    subst (λ (m : ℕ). sum_by (λ train. sum_by span_of train) (take m problem.trains) ≡ sum_by (λ train. sum_by span_of train) (take n problem.trains) + sum_by span_of (get_or problem.trains n [])) suc_is more in
    omega (arith, next, own, sum_by-take-le span_of train (length train), trains_sum problem n (omega (arith, le)), sum_append (span_at problem) (ops_up_to n (length train)) (all_ops_up_to problem n))

-- ---- lowers are within the greatest number

-- the times of a fixing are within the limit
abbrev pub IsSmall : Fixing → Type 0
IsSmall (Started t o time) = time ≤ GREATEST_NUMBER
IsSmall (Chosen t o next) = Unit {0}
IsSmall (NotBefore t o time) = time ≤ GREATEST_NUMBER

abbrev pub AreSmall : List Fixing → Type 0
AreSmall [] = Unit {0}
AreSmall (fixing ∷ fixings) = IsSmall fixing × AreSmall fixings

each_standing_is_small : (all changes : List Change) (number : ℕ) → ((i : ℕ) (fixing : Fixing) → slice_get changes i ≡ Some (Fix fixing) → IsSmall fixing) → AreSmall (map (λ p. p.1) (standing_from all number changes))
each_standing_is_small all [] number each = tt
each_standing_is_small all (Withdraw other ∷ changes) number each = each_standing_is_small all changes (number + 1) (λ i fixing at. each (suc i) fixing at)
each_standing_is_small all (Fix fixing ∷ changes) number each = here (is_withdrawn number all) (each_standing_is_small all changes (number + 1) (λ i other at. each (suc i) other at))
  where
    here : (b : Bool) → AreSmall (map (λ p. p.1) (standing_from all (number + 1) changes))
        → AreSmall (map (λ p. p.1) (cond b (standing_from all (number + 1) changes) ((number, fixing) ∷ standing_from all (number + 1) changes)))
    here true later = later
    here false later = (each 0 fixing refl, later)

accepted_is_small : (problem : Problem) (changes : List Change) (fixing : Fixing) (n : ℕ) → IsReply problem changes (Fix fixing) (Accepted n) → IsSmall fixing
accepted_is_small problem changes (Started t o time) n reply =
    let found = by_place problem t o (Accepted n) (λ operation. RepliesToStart problem changes t o time operation (Accepted n)) (λ e. absurd cc) (λ e. absurd cc) reply in
    at_least time GREATEST_NUMBER (within_row (Refused TooLarge) n (λ e. absurd cc) found.2).0
accepted_is_small problem changes (Chosen t o next) n reply = tt
accepted_is_small problem changes (NotBefore t o time) n reply =
    let found = by_place problem t o (Accepted n) (λ operation. RepliesToEarliest changes t o time (Accepted n)) (λ e. absurd cc) (λ e. absurd cc) reply in
    at_least time GREATEST_NUMBER (within_row (Refused TooLarge) n (λ e. absurd cc) found.2).0

-- the times of an edition's fixings are within the limit
pub edition_is_small : (problem : Problem) (changes : List Change) → IsEdition problem changes → AreSmall (standing_of changes)
edition_is_small problem changes edition =
    each_standing_is_small changes changes 1 (λ i fixing at. accepted_is_small problem (take i changes) fixing (i + 1) (edition i (Fix fixing) at))

fixed_is_small : (fixings : List Fixing) (o : Op) (time : ℕ) → AreSmall fixings → fixed_start fixings o ≡ Some time → time ≤ GREATEST_NUMBER
fixed_is_small [] o time small at = absurd (none-some time at)
fixed_is_small (Chosen t p next ∷ fixings) o time small at = fixed_is_small fixings o time small.1 at
fixed_is_small (NotBefore t p s ∷ fixings) o time small at = fixed_is_small fixings o time small.1 at
fixed_is_small (Started t p s ∷ fixings) o time small at = here ((nat_eq t o.train) && (nat_eq p o.op)) at (λ h. fixed_is_small fixings o time small.1 h)
  where
    here : (b : Bool) → cond b (Some s) (fixed_start fixings o) ≡ Some time → (fixed_start fixings o ≡ Some time → time ≤ GREATEST_NUMBER) → time ≤ GREATEST_NUMBER
    here true at later = omega (arith, small.0, same_Some s time at)
    here false at later = later at

not_before_is_small : (fixings : List Fixing) (o : Op) → AreSmall fixings → not_before fixings o ≤ GREATEST_NUMBER
not_before_is_small [] o small = omega arith
not_before_is_small (Started t p s ∷ fixings) o small = not_before_is_small fixings o small.1
not_before_is_small (Chosen t p next ∷ fixings) o small = not_before_is_small fixings o small.1
not_before_is_small (NotBefore t p s ∷ fixings) o small = here ((nat_eq t o.train) && (nat_eq p o.op)) (not_before_is_small fixings o small.1)
  where
    here : (b : Bool) → not_before fixings o ≤ GREATEST_NUMBER → cond b (max s (not_before fixings o)) (not_before fixings o) ≤ GREATEST_NUMBER
    here true later = omega (arith, small.0, later)
    here false later = later

pub lower_within : (node : Node) (o : Op) → AreSmall node.fixings → o.train < length node.problem.trains → lower_of node.problem node.fixings o ≤ GREATEST_NUMBER
lower_within node o small there = by_fixed (fixed_start node.fixings o) refl
  where
    own : (found : Option Operation) → slice_get (train_at node.problem o.train) o.op ≡ found → option_map_or (λ p. p.lower) found 0 ≤ GREATEST_NUMBER
    own None at = omega arith
    own (Some p) at =
        let fits = node.problem.well_formed.numbers o.train [] there o.op p (slice_get_within (train_at node.problem o.train) o.op p at) in
        let same : get_or (train_at node.problem o.train) o.op p ≡ p = get_or_from_slice_get (train_at node.problem o.train) o.op p p at in
        subst (λ (q : Operation). q.lower ≤ GREATEST_NUMBER) same fits.lower

    by_fixed : (fixed : Option ℕ) → fixed_start node.fixings o ≡ fixed
        → unwrap_or fixed (max (option_map_or (λ p. p.lower) (slice_get (train_at node.problem o.train) o.op) 0) (not_before node.fixings o)) ≤ GREATEST_NUMBER
    by_fixed None at = omega (arith, own (slice_get (train_at node.problem o.train) o.op) refl, not_before_is_small node.fixings o small)
    by_fixed (Some time) at = fixed_is_small node.fixings o time small at

-- ---- the horizon

pub within_horizon : (node : Node) (walk : List Op) (total : ℕ) → AreSmall node.fixings → (HasCycle node → ⊥) → IsWalk node walk total → total ≤ horizon node.problem.trains
unfolding all_ops span_at
within_horizon node [] total small no_cycle walk = absurd walk
within_horizon node (u ∷ rest) total small no_cycle walk =
    let n = length node.problem.trains in
    let charge = walk_charge node no_cycle u (lower_of node.problem node.fixings u) rest total walk.1 in
    let mins = sum_once (min_of node.problem) charge.mins (all_ops node.problem) charge.mins_once (each_among charge.mins (all_ops node.problem) (λ x there. let inside = charge.mins_inside x there in among_all_ops node.problem x n inside.0 inside.1)) in
    let releases = sum_once (most_released node.problem) charge.releases (all_ops node.problem) charge.releases_once (each_among charge.releases (all_ops node.problem) (λ h there. forced_among node h (charge.releases_forced h there))) in
    let lower = lower_within node u small walk.0.train in
    omega (arith, charge.enough, mins, releases, lower, sum_two (min_of node.problem) (most_released node.problem) (all_ops node.problem), trains_sum node.problem n (omega arith), sum_by-take-le (λ train. sum_by span_of train) node.problem.trains n)
