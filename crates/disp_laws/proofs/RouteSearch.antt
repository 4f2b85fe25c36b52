-- Whether a train has an allowed route is decided by a search through lists; so a least sum of durations exists.
use Rattle.std.proofs.Common.{◌≡◌, ℕ, zero, suc, ◌<◌, ◌≤◌, List, [], ◌∷◌, ◌++◌, length, get_or, map, Option, Some, None, true, false, refl, sym, ap, subst, arith, inl, inr}
use Rattle.std.specs.Prelude.{nat_eq, Contains, All, ◌⊎◌}
use Rattle.std.specs.List.{list_any, IsDistinct, AllByRecursion}
use Rattle.std.proofs.lemmas.Bool.{cases_Bool, cases_lt, eqb-true, eqb-false, false≢true}
use Rattle.std.proofs.lemmas.Option.{none-some, same_Some}
use Rattle.std.proofs.lemmas.List.Elements.{All-contains, All-tail, Contains-append_left, Contains-append_right, Contains-get_or}
use Rattle.std.proofs.lemmas.Map.Steps.{length-le_from_distinct_below}
use Rattle.disp_model.specs.declared.train.Op.{Op}
use Rattle.disp_model.specs.declared.train.Operation.{Operation}
use Rattle.disp_model.specs.declared.fixing.Fixing.{Fixing}
use Rattle.disp_model.specs.declared.fixing.Fixing.TheVariants.{Started, Chosen, NotBefore}
use Rattle.disp_model.specs.declared.decision.Decision.{Decision}
use Rattle.disp_model.specs.declared.decision.Decision.TheVariants.{Go, First, Run, Skip}
use Rattle.disp_model.specs.Train.{next_of, IsSuccessor, IsEntry, IsExit, GoesOn, IsRoute}
use Rattle.disp_model.specs.WellFormed.{IsAcyclic}
use Rattle.disp_model.specs.Fixing.{after}
use Rattle.disp_model.specs.Valid.{train_at}
use Rattle.disp_model.specs.Node.{Node}
use Rattle.disp_model.specs.Routes.{AgreesWithFixing, AgreesWithDecision, IsAllowed, HasRoute, IsForced}
use Rattle.disp_laws.proofs.Branching.{contains_map}
use Rattle.disp_laws.proofs.Paths.{IsIn, is_in, contains_in, in_or_not, never_again}

-- ---- what is decided

abbrev pub Decided : Type 0 → Type 0
Decided P = P ⊎ (P → ⊥)

pub contained_or_not : (o : ℕ) (ops : List ℕ) → Decided (Contains ops o)
contained_or_not o ops = elim (in_or_not o ops) [ inl h ↦ inl (contains_in o ops h) | inr n ↦ inr (λ h. n (is_in o ops h)) ]

pub same_option : (a b : Option ℕ) → Decided (a ≡ b)
same_option None None = inl refl
same_option None (Some y) = inr (λ e. none-some y e)
same_option (Some x) None = inr (λ e. none-some x (sym e))
same_option (Some x) (Some y) = elim (cases_Bool (nat_eq x y)) [
  | inl is ↦ inl (ap (λ (n : ℕ). Some n) (eqb-true x y is))
  | inr is ↦ inr (λ e. eqb-false x y is (same_Some x y e))
]

pub same_number : (x y : ℕ) → Decided (x ≡ y)
same_number x y = elim (cases_Bool (nat_eq x y)) [ inl is ↦ inl (eqb-true x y is) | inr is ↦ inr (λ e. eqb-false x y is e) ]

pub both : {P Q : Type 0} → Decided P → Decided Q → Decided (P × Q)
both (inl p) (inl q) = inl (p, q)
both (inl p) (inr n) = inr (λ h. n h.1)
both (inr n) q = inr (λ h. n h.0)

pub either : {P Q : Type 0} → Decided P → Decided Q → Decided (P ⊎ Q)
either (inl p) q = inl (inl p)
either (inr p) (inl q) = inl (inr q)
either (inr p) (inr q) = inr (λ h. elim h [ inl is ↦ p is | inr is ↦ q is ])

pub implied : {P Q : Type 0} → Decided P → Decided Q → Decided (P → Q)
implied (inl p) (inl q) = inl (λ h. q)
implied (inl p) (inr n) = inr (λ h. n (h p))
implied (inr n) q = inl (λ p. absurd (n p))

pub denied : {P : Type 0} → Decided P → Decided (P → ⊥)
denied (inl p) = inr (λ n. n p)
denied (inr n) = inl n

all_cons : {X : Type 0} (P : X → Type 0) (x : X) (xs : List X) → P x → All P xs → All P (x ∷ xs)
all_cons P x xs here rest zero d lt = here
all_cons P x xs here rest (suc k) d lt = rest k d (omega arith)

pub all_or_not : {X : Type 0} (P : X → Type 0) → ((x : X) → Decided (P x)) → (xs : List X) → Decided (All P xs)
all_or_not P each [] = inl (λ k d lt. absurd (omega arith))
all_or_not P each (x ∷ xs) = elim (each x) [
  | inl here ↦ elim (all_or_not P each xs) [ inl rest ↦ inl (all_cons P x xs here rest) | inr n ↦ inr (λ h. n (All-tail P x xs h)) ]
  | inr n ↦ inr (λ h. n (h 0 x (omega arith)))
]

-- ---- whether a list is a route

pub below : ℕ → List ℕ
below zero = []
below (suc n) = n ∷ below n

pub contains_below : (n k : ℕ) → k < n → Contains (below n) k
unfolding below
contains_below zero k lt = absurd (omega arith)
contains_below (suc n) k lt = elim (cases_Bool (nat_eq n k)) [
  | inl is ↦ (0, omega arith, eqb-true n k is)
  | inr is ↦ let later = contains_below n k (omega (arith, lt, eqb-false n k is)) in (suc later.0, omega (arith, later.1), later.2)
]

nothing_behind : (train : List Operation) (p s : ℕ) → length train ≤ p → IsSuccessor train p s → ⊥
nothing_behind [] p s le (k, lt, e) = omega arith
nothing_behind (o ∷ train) zero s le next = omega arith
nothing_behind (o ∷ train) (suc p) s le next = nothing_behind train p s (omega arith) next

pub within_train : (train : List Operation) (p s : ℕ) → IsSuccessor train p s → p < length train
within_train train p s next = elim (cases_lt p (length train)) [ inl lt ↦ lt | inr le ↦ absurd (nothing_behind train p s le next) ]

pub is_entry_or_not : (train : List Operation) (o : ℕ) → Decided (IsEntry train o)
is_entry_or_not train o =
    elim (cases_lt o (length train)) [
      | inl lt ↦ elim (all_or_not (λ p. IsSuccessor train p o → ⊥) (λ p. denied (contained_or_not o (next_of train p))) (below (length train))) [
        | inl none ↦ inl (record { there = lt; first = λ p next. All-contains (λ (p : ℕ). IsSuccessor train p o → ⊥) (below (length train)) p none (contains_below (length train) p (within_train train p o next)) next })
        | inr n ↦ inr (λ entry. n (λ k d lt. entry.first (get_or (below (length train)) k d)))
      ]
      | inr le ↦ inr (λ entry. omega (arith, entry.there, le))
    ]

empty_or_not : (l : List ℕ) → Decided (l ≡ [])
empty_or_not [] = inl refl
empty_or_not (x ∷ l) = inr (λ e. absurd cc)

pub is_exit_or_not : (train : List Operation) (o : ℕ) → Decided (IsExit train o)
is_exit_or_not train o =
    elim (cases_lt o (length train)) [
      | inl lt ↦ elim (empty_or_not (next_of train o)) [ inl none ↦ inl (record { there = lt; last = none }) | inr n ↦ inr (λ exit. n exit.last) ]
      | inr le ↦ inr (λ exit. omega (arith, exit.there, le))
    ]

goes_on_or_not : (train : List Operation) (o : ℕ) (rest : List ℕ) → Decided (GoesOn train o rest)
goes_on_or_not train o [] = is_exit_or_not train o
goes_on_or_not train o (s ∷ rest) = both (contained_or_not s (next_of train o)) (goes_on_or_not train s rest)

is_route_or_not : (train : List Operation) (route : List ℕ) → Decided (IsRoute train route)
is_route_or_not train [] = inr (λ h. h)
is_route_or_not train (o ∷ rest) = both (is_entry_or_not train o) (goes_on_or_not train o rest)

agrees_with_fixing_or_not : (t : ℕ) (route : List ℕ) (fixing : Fixing) → Decided (AgreesWithFixing t route fixing)
agrees_with_fixing_or_not t route (Started u o time) = implied (same_number u t) (contained_or_not o route)
agrees_with_fixing_or_not t route (Chosen u o next) = implied (same_number u t) (same_option (after o route) (Some next))
agrees_with_fixing_or_not t route (NotBefore u o time) = inl tt

agrees_with_decision_or_not : (t : ℕ) (route : List ℕ) (decision : Decision) → Decided (AgreesWithDecision t route decision)
agrees_with_decision_or_not t route (Go o next) = implied (same_number o.train t) (implied (contained_or_not o.op route) (same_option (after o.op route) (Some next)))
agrees_with_decision_or_not t route (First a b) = inl tt
agrees_with_decision_or_not t route (Run o) = implied (same_number o.train t) (contained_or_not o.op route)
agrees_with_decision_or_not t route (Skip o) = implied (same_number o.train t) (elim (contained_or_not o.op route) [ inl there ↦ inr (λ not. not there) | inr not ↦ inl not ])

pub is_allowed_or_not : (node : Node) (t : ℕ) (route : List ℕ) → Decided (IsAllowed node t route)
is_allowed_or_not node t route =
    elim (is_route_or_not (train_at node.problem t) route) [
      | inl is ↦ elim (all_or_not (AgreesWithFixing t route) (agrees_with_fixing_or_not t route) node.fixings) [
        | inl fixed ↦ elim (all_or_not (AgreesWithDecision t route) (agrees_with_decision_or_not t route) node.decisions) [
          | inl decided ↦ inl (record { is_route = is; fixings_agree = fixed; decisions_agree = decided })
          | inr n ↦ inr (λ allowed. n allowed.decisions_agree)
        ]
        | inr n ↦ inr (λ allowed. n allowed.fixings_agree)
      ]
      | inr n ↦ inr (λ allowed. n allowed.is_route)
    ]

-- ---- all lists that may be routes

spread : (ℕ → List (List ℕ)) → List ℕ → List (List ℕ)
spread f [] = []
spread f (s ∷ rest) = map (λ l. s ∷ l) (f s) ++ spread f rest

-- the lists that follow an operation, up to so many operations long
onward : List Operation → ℕ → ℕ → List (List ℕ)
onward train zero o = [] ∷ []
onward train (suc n) o = [] ∷ spread (onward train n) (next_of train o)

contains_spread : (f : ℕ → List (List ℕ)) (nexts : List ℕ) (s : ℕ) (rest : List ℕ) → IsIn s nexts → Contains (f s) rest → Contains (spread f nexts) (s ∷ rest)
unfolding spread
contains_spread f [] s rest there found = absurd there
contains_spread f (n ∷ nexts) s rest (inl same) found =
    Contains-append_left (map (λ l. n ∷ l) (f n)) (spread f nexts) (s ∷ rest)
    (subst (λ (m : ℕ). Contains (map (λ l. m ∷ l) (f m)) (s ∷ rest)) (sym same) (contains_map (λ l. s ∷ l) (f s) rest found))
contains_spread f (n ∷ nexts) s rest (inr later) found = Contains-append_right (map (λ l. n ∷ l) (f n)) (spread f nexts) (s ∷ rest) (contains_spread f nexts s rest later found)

contains_onward : (train : List Operation) (n o : ℕ) (rest : List ℕ) → GoesOn train o rest → length rest ≤ n → Contains (onward train n o) rest
unfolding onward
contains_onward train zero o [] goes le = (0, omega arith, refl)
contains_onward train zero o (s ∷ rest) goes le = absurd (omega arith)
contains_onward train (suc n) o [] goes le = (0, omega arith, refl)
contains_onward train (suc n) o (s ∷ rest) goes le =
    let found = contains_spread (onward train n) (next_of train o) s rest (is_in s (next_of train o) goes.0) (contains_onward train n s rest goes.1 (omega arith)) in
    (suc found.0, omega (arith, found.1), found.2)

-- ---- a route is no longer than its train

pub each_within : (train : List Operation) (o : ℕ) (rest : List ℕ) → GoesOn train o rest → (q : ℕ) → IsIn q (o ∷ rest) → q < length train
each_within train o [] goes q (inl e) = omega (arith, goes.there, e)
each_within train o [] goes q (inr h) = absurd h
each_within train o (s ∷ rest) goes q (inl e) = let lt = within_train train o s goes.0 in omega (arith, lt, e)
each_within train o (s ∷ rest) goes q (inr h) = each_within train s rest goes.1 q h

pub not_among : (o : ℕ) (rest : List ℕ) → (IsIn o rest → ⊥) → AllByRecursion (λ y. nat_eq o y ≡ false) rest
not_among o [] n = tt
not_among o (s ∷ rest) n = (elim (cases_Bool (nat_eq o s)) [ inl is ↦ absurd (n (inl (sym (eqb-true o s is)))) | inr is ↦ is ], not_among o rest (λ h. n (inr h)))

route_distinct : (train : List Operation) (o : ℕ) (rest : List ℕ) → IsAcyclic train → GoesOn train o rest → IsDistinct nat_eq (o ∷ rest)
unfolding IsDistinct
route_distinct train o [] acyclic goes = (tt, tt)
route_distinct train o (s ∷ rest) acyclic goes = (not_among o (s ∷ rest) (λ h. never_again train o (s ∷ rest) acyclic goes h), route_distinct train s rest acyclic goes.1)

pub any_is_in : (q : ℕ) (xs : List ℕ) → list_any (nat_eq q) xs ≡ true → IsIn q xs
any_is_in q [] h = absurd (false≢true h)
any_is_in q (x ∷ xs) h = elim (cases_Bool (nat_eq q x)) [ inl is ↦ inl (sym (eqb-true q x is)) | inr is ↦ inr (any_is_in q xs (later is)) ]
  where
    later : nat_eq q x ≡ false → list_any (nat_eq q) xs ≡ true
    later is = rw is at h

pub route_fits : (train : List Operation) (o : ℕ) (rest : List ℕ) → IsAcyclic train → GoesOn train o rest → length (o ∷ rest) ≤ length train
route_fits train o rest acyclic goes = length-le_from_distinct_below (o ∷ rest) (length train) (route_distinct train o rest acyclic goes) (λ q h. each_within train o rest goes q (any_is_in q (o ∷ rest) h))

-- every list that may be a route of the train
pub candidates : List Operation → List (List ℕ)
candidates train = spread (onward train (length train)) (below (length train))

pub is_candidate : (train : List Operation) (route : List ℕ) → IsAcyclic train → IsRoute train route → Contains (candidates train) route
unfolding candidates
is_candidate train [] acyclic is = absurd is
is_candidate train (o ∷ rest) acyclic is =
    contains_spread (onward train (length train)) (below (length train)) o rest (is_in o (below (length train)) (contains_below (length train) o is.0.there))
    (contains_onward train (length train) o rest is.1 (omega (arith, route_fits train o rest acyclic is.1)))

-- ---- the allowed routes

kept : {X : Type 0} (P : X → Type 0) (x y : X) (xs ys : List X) → (Contains xs x → Contains ys x) → Contains (y ∷ xs) x → Contains (y ∷ ys) x
kept P x y xs ys later (zero, lt, e) = (0, omega arith, e)
kept P x y xs ys later (suc k, lt, e) = let found = later (k, omega (arith, lt), e) in (suc found.0, omega (arith, found.1), found.2)

holds_in : {X : Type 0} (P : X → Type 0) (x y : X) (ys : List X) → P y → (Contains ys x → P x) → Contains (y ∷ ys) x → P x
holds_in P x y ys here later (zero, lt, e) = subst P e here
holds_in P x y ys here later (suc k, lt, e) = later (k, omega (arith, lt), e)

left_out : {X : Type 0} (P : X → Type 0) (x y : X) (xs ys : List X) → (P y → ⊥) → P x → (Contains xs x → Contains ys x) → Contains (y ∷ xs) x → Contains ys x
left_out P x y xs ys n p later (zero, lt, e) = absurd (n (subst P (sym e) p))
left_out P x y xs ys n p later (suc k, lt, e) = later (k, omega (arith, lt), e)

holds_in_none : {X : Type 0} (P : X → Type 0) (x : X) → Contains [] x → P x
holds_in_none P x (k, lt, e) = absurd (omega arith)

-- the elements of a list of which P holds
pub decided_part : {X : Type 0} (P : X → Type 0) → ((x : X) → Decided (P x)) → (xs : List X) → (ys : List X) × ((x : X) → Contains xs x → P x → Contains ys x) × ((x : X) → Contains ys x → P x)
decided_part P each [] = ([], λ x there holds. there, λ x there. holds_in_none P x there)
decided_part P each (y ∷ xs) = elim (each y) [
  | inl holds ↦ let rest = decided_part P each xs in (y ∷ rest.0, λ x there p. kept P x y xs rest.0 (λ h. rest.1 x h p) there, λ x there. holds_in P x y rest.0 holds (λ h. rest.2 x h) there)
  | inr n ↦ let rest = decided_part P each xs in (rest.0, λ x there p. left_out P x y xs rest.0 n p (λ h. rest.1 x h p) there, rest.2)
]

-- a list of all allowed routes of a train
pub record IsListed (node : Node) (t : ℕ) : Type 0 where
  pub routes : List (List ℕ)
  pub each : (route : List ℕ) → IsAllowed node t route → Contains routes route
  pub only : (route : List ℕ) → Contains routes route → IsAllowed node t route

pub allowed_routes : (node : Node) (t : ℕ) → t < length node.problem.trains → IsListed node t
allowed_routes node t there =
    let train = train_at node.problem t in
    let part = decided_part (IsAllowed node t) (is_allowed_or_not node t) (candidates train) in
    record {
      routes = part.0;
      each = λ route allowed. part.1 route (is_candidate train route (node.problem.well_formed.acyclic t [] there) allowed.is_route) allowed;
      only = part.2;
    }

pub has_route_or_not : (node : Node) (t : ℕ) → t < length node.problem.trains → Decided (HasRoute node t)
has_route_or_not node t there = by_list (allowed_routes node t there)
  where
    first : (routes : List (List ℕ)) → ((route : List ℕ) → IsAllowed node t route → Contains routes route) → ((route : List ℕ) → Contains routes route → IsAllowed node t route) → Decided (HasRoute node t)
    first [] each only = inr (λ has. nowhere has.0 (each has.0 has.1))
      where
        nowhere : (route : List ℕ) → Contains [] route → ⊥
        nowhere route (k, lt, e) = omega arith
    first (route ∷ routes) each only = inl (route, only route (0, omega arith, refl))

    by_list : IsListed node t → Decided (HasRoute node t)
    by_list listed = first listed.routes listed.each listed.only

-- whether each allowed route is so
pub each_allowed_or_not : (node : Node) (t : ℕ) (P : List ℕ → Type 0) → t < length node.problem.trains → ((route : List ℕ) → Decided (P route))
    → Decided ((route : List ℕ) → IsAllowed node t route → P route)
each_allowed_or_not node t P there each =
    let listed = allowed_routes node t there in
    elim (all_or_not P each listed.routes) [
      | inl all ↦ inl (λ route allowed. All-contains P listed.routes route all (listed.each route allowed))
      | inr n ↦ inr (λ h. n (λ k d lt. h (get_or listed.routes k d) (listed.only (get_or listed.routes k d) (Contains-get_or listed.routes k d lt))))
    ]

pub is_forced_or_not : (node : Node) (o : Op) → Decided (IsForced node o)
is_forced_or_not node o =
    elim (cases_lt o.train (length node.problem.trains)) [
      | inr le ↦ inr (λ forced. omega (arith, forced.train, le))
      | inl lt ↦ elim (has_route_or_not node o.train lt) [
        | inr n ↦ inr (λ forced. n forced.allowed)
        | inl has ↦ elim (each_allowed_or_not node o.train (λ route. Contains route o.op) lt (contained_or_not o.op)) [
          | inl each ↦ inl (record { train = lt; allowed = has; each_has = each })
          | inr n ↦ inr (λ forced. n forced.each_has)
        ]
      ]
    ]
