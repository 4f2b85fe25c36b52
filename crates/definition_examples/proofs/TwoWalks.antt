-- The longest arcs of the two trains, and the walks along them.
use Rattle.std.proofs.Common.{◌≡◌, ◌≢◌, inl, inr, ℕ, zero, suc, ◌+◌, ◌<◌, List, [], ◌∷◌, Some, None, Bool, true, false, cond, refl, sym, subst, ap, ◌∙◌, arith, rules}
use Rattle.std.specs.Prelude.{◌==◌, ◌&&◌, All, Contains, unwrap_or}
use Rattle.disp_model.specs.Node.{Node, root_of, node_at}
use Rattle.disp_model.specs.declared.train.Op.{Op}
use Rattle.disp_model.specs.declared.fixing.Fixing.{Fixing}
use Rattle.disp_model.specs.declared.decision.Decision.{Decision}
use Rattle.disp_model.specs.declared.problem.Problem.{Problem}
use Rattle.disp_model.specs.WellFormed.{IsWellFormed}
use Rattle.disp_model.specs.Fixing.{after}
use Rattle.disp_model.specs.Routes.{IsForced, AgreesWithFixing, AgreesWithDecision}
use Rattle.disp_model.specs.Arcs.{Conflicts, IsArc, IsTrainArc, IsReleaseArc, IsLongestArc, min_of, release_of}
use Rattle.disp_model.specs.Walks.{lower_of, WalksOn, IsWalk, HasNoRepeat}
use Rattle.definition_examples.specs.Trains.{two_trains, two_costs, op_named, listing}
use Rattle.definition_examples.specs.Histories.{a0_at_0}
use Rattle.definition_examples.proofs.Pairs.{PairPlaces, at_pair}
use Rattle.definition_examples.proofs.Holding.{both, route_there}
use Rattle.definition_examples.proofs.TwoArcs.{two, lasts, IsOpen, route_is, sum_is, own_parts, IsOwn, one_order, free_arcs, ordered_arcs}

both_has : (o : ℕ) (route : List ℕ) → o < 2 → route ≡ both → Contains route o
both_has zero route lt same = rw same (0, omega arith, refl)
both_has (suc zero) route lt same = rw same (1, omega arith, refl)
both_has (suc (suc o)) route lt same = absurd (omega (arith, lt))

-- ---- nodes at which both trains may take their routes

pub opened : (release : ℕ) (names : List (List ℕ)) (w : IsWellFormed (two_trains release) two_costs names) (fixings : List Fixing) (decisions : List Decision)
    → ((t : ℕ) → All (AgreesWithFixing t both) fixings) → ((t : ℕ) → All (AgreesWithDecision t both) decisions) → IsOpen (node_at (two release names w) fixings decisions)
opened release names w fixings decisions fixed decided zero lt = record { is_route = route_there 10 (listing 0 release ∷ []) 0 []; fixings_agree = fixed 0; decisions_agree = decided 0 }
opened release names w fixings decisions fixed decided (suc zero) lt = record { is_route = route_there 4 (listing 0 release ∷ []) 0 []; fixings_agree = fixed 1; decisions_agree = decided 1 }
opened release names w fixings decisions fixed decided (suc (suc t)) lt = absurd (omega (arith, lt))

pub unfixed : (t : ℕ) → All (AgreesWithFixing t both) []
unfixed t = search rules

pub started : (t : ℕ) → All (AgreesWithFixing t both) (a0_at_0 ∷ [])
started t = search rules

pub undecided : (t : ℕ) → All (AgreesWithDecision t both) []
undecided t = search rules

pub ordered : (s u t : ℕ) → All (AgreesWithDecision t both) (one_order s u)
ordered s u t = search rules

-- ---- each operation may start from 0 on

abbrev pub IsFromZero : Problem → List Fixing → Type 0
IsFromZero problem fixings = (o : Op) → lower_of problem fixings o ≡ 0

free_lower : (release : ℕ) (names : List (List ℕ)) (w : IsWellFormed (two_trains release) two_costs names) (t o : ℕ) → lower_of (two release names w) [] (op_named t o) ≡ 0
free_lower release names w zero zero = refl
free_lower release names w zero (suc zero) = refl
free_lower release names w zero (suc (suc o)) = refl
free_lower release names w (suc zero) zero = refl
free_lower release names w (suc zero) (suc zero) = refl
free_lower release names w (suc zero) (suc (suc o)) = refl
free_lower release names w (suc (suc t)) o = refl

pub free_from_zero : (release : ℕ) (names : List (List ℕ)) (w : IsWellFormed (two_trains release) two_costs names) → IsFromZero (two release names w) []
free_from_zero release names w o = free_lower release names w o.train o.op

fixed_or_free : (b : Bool) (lower : ℕ) → lower ≡ 0 → unwrap_or (cond b (Some 0) None) lower ≡ 0
fixed_or_free true lower free = refl
fixed_or_free false lower free = free

pub started_from_zero : (release : ℕ) (names : List (List ℕ)) (w : IsWellFormed (two_trains release) two_costs names) → IsFromZero (two release names w) (a0_at_0 ∷ [])
started_from_zero release names w o = fixed_or_free ((0 == o.train) && (0 == o.op)) (lower_of (two release names w) [] o) (free_from_zero release names w o)

-- ---- forced operations and arcs

pub forced : (release : ℕ) (names : List (List ℕ)) (w : IsWellFormed (two_trains release) two_costs names) (fixings : List Fixing) (decisions : List Decision)
    → IsOpen (node_at (two release names w) fixings decisions) → (t o : ℕ) → t < 2 → o < 2 → IsForced (node_at (two release names w) fixings decisions) (op_named t o)
forced release names w fixings decisions open_all t o lt lo = record {
  train = lt;
  allowed = (both, open_all t lt);
  each_has = λ route allowed. both_has o route lo (route_is release names w t route lt allowed.is_route);
}

own_length : (t arc_length : ℕ) → IsOwn (op_named t 0) (op_named t 1) arc_length → arc_length ≡ lasts t
own_length t arc_length own = own.length_is ∙ ap lasts (sym (ap (λ (x : Op). x.train) own.from_is))

own_train_arc : (release : ℕ) (names : List (List ℕ)) (w : IsWellFormed (two_trains release) two_costs names) (fixings : List Fixing) (decisions : List Decision)
    → IsOpen (node_at (two release names w) fixings decisions) → (t : ℕ) → t < 2 → IsTrainArc (node_at (two release names w) fixings decisions) (op_named t 0) (op_named t 1) (lasts t)
own_train_arc release names w fixings decisions open_all t lt = record {
  same_train = refl;
  reached = (both, open_all t lt, record { before = []; between = []; behind = []; route_is = refl; total_is = sym (sum_is release names w t lt) });
  least = λ route total allowed passes.
      let same : total ≡ lasts t = own_length t total (own_parts release names w (op_named t 0) (op_named t 1) total route lt refl allowed.is_route passes) in omega (arith, same);
}

pub own_there : (release : ℕ) (names : List (List ℕ)) (w : IsWellFormed (two_trains release) two_costs names) (fixings : List Fixing) (decisions : List Decision)
    → IsOpen (node_at (two release names w) fixings decisions) → (t : ℕ) → t < 2 → IsArc (node_at (two release names w) fixings decisions) (op_named t 0) (op_named t 1) (lasts t)
own_there release names w fixings decisions open_all t lt = record {
  from_forced = forced release names w fixings decisions open_all t 0 lt (omega arith);
  to_forced = forced release names w fixings decisions open_all t 1 lt (omega arith);
  kind = inl (own_train_arc release names w fixings decisions open_all t lt);
}

pub free_longest : (release : ℕ) (names : List (List ℕ)) (w : IsWellFormed (two_trains release) two_costs names) (fixings : List Fixing)
    → IsOpen (root_of (two release names w) fixings) → (t : ℕ) → t < 2 → IsLongestArc (root_of (two release names w) fixings) (op_named t 0) (op_named t 1) (lasts t)
free_longest release names w fixings open_all t lt = record {
  there = own_there release names w fixings [] open_all t lt;
  longest = λ other arc.
      let same : other ≡ lasts t = own_length t other (free_arcs release names w fixings (op_named t 0) (op_named t 1) other arc) in omega (arith, same);
}

-- two trains, the first of which goes first
pub record IsPair (release : ℕ) (problem : Problem) (s t : ℕ) : Type 0 where
  pub first : s < 2
  pub second : t < 2
  pub conflicts : Conflicts problem (op_named s 0) (op_named t 0)
  pub released : release_of problem (op_named s 0) (op_named t 0) ≡ release
  pub min_is : min_of problem (op_named s 0) ≡ lasts s

pub a_then_b : (release : ℕ) (names : List (List ℕ)) (w : IsWellFormed (two_trains release) two_costs names) → IsPair release (two release names w) 0 1
a_then_b release names w = record {
  first = omega arith;
  second = omega arith;
  conflicts = record { trains = λ e. omega (arith, e); shared = λ e. grind (arith, e) };
  released = omega arith;
  min_is = refl;
}

pub b_then_a : (release : ℕ) (names : List (List ℕ)) (w : IsWellFormed (two_trains release) two_costs names) → IsPair release (two release names w) 1 0
b_then_a release names w = record {
  first = omega arith;
  second = omega arith;
  conflicts = record { trains = λ e. omega (arith, e); shared = λ e. grind (arith, e) };
  released = omega arith;
  min_is = refl;
}

one_is_none : (s t : ℕ) → op_named s 1 ≡ op_named t 0 → ⊥
one_is_none s t e = let same : 1 ≡ 0 = ap (λ (x : Op). x.op) e in omega (arith, same)

pub ordered_longest : (release : ℕ) (names : List (List ℕ)) (w : IsWellFormed (two_trains release) two_costs names) (fixings : List Fixing) (s t u : ℕ) → IsPair release (two release names w) s t
    → IsOpen (node_at (two release names w) fixings (one_order s t)) → u < 2 → IsLongestArc (node_at (two release names w) fixings (one_order s t)) (op_named u 0) (op_named u 1) (lasts u)
ordered_longest release names w fixings s t u pair open_all lt = record {
  there = own_there release names w fixings (one_order s t) open_all u lt;
  longest = λ other arc.
      elim (ordered_arcs release names w fixings s t (op_named u 0) (op_named u 1) other pair.first open_all arc) [
        | inl own ↦ let same : other ≡ lasts u = own_length u other own in omega (arith, same)
        | inr more ↦ elim more [
          | inl order ↦ absurd (one_is_none u t order.to_is)
          | inr freed ↦ absurd (one_is_none u t freed.to_is)
        ]
      ];
}

freed_there : (release : ℕ) (names : List (List ℕ)) (w : IsWellFormed (two_trains release) two_costs names) (fixings : List Fixing) (s t : ℕ) → IsPair release (two release names w) s t
    → IsOpen (node_at (two release names w) fixings (one_order s t)) → IsReleaseArc (node_at (two release names w) fixings (one_order s t)) (op_named s 1) (op_named t 0) release
freed_there release names w fixings s t pair open_all = record {
  holder = op_named s 0;
  decided = (0, omega arith, refl);
  forced = forced release names w fixings (one_order s t) open_all s 0 pair.first (omega arith);
  conflicts = pair.conflicts;
  goes_to = (refl, λ route allowed. ap (after 0) (route_is release names w s route pair.first allowed.is_route));
  length_is = sym pair.released;
}

pub freed_longest : (release : ℕ) (names : List (List ℕ)) (w : IsWellFormed (two_trains release) two_costs names) (fixings : List Fixing) (s t : ℕ) → IsPair release (two release names w) s t
    → IsOpen (node_at (two release names w) fixings (one_order s t)) → IsLongestArc (node_at (two release names w) fixings (one_order s t)) (op_named s 1) (op_named t 0) release
freed_longest release names w fixings s t pair open_all = record {
  there = record {
    from_forced = forced release names w fixings (one_order s t) open_all s 1 pair.first (omega arith);
    to_forced = forced release names w fixings (one_order s t) open_all t 0 pair.second (omega arith);
    kind = inr (inr (freed_there release names w fixings s t pair open_all));
  };
  longest = λ other arc.
      elim (ordered_arcs release names w fixings s t (op_named s 1) (op_named t 0) other pair.first open_all arc) [
        | inl own ↦ absurd (one_is_none s own.train own.from_is)
        | inr more ↦ elim more [
          | inl order ↦ absurd (one_is_none s s order.from_is)
          | inr freed ↦ let same : other ≡ release = freed.length_is ∙ pair.released in omega (arith, same)
        ]
      ];
}

-- ---- walks

pub walk_from : (node : Node) (u : Op) (rest : List Op) (total : ℕ)
    → IsFromZero node.problem node.fixings → IsForced node u → WalksOn node u 0 rest total → IsWalk node (u ∷ rest) total
walk_from node u rest total low is_forced on = (is_forced, subst (λ (l : ℕ). WalksOn node u l rest total) (sym (low u)) on)

pub once : (walk : List Op) → PairPlaces (λ i x j y. x ≢ y) 0 walk → HasNoRepeat walk
once walk h i j o lt at_i at_j = at_pair (λ k x l y. x ≢ y) 0 walk h i j o o lt at_i at_j refl

-- through one train, with no decision
pub free_walk : (release : ℕ) (names : List (List ℕ)) (w : IsWellFormed (two_trains release) two_costs names) (fixings : List Fixing) → IsFromZero (two release names w) fixings
    → IsOpen (root_of (two release names w) fixings) → (t : ℕ) → t < 2 → IsWalk (root_of (two release names w) fixings) (op_named t 0 ∷ op_named t 1 ∷ []) (0 + lasts t)
free_walk release names w fixings low open_all t lt =
    walk_from (root_of (two release names w) fixings) (op_named t 0) (op_named t 1 ∷ []) (0 + lasts t) low (forced release names w fixings [] open_all t 0 lt (omega arith))
    (lasts t, free_longest release names w fixings open_all t lt, refl)

-- through one train, with an order
pub own_walk : (release : ℕ) (names : List (List ℕ)) (w : IsWellFormed (two_trains release) two_costs names) (fixings : List Fixing) (s t u : ℕ) → IsPair release (two release names w) s t
    → IsFromZero (two release names w) fixings → IsOpen (node_at (two release names w) fixings (one_order s t)) → u < 2
    → IsWalk (node_at (two release names w) fixings (one_order s t)) (op_named u 0 ∷ op_named u 1 ∷ []) (0 + lasts u)
own_walk release names w fixings s t u pair low open_all lt =
    walk_from (node_at (two release names w) fixings (one_order s t)) (op_named u 0) (op_named u 1 ∷ []) (0 + lasts u) low (forced release names w fixings (one_order s t) open_all u 0 lt (omega arith))
    (lasts u, ordered_longest release names w fixings s t u pair open_all lt, refl)

-- through the first train to the second
pub across : (release : ℕ) (names : List (List ℕ)) (w : IsWellFormed (two_trains release) two_costs names) (fixings : List Fixing) (s t : ℕ) → IsPair release (two release names w) s t
    → IsFromZero (two release names w) fixings → IsOpen (node_at (two release names w) fixings (one_order s t))
    → IsWalk (node_at (two release names w) fixings (one_order s t)) (op_named s 0 ∷ op_named s 1 ∷ op_named t 0 ∷ []) ((0 + lasts s) + release)
across release names w fixings s t pair low open_all =
    walk_from (node_at (two release names w) fixings (one_order s t)) (op_named s 0) (op_named s 1 ∷ op_named t 0 ∷ []) ((0 + lasts s) + release) low
    (forced release names w fixings (one_order s t) open_all s 0 pair.first (omega arith))
    (lasts s, ordered_longest release names w fixings s t s pair open_all pair.first, (release, freed_longest release names w fixings s t pair open_all, refl))

-- through the first train and the second
pub through : (release : ℕ) (names : List (List ℕ)) (w : IsWellFormed (two_trains release) two_costs names) (fixings : List Fixing) (s t : ℕ) → IsPair release (two release names w) s t
    → IsFromZero (two release names w) fixings → IsOpen (node_at (two release names w) fixings (one_order s t))
    → IsWalk (node_at (two release names w) fixings (one_order s t)) (op_named s 0 ∷ op_named s 1 ∷ op_named t 0 ∷ op_named t 1 ∷ []) (((0 + lasts s) + release) + lasts t)
through release names w fixings s t pair low open_all =
    walk_from (node_at (two release names w) fixings (one_order s t)) (op_named s 0) (op_named s 1 ∷ op_named t 0 ∷ op_named t 1 ∷ []) (((0 + lasts s) + release) + lasts t) low
    (forced release names w fixings (one_order s t) open_all s 0 pair.first (omega arith)) (
      lasts s,
      ordered_longest release names w fixings s t s pair open_all pair.first,
      (
        release,
        freed_longest release names w fixings s t pair open_all,
        (lasts t, ordered_longest release names w fixings s t t pair open_all pair.second, refl),
      ),
    )
