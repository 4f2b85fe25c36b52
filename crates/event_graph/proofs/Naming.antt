-- Operations by their numbers, and arcs that may be added.
use Rattle.std.proofs.Common.{◌≡◌, ◌∙◌, ℕ, ◌+◌, ◌<◌, List, [], ◌∷◌, ◌++◌, length, map, take, drop, get_or, Option, Some, refl, sym, ap, subst, arith}
use Rattle.std.specs.Prelude.{slice_get, All}
use Rattle.std.proofs.lemmas.Option.{same_Some, slice_get-get_or, slice_get_read}
use Rattle.std.proofs.lemmas.List.{map-append, take_more}
use Rattle.std.proofs.lemmas.List.Elements.{All-nil, All-cons, All-head, All-tail, All-weaker, All-take, All-get_or}
use Rattle.disp_model.specs.declared.train.Op.{Op}
use Rattle.disp_model.specs.declared.problem.Problem.{Problem}
use Rattle.disp_model.specs.WellFormed.{operation_count}
use Rattle.disp_model.specs.Numbers.{number_of}
use Rattle.disp_model.specs.Node.{Node}
use Rattle.disp_model.specs.Walks.{ClosesTo, IsCycle, HasCycle}
use Rattle.disp_laws.proofs.Numbered.{below_count}
use Rattle.disp_laws.proofs.HorizonBounds.{AreSmall, edition_is_small}
use Rattle.incremental_paths.specs.declared.arc.Arc.{Arc}
use Rattle.incremental_paths.specs.Walks.{WalksAreShort, IsArcCycle as IsCycleOf, ArcsHaveCycle as HasCycleOf}
use Rattle.incremental_paths.specs.Network.{IsNode}
use Rattle.timed_paths.specs.Timed.{Timed, network_of}
use Rattle.event_arcs.specs.Listed.{IsArcOf}
use Rattle.event_windows.specs.Operations.{HasOperation, AreOperationsOf, IsAtNumber}
use Rattle.event_arcs.proofs.Numbering.{forced_is_op}
use Rattle.event_arcs.proofs.Cycling.{cycle_of_numbers, same_cycles}
use Rattle.event_arcs.proofs.Shortness.{short_walks}
use Rattle.event_graph.specs.declared.faults.ExtendNo.{ExtendNo}
use Rattle.event_graph.specs.declared.faults.ExtendNo.TheVariants.{NoRoute, Cycle, Memory}
use Rattle.event_graph.specs.Joined.{MayJoin, IsNamedOr, IsCycleOr}

somes_same : (xs ys : List Op) → map Some xs ≡ map Some ys → xs ≡ ys
somes_same [] [] e = refl
somes_same [] (y ∷ ys) e = absurd cc
somes_same (x ∷ xs) [] e = absurd cc
somes_same (x ∷ xs) (y ∷ ys) e =
    ap (λ (o : Op). o ∷ xs) (same_Some x y (first (map Some xs) (map Some ys) (Some x) (Some y) e)) ∙ ap (λ (l : List Op). y ∷ l) (somes_same xs ys (rest (map Some xs) (map Some ys) (Some x) (Some y) e))
  where
    first : (xs ys : List (Option Op)) (x y : Option Op) → x ∷ xs ≡ y ∷ ys → x ≡ y
    first xs ys x y e = ap (λ (l : List (Option Op)). get_or l 0 x) e

    rest : (xs ys : List (Option Op)) (x y : Option Op) → x ∷ xs ≡ y ∷ ys → xs ≡ ys
    rest xs ys x y e = ap (λ (l : List (Option Op)). drop 1 l) e

named_are : (problem : Problem) (ops found : List Op) (numbers : List ℕ) (named : List Op) → AreOperationsOf problem ops → All (HasOperation problem) found → map (number_of problem) found ≡ numbers → map Some named ≡ map (slice_get ops) numbers → named ≡ found
named_are problem ops found numbers named are there is says = somes_same named found (says ∙ ap (λ (l : List ℕ). map (slice_get ops) l) (sym is) ∙ each found there)
  where
    each : (found : List Op) → All (HasOperation problem) found → map (slice_get ops) (map (number_of problem) found) ≡ map Some found
    each [] there = refl
    each (o ∷ found) there =
        ap (λ (x : Option Op). x ∷ map (slice_get ops) (map (number_of problem) found)) (are.listed o (All-head (HasOperation problem) o found there)) ∙ ap (λ (l : List (Option Op)). Some o ∷ l) (each found (All-tail (HasOperation problem) o found there))

closed_there : (node : Node) (first u : Op) (rest : List Op) → ClosesTo node first u rest → All (HasOperation node.problem) (u ∷ rest)
closed_there node first u [] closes = All-cons (HasOperation node.problem) u [] (forced_is_op node u closes.1.from_forced) (All-nil (HasOperation node.problem))
closed_there node first u (v ∷ rest) closes = All-cons (HasOperation node.problem) u (v ∷ rest) (forced_is_op node u closes.0.1.from_forced) (closed_there node first v rest closes.1)

-- a cycle names operations of the problem
pub cycle_there : (node : Node) (ops : List Op) → IsCycle node ops → All (HasOperation node.problem) ops
cycle_there node [] cycle = absurd cycle
cycle_there node (u ∷ []) cycle = absurd cycle
cycle_there node (u ∷ v ∷ rest) cycle = closed_there node u u (v ∷ rest) cycle

numbers_below : (problem : Problem) (ops : List Op) → All (HasOperation problem) ops → All (λ n. n < operation_count problem.trains) (map (number_of problem) ops)
numbers_below problem [] there = All-nil (λ n. n < operation_count problem.trains)
numbers_below problem (o ∷ ops) there =
    let here = All-head (HasOperation problem) o ops there in
    All-cons (λ n. n < operation_count problem.trains) (number_of problem o) (map (number_of problem) ops) (below_count problem o here.train here.op) (numbers_below problem ops (All-tail (HasOperation problem) o ops there))

-- the numbers of a cycle that the arcs close are those of operations
pub numbers_named : (node : Node) (ops : List Op) (paths : Timed) (arcs : List Arc) (numbers : List ℕ) → MayJoin node ops paths arcs → IsCycleOf (paths.arcs ++ arcs) numbers → All (λ n. n < length ops) numbers
numbers_named node ops paths arcs numbers may cycle =
    let found = cycle_of_numbers node (paths.arcs ++ arcs) numbers may.arcs_are.sound cycle in
    subst (λ (k : ℕ). All (λ n. n < k) numbers) (sym may.ops_are.long) (subst (λ (l : List ℕ). All (λ n. n < operation_count node.problem.trains) l) found.1 (numbers_below node.problem found.0 (cycle_there node found.0 found.2)))

pub named_cycle : (node : Node) (ops : List Op) (paths : Timed) (arcs : List Arc) (numbers : List ℕ) (named : List Op) → MayJoin node ops paths arcs → IsCycleOf (paths.arcs ++ arcs) numbers → map Some named ≡ map (slice_get ops) numbers
    → IsCycle node named
named_cycle node ops paths arcs numbers named may cycle says =
    let found = cycle_of_numbers node (paths.arcs ++ arcs) numbers may.arcs_are.sound cycle in
    subst (IsCycle node) (sym (named_are node.problem ops found.0 numbers named may.ops_are (cycle_there node found.0 found.2) found.1 says)) found.2

-- ---- arcs that may be added

arc_from : (node : Node) (arc : Arc) → IsArcOf node arc → arc.from < operation_count node.problem.trains
arc_from node arc is = let op = forced_is_op node is.u is.joins.from_forced in omega (arith, is.from_is, below_count node.problem is.u op.train op.op)

arc_to : (node : Node) (arc : Arc) → IsArcOf node arc → arc.to < operation_count node.problem.trains
arc_to node arc is = let op = forced_is_op node is.v is.joins.to_forced in omega (arith, is.to_is, below_count node.problem is.v op.train op.op)

behind : {X : Type 0} (P : X → Type 0) (xs ys : List X) → All P (xs ++ ys) → All P ys
behind P [] ys all = all
behind P (x ∷ xs) ys all = behind P xs ys (All-tail P x (xs ++ ys) all)

pub both_there : (node : Node) (ops : List Op) (paths : Timed) (arcs : List Arc) → MayJoin node ops paths arcs → All (λ arc. IsNode (network_of paths) arc.from × IsNode (network_of paths) arc.to) arcs
both_there node ops paths arcs may =
    All-weaker (IsArcOf node) (λ arc. IsNode (network_of paths) arc.from × IsNode (network_of paths) arc.to) (λ arc is. (omega (arith, may.lowers_are.long, arc_from node arc is), omega (arith, may.lowers_are.long, arc_to node arc is))) arcs
    (behind (IsArcOf node) paths.arcs arcs may.arcs_are.sound)

pub starts_there : (node : Node) (ops : List Op) (paths : Timed) (arcs : List Arc) → MayJoin node ops paths arcs → All (λ arc. IsNode (network_of paths) arc.from) arcs
starts_there node ops paths arcs may =
    All-weaker (IsArcOf node) (λ arc. IsNode (network_of paths) arc.from) (λ arc is. omega (arith, may.lowers_are.long, arc_from node arc is)) arcs (behind (IsArcOf node) paths.arcs arcs may.arcs_are.sound)

pub ends_there : (node : Node) (ops : List Op) (paths : Timed) (arcs : List Arc) → MayJoin node ops paths arcs → All (λ arc. IsNode (network_of paths) arc.to) arcs
ends_there node ops paths arcs may =
    All-weaker (IsArcOf node) (λ arc. IsNode (network_of paths) arc.to) (λ arc is. omega (arith, may.lowers_are.long, arc_to node arc is)) arcs (behind (IsArcOf node) paths.arcs arcs may.arcs_are.sound)

front : {X : Type 0} (P : X → Type 0) (xs ys : List X) (k : ℕ) → All P (xs ++ ys) → All P (xs ++ take k ys)
front P [] ys k all = All-take P k ys all
front P (x ∷ xs) ys k all = All-cons P x (xs ++ take k ys) (All-head P x (xs ++ ys) all) (front P xs ys k (All-tail P x (xs ++ ys) all))

pub fronts_short : (node : Node) (ops : List Op) (paths : Timed) (arcs : List Arc) → MayJoin node ops paths arcs → (HasCycleOf (paths.arcs ++ arcs) → ⊥) → (k : ℕ) → WalksAreShort paths.lowers (paths.arcs ++ take k arcs)
fronts_short node ops paths arcs may none k =
    short_walks node (paths.arcs ++ take k arcs) paths.lowers (subst AreSmall (sym may.edition.2) (edition_is_small node.problem may.edition.0 may.edition.1)) (front (IsArcOf node) paths.arcs arcs k may.arcs_are.sound) may.lowers_are
    (λ has. none ((same_cycles node (paths.arcs ++ arcs) may.arcs_are).1 has))

pub no_cycle_joined : (node : Node) (ops : List Op) (paths : Timed) (arcs : List Arc) → MayJoin node ops paths arcs → (HasCycleOf (paths.arcs ++ arcs) → ⊥) → HasCycle node → ⊥
no_cycle_joined node ops paths arcs may none has = none ((same_cycles node (paths.arcs ++ arcs) may.arcs_are).1 has)

-- ---- one number more

pub named_more : (ops named : List Op) (numbers : List ℕ) (i : ℕ) (d : Op) → i < length numbers → All (λ n. n < length ops) numbers → map Some named ≡ map (slice_get ops) (take i numbers)
    → map Some (named ++ get_or ops (get_or numbers i 0) d ∷ []) ≡ map (slice_get ops) (take (i + 1) numbers)
named_more ops named numbers i d lt within before =
    let x = get_or ops (get_or numbers i 0) d in
    map-append Some named (x ∷ []) ∙ ap (λ (l : List (Option Op)). l ++ Some x ∷ []) before
    ∙ ap (λ (o : Option Op). map (slice_get ops) (take i numbers) ++ o ∷ []) (sym (slice_get-get_or ops (get_or numbers i 0) d (All-get_or (λ n. n < length ops) numbers i 0 lt within)))
    ∙ sym (map-append (slice_get ops) (take i numbers) (get_or numbers i 0 ∷ [])) ∙ ap (λ (l : List ℕ). map (slice_get ops) l) (sym (take_more numbers i 0 lt))

pub cycle_or : (node : Node) (ops : List Op) (paths : Timed) (arcs : List Arc) (numbers : List ℕ) (why : ExtendNo) → MayJoin node ops paths arcs → IsCycleOf (paths.arcs ++ arcs) numbers
    → IsNamedOr (λ named. map Some named ≡ map (slice_get ops) numbers) why → IsCycleOr node why
cycle_or node ops paths arcs numbers (NoRoute t) may cycle says = says
cycle_or node ops paths arcs numbers (Cycle named) may cycle says = named_cycle node ops paths arcs numbers named may cycle says
cycle_or node ops paths arcs numbers Memory may cycle says = tt

-- ---- the operation of a number

pub op_at_number : (problem : Problem) (ops : List Op) (n : ℕ) (o : Op) → AreOperationsOf problem ops → n < operation_count problem.trains → o ≡ get_or ops n o → IsAtNumber problem o n
op_at_number problem ops n o are lt is = are.numbered n o (slice_get_read ops (length ops) n o refl (omega (arith, lt, are.long)) is)
