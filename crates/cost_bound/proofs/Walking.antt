-- A walk over numbers that is as long as the longest is one over their operations.
use Rattle.std.proofs.Common.{◌≡◌, ℕ, ◌+◌, ◌<◌, ◌≤◌, List, [], ◌∷◌, map, sym, ap, subst, ◌∙◌, arith}
use Rattle.std.specs.Prelude.{All}
use Rattle.std.proofs.lemmas.List.Elements.{All-nil, All-cons, All-head, All-tail, All-contains}
use Rattle.disp_model.specs.declared.train.Op.{Op}
use Rattle.disp_model.specs.declared.problem.Problem.{Problem}
use Rattle.disp_model.specs.WellFormed.{operation_count}
use Rattle.disp_model.specs.Numbers.{number_of}
use Rattle.disp_model.specs.Node.{Node}
use Rattle.disp_model.specs.Routes.{IsForced}
use Rattle.disp_model.specs.Walks.{lower_of, WalksOn, IsWalk, HasNoRepeat, IsLongest as IsLongestAt, HasCycle}
use Rattle.disp_laws.proofs.Numbered.{below_count}
use Rattle.disp_laws.proofs.LongestWalks.{from_once}
use Rattle.disp_laws.proofs.EarliestExists.{walk_once}
use Rattle.incremental_paths.specs.declared.arc.Arc.{Arc}
use Rattle.incremental_paths.specs.Walks.{FollowsArcs, last_node_from, IsWalkTo, walk_length, IsLongestLength}
use Rattle.incremental_paths.proofs.Members.{joining}
use Rattle.event_arcs.specs.Listed.{IsArcOf}
use Rattle.event_windows.specs.Operations.{HasOperation}
use Rattle.event_arcs.proofs.Numbering.{forced_is_op, same_by_number}
use Rattle.event_arcs.proofs.Lengths.{carried}
use Rattle.cost_bound.specs.Shortened.{ends_of, NamesEnds, AreEndsOver}
use Rattle.cost_bound.specs.Bounds.{IsLongWalk}
use Rattle.cost_bound.proofs.Arriving.{AreListed, listed_longest}
use Rattle.cost_bound.proofs.Ending.{IsLast, ends_in, ends_last, ends_walk, ends_named}

-- ---- the operations of a walk are there

walked_there : (node : Node) (u : Op) (walked : ℕ) (rest : List Op) (total : ℕ) → IsForced node u → WalksOn node u walked rest total → All (HasOperation node.problem) (u ∷ rest)
walked_there node u walked [] total forced on = All-cons (HasOperation node.problem) u [] (forced_is_op node u forced) (All-nil (HasOperation node.problem))
walked_there node u walked (v ∷ rest) total forced on = All-cons (HasOperation node.problem) u (v ∷ rest) (forced_is_op node u forced) (walked_there node v (walked + on.0) rest total on.1.there.to_forced on.2)

pub walk_there : (node : Node) (walk : List Op) (total : ℕ) → IsWalk node walk total → All (HasOperation node.problem) walk
walk_there node [] total is = absurd is
walk_there node (u ∷ rest) total is = walked_there node u (lower_of node.problem node.fixings u) rest total is.0 is.1

numbers_below : (problem : Problem) (ops : List Op) → All (HasOperation problem) ops → All (λ n. n < operation_count problem.trains) (map (number_of problem) ops)
numbers_below problem [] there = All-nil (λ n. n < operation_count problem.trains)
numbers_below problem (o ∷ ops) there =
    let here = All-head (HasOperation problem) o ops there in
    All-cons (λ n. n < operation_count problem.trains) (number_of problem o) (map (number_of problem) ops) (below_count problem o here.train here.op) (numbers_below problem ops (All-tail (HasOperation problem) o ops there))

-- ---- operations by their numbers

last_named : (problem : Problem) (ops : List Op) (n : ℕ) (rest : List ℕ) (o : Op) → All (HasOperation problem) ops → HasOperation problem o → map (number_of problem) ops ≡ n ∷ rest → last_node_from n rest ≡ number_of problem o → IsLast ops o
last_named problem [] n rest o there own is last = absurd cc
last_named problem (u ∷ []) n [] o there own is last = let here : number_of problem u ≡ n = cc in same_by_number problem u o (All-head (HasOperation problem) u [] there) own (here ∙ last)
last_named problem (u ∷ []) n (m ∷ rest) o there own is last = absurd cc
last_named problem (u ∷ v ∷ ops) n [] o there own is last = absurd cc
last_named problem (u ∷ v ∷ ops) n (m ∷ rest) o there own is last = let later : map (number_of problem) (v ∷ ops) ≡ m ∷ rest = cc in last_named problem (v ∷ ops) m rest o (All-tail (HasOperation problem) u (v ∷ ops) there) own later last

-- ---- from numbers to operations

-- a walk of the operations of these numbers, which is no shorter
record IsCarriedWhole (node : Node) (arcs : List Arc) (lowers nodes : List ℕ) : Type 0 where
  pub ops : List Op
  pub total : ℕ
  pub is_walk : IsWalk node ops total
  pub numbers : map (number_of node.problem) ops ≡ nodes
  pub enough : walk_length lowers arcs nodes ≤ total

carried_whole : (node : Node) (arcs : List Arc) (lowers : List ℕ) (o : Op) (number : ℕ) (nodes : List ℕ) → AreListed node arcs lowers → IsForced node o → number ≡ number_of node.problem o → IsWalkTo lowers arcs number nodes
    → IsCarriedWhole node arcs lowers nodes
carried_whole node arcs lowers o number [] are forced is walk = absurd walk
carried_whole node arcs lowers o number (n ∷ rest) are forced is walk = from_first (first_of rest walk.1 walk.2)
  where
    first_of : (later : List ℕ) → FollowsArcs arcs n later → last_node_from n later ≡ number → (u : Op) × IsForced node u × (number_of node.problem u ≡ n)
    first_of [] follows last = (o, forced, sym (last ∙ is))
    first_of (m ∷ later) follows last =
        let listed = joining arcs n m follows.0 in
        let arc = All-contains (IsArcOf node) arcs listed.0 are.arcs_are.sound listed.1 in
        (arc.u, arc.joins.from_forced, sym arc.from_is ∙ listed.2)

    from_first : ((u : Op) × IsForced node u × (number_of node.problem u ≡ n)) → IsCarriedWhole node arcs lowers (n ∷ rest)
    from_first (u, start, own) =
        let over = carried node arcs lowers u rest are.arcs_are.sound are.lowers_are start (subst (λ (k : ℕ). FollowsArcs arcs k rest) (sym own) walk.1) in
        record {
          ops = u ∷ over.ops;
          total = over.total;
          is_walk = over.is_walk;
          numbers = ap (λ (l : List ℕ). number_of node.problem u ∷ l) over.numbers ∙ ap (λ (k : ℕ). k ∷ rest) own;
          enough = subst (λ (k : ℕ). walk_length lowers arcs (k ∷ rest) ≤ over.total) own over.enough;
        }

-- the numbers of a walk are those of operations
pub walk_below : (node : Node) (arcs : List Arc) (lowers : List ℕ) (o : Op) (number : ℕ) (nodes : List ℕ) → AreListed node arcs lowers → IsForced node o → number ≡ number_of node.problem o → IsWalkTo lowers arcs number nodes
    → All (λ n. n < operation_count node.problem.trains) nodes
walk_below node arcs lowers o number nodes are forced is walk =
    let over = carried_whole node arcs lowers o number nodes are forced is walk in
    subst (All (λ n. n < operation_count node.problem.trains)) over.numbers (numbers_below node.problem over.ops (walk_there node over.ops over.total over.is_walk))

once : (node : Node) (walk : List Op) (total : ℕ) → (HasCycle node → ⊥) → IsWalk node walk total → HasNoRepeat walk
once node [] total no_cycle is = absurd is
once node (u ∷ rest) total no_cycle is = from_once (u ∷ rest) (walk_once node no_cycle u (lower_of node.problem node.fixings u) rest total is.1)

last_walk : (problem : Problem) (ops : List Op) (lowers : List ℕ) (arcs : List Arc) (o : Op) (number : ℕ) (nodes : List ℕ) → All (HasOperation problem) ops → HasOperation problem o → map (number_of problem) ops ≡ nodes → number ≡ number_of problem o
    → IsWalkTo lowers arcs number nodes → IsLast ops o
last_walk problem ops lowers arcs o number [] there own numbers is walk = absurd walk
last_walk problem ops lowers arcs o number (n ∷ rest) there own numbers is walk = last_named problem ops n rest o there own numbers (walk.2 ∙ is)

-- the ends of a longest walk over numbers
pub long_ends : (node : Node) (arcs : List Arc) (lowers : List ℕ) (o : Op) (number : ℕ) (nodes : List ℕ) (ends : List Op) → AreListed node arcs lowers → IsForced node o → number ≡ number_of node.problem o → IsWalkTo lowers arcs number nodes
    → IsLongestLength lowers arcs number (walk_length lowers arcs nodes) → AreEndsOver node.problem nodes ends → IsLongWalk node o ends × NamesEnds ends
long_ends node arcs lowers o number nodes ends are forced is to long ends_are =
    let over = carried_whole node arcs lowers o number nodes are forced is to in
    let there = walk_there node over.ops over.total over.is_walk in
    let same : ends ≡ ends_of over.ops = ends_are over.ops (record { there = there; are = over.numbers }) in
    let last = last_walk node.problem over.ops lowers arcs o number nodes there (forced_is_op node o forced) over.numbers is to in
    let longest = listed_longest node arcs lowers o number (walk_length lowers arcs nodes) are forced is long in
    let within = longest.none_longer over.ops over.total (ends_in over.ops o last) (once node over.ops over.total are.no_cycle over.is_walk) over.is_walk in
    let total : walk_length lowers arcs nodes ≡ over.total = omega (arith, within, over.enough) in
    subst (λ (l : List Op). IsLongWalk node o l × NamesEnds l) (sym same)
    (record { ends = ends_in (ends_of over.ops) o (ends_last over.ops o last); total = over.total; is_walk = ends_walk node over.ops over.total over.is_walk; longest = subst (IsLongestAt node o) total longest }, ends_named over.ops)
