-- Walks along a list of arcs and walks of the node are as long as each other.
use Rattle.std.proofs.Common.{◌≡◌, ℕ, ◌+◌, ◌<◌, ◌≤◌, List, [], ◌∷◌, ◌++◌, length, map, refl, sym, ap, subst, ◌∙◌, arith}
use Rattle.std.specs.Prelude.{All, ◌↔◌}
use Rattle.std.proofs.lemmas.List.Elements.{All-contains}
use Rattle.disp_model.specs.declared.train.Op.{Op}
use Rattle.disp_model.specs.Numbers.{number_of}
use Rattle.disp_model.specs.Node.{Node}
use Rattle.disp_model.specs.Routes.{IsForced}
use Rattle.disp_model.specs.Walks.{lower_of, WalksOn, IsWalk, EndsIn, IsLongest as IsLongestAt, HasCycle as HasCycleAt}
use Rattle.disp_laws.proofs.Numbered.{below_count}
use Rattle.disp_laws.proofs.LongestWalks.{longest_walk, from_once}
use Rattle.disp_laws.proofs.EarliestExists.{walk_once}
use Rattle.incremental_paths.specs.declared.arc.Arc.{Arc}
use Rattle.incremental_paths.specs.Walks.{FollowsArcs, last_node_from, IsWalkTo, steps_length, walk_length, IsLongestLength}
use Rattle.incremental_paths.proofs.WaysBack.{follows_append, last_append}
use Rattle.incremental_paths.proofs.Members.{joining}
use Rattle.incremental_paths.proofs.Bounds.{walks_once}
use Rattle.event_arcs.specs.Listed.{IsArcOf, AreArcsOf, AreLowersOf}
use Rattle.event_arcs.proofs.Leading.{steps_append}
use Rattle.event_arcs.proofs.Numbering.{forced_is_op, same_forced, walked_of}
use Rattle.event_arcs.proofs.Cycling.{cycle_from}

-- ---- from numbers to operations

-- the walk of operations that numbers stand for
pub record IsCarried (node : Node) (arcs : List Arc) (lowers : List ℕ) (u : Op) (rest : List ℕ) : Type 0 where
  pub ops : List Op
  pub total : ℕ
  pub numbers : map (number_of node.problem) ops ≡ rest
  pub is_walk : IsWalk node (u ∷ ops) total
  pub enough : walk_length lowers arcs (number_of node.problem u ∷ rest) ≤ total

pub carried : (node : Node) (arcs : List Arc) (lowers : List ℕ) (u : Op) (rest : List ℕ) → All (IsArcOf node) arcs → AreLowersOf node lowers → IsForced node u
    → FollowsArcs arcs (number_of node.problem u) rest → IsCarried node arcs lowers u rest
carried node arcs lowers u rest sound are forced follows =
    let walked = walked_of node arcs u (lower_of node.problem node.fixings u) rest sound forced follows in
    let lower = are.at u (forced_is_op node u forced) in
    record { ops = walked.ops; total = walked.total; numbers = walked.numbers; is_walk = (forced, walked.on); enough = omega (arith, walked.enough, lower) }

-- the last of the operations has the last number
last_op : Op → List Op → Op
last_op u [] = u
last_op u (v ∷ ops) = last_op v ops

ends_last : (u : Op) (ops : List Op) → EndsIn (u ∷ ops) (last_op u ops)
unfolding last_op
ends_last u [] = ([], refl)
ends_last u (v ∷ ops) = let later = ends_last v ops in (u ∷ later.0, ap (λ (l : List Op). u ∷ l) later.1)

last_number : (node : Node) (u : Op) (ops : List Op) → number_of node.problem (last_op u ops) ≡ last_node_from (number_of node.problem u) (map (number_of node.problem) ops)
unfolding last_op
last_number node u [] = refl
last_number node u (v ∷ ops) = last_number node v ops

last_forced : (node : Node) (u : Op) (walked : ℕ) (ops : List Op) (total : ℕ) → IsForced node u → WalksOn node u walked ops total → IsForced node (last_op u ops)
unfolding last_op
last_forced node u walked [] total forced on = forced
last_forced node u walked (v ∷ ops) total forced on = last_forced node v (walked + on.0) ops total on.1.there.to_forced on.2

ends_at : (node : Node) (u o : Op) (ops : List Op) (total : ℕ) → IsForced node o → IsWalk node (u ∷ ops) total → last_node_from (number_of node.problem u) (map (number_of node.problem) ops) ≡ number_of node.problem o
    → EndsIn (u ∷ ops) o
ends_at node u o ops total forced walk last =
    let same = same_forced node (last_op u ops) o (last_forced node u (lower_of node.problem node.fixings u) ops total walk.0 walk.1) forced (last_number node u ops ∙ last) in
    subst (EndsIn (u ∷ ops)) same (ends_last u ops)

-- no walk along the list to a forced operation is longer than its longest
list_within : (node : Node) (arcs : List Arc) (lowers : List ℕ) (o : Op) (total : ℕ) (nodes : List ℕ) → All (IsArcOf node) arcs → AreLowersOf node lowers → (HasCycleAt node → ⊥) → IsForced node o
    → IsLongestAt node o total → IsWalkTo lowers arcs (number_of node.problem o) nodes → walk_length lowers arcs nodes ≤ total
list_within node arcs lowers o total [] sound are no_cycle forced longest walk = absurd walk
list_within node arcs lowers o total (n ∷ rest) sound are no_cycle forced longest walk = from_first (first_of rest walk.1 walk.2)
  where
    first_of : (later : List ℕ) → FollowsArcs arcs n later → last_node_from n later ≡ number_of node.problem o → (u : Op) × IsForced node u × (number_of node.problem u ≡ n)
    first_of [] follows last = (o, forced, sym last)
    first_of (m ∷ later) follows last =
        let listed = joining arcs n m follows.0 in
        let arc = All-contains (IsArcOf node) arcs listed.0 sound listed.1 in
        (arc.u, arc.joins.from_forced, sym arc.from_is ∙ listed.2)

    from_first : ((u : Op) × IsForced node u × (number_of node.problem u ≡ n)) → walk_length lowers arcs (n ∷ rest) ≤ total
    from_first (u, start, is) =
        let on : FollowsArcs arcs (number_of node.problem u) rest = subst (λ (k : ℕ). FollowsArcs arcs k rest) (sym is) walk.1 in
        let over = carried node arcs lowers u rest sound are start on in
        let last : last_node_from (number_of node.problem u) (map (number_of node.problem) over.ops) ≡ number_of node.problem o =
        ap (λ (l : List ℕ). last_node_from (number_of node.problem u) l) over.numbers ∙ ap (λ (k : ℕ). last_node_from k rest) is ∙ walk.2 in
        let ends = ends_at node u o over.ops over.total forced over.is_walk last in
        let once = from_once (u ∷ over.ops) (walk_once node no_cycle u (lower_of node.problem node.fixings u) over.ops over.total over.is_walk.1) in
        let same : walk_length lowers arcs (number_of node.problem u ∷ rest) ≡ walk_length lowers arcs (n ∷ rest) = ap (λ (k : ℕ). walk_length lowers arcs (k ∷ rest)) is in
        omega (arith, over.enough, same, longest.none_longer (u ∷ over.ops) over.total ends once over.is_walk)

-- ---- from operations to numbers

-- a way along the list over the arcs of a walk
record IsListedWay (node : Node) (arcs : List Arc) (u : Op) (walked : ℕ) (o : Op) (total : ℕ) : Type 0 where
  pub rest : List ℕ
  pub follows : FollowsArcs arcs (number_of node.problem u) rest
  pub ends : last_node_from (number_of node.problem u) rest ≡ number_of node.problem o
  pub enough : total ≤ walked + steps_length arcs (number_of node.problem u) rest

way_over : (node : Node) (arcs : List Arc) (u : Op) (walked : ℕ) (ops : List Op) (total : ℕ) → AreArcsOf node arcs → WalksOn node u walked ops total → IsListedWay node arcs u walked (last_op u ops) total
unfolding last_op
way_over node arcs u walked [] total are on = record { rest = []; follows = tt; ends = refl; enough = omega (arith, on) }
way_over node arcs u walked (v ∷ ops) total are on =
    let later = way_over node arcs v (walked + on.0) ops total are on.2 in
    let first = are.complete u v on.0 on.1.there in
    let from : FollowsArcs arcs (last_node_from first.next first.rest) later.rest = subst (λ (n : ℕ). FollowsArcs arcs n later.rest) (sym first.ends) later.follows in
    let far : steps_length arcs (last_node_from first.next first.rest) later.rest ≡ steps_length arcs (number_of node.problem v) later.rest = ap (λ (n : ℕ). steps_length arcs n later.rest) first.ends in
    record {
      rest = (first.next ∷ first.rest) ++ later.rest;
      follows = follows_append arcs (number_of node.problem u) (first.next ∷ first.rest) later.rest first.follows from;
      ends = last_append (number_of node.problem u) (first.next ∷ first.rest) later.rest ∙ ap (λ (n : ℕ). last_node_from n later.rest) first.ends ∙ later.ends;
      enough = omega (arith, later.enough, first.long, far, steps_append arcs (number_of node.problem u) (first.next ∷ first.rest) later.rest);
    }

last_same : (u o : Op) (ops : List Op) → EndsIn (u ∷ ops) o → last_op u ops ≡ o
unfolding last_op
last_same u o [] ends = only ends.0 ends.1
  where
    only : (front : List Op) → u ∷ [] ≡ front ++ o ∷ [] → u ≡ o
    only [] e = cc e
    only (x ∷ []) e = absurd cc
    only (x ∷ y ∷ front) e = absurd cc
last_same u o (v ∷ ops) ends = later ends.0 ends.1 (λ found. last_same v o ops found)
  where
    later : (front : List Op) → u ∷ v ∷ ops ≡ front ++ o ∷ [] → (EndsIn (v ∷ ops) o → last_op v ops ≡ o) → last_op v ops ≡ o
    later [] e go = absurd cc
    later (x ∷ front) e go = go (front, cc e)

-- ---- the same longest

listed_longest : (node : Node) (arcs : List Arc) (lowers : List ℕ) (o : Op) (total : ℕ) → AreArcsOf node arcs → AreLowersOf node lowers → (HasCycleAt node → ⊥) → IsForced node o
    → IsLongestAt node o total → IsLongestLength lowers arcs (number_of node.problem o) total
listed_longest node arcs lowers o total are low no_cycle forced longest = from_walk longest.reached.0 longest.reached.1 longest.reached.3
  where
    within : (nodes : List ℕ) → IsWalkTo lowers arcs (number_of node.problem o) nodes → walk_length lowers arcs nodes ≤ total
    within nodes walk = list_within node arcs lowers o total nodes are.sound low no_cycle forced longest walk

    from_walk : (walk : List Op) → EndsIn walk o → IsWalk node walk total → IsLongestLength lowers arcs (number_of node.problem o) total
    from_walk [] ends is = absurd is
    from_walk (u ∷ ops) ends is =
        let way = way_over node arcs u (lower_of node.problem node.fixings u) ops total are is.1 in
        let op = forced_is_op node u is.0 in
        let there : number_of node.problem u < length lowers = omega (arith, below_count node.problem u op.train op.op, low.long) in
        let nodes = number_of node.problem u ∷ way.rest in
        let walk : IsWalkTo lowers arcs (number_of node.problem o) nodes = (there, way.follows, way.ends ∙ ap (number_of node.problem) (last_same u o ops ends)) in
        record {
          reached = (nodes, walk, walks_once arcs (λ cycle. no_cycle (cycle_from node arcs are.sound cycle)) lowers (number_of node.problem o) nodes walk, omega (arith, within nodes walk, way.enough, low.at u op));
          greatest = λ others other once. within others other;
        }

pub same_longest : (node : Node) (arcs : List Arc) (lowers : List ℕ) (o : Op) (total : ℕ) → AreArcsOf node arcs → AreLowersOf node lowers → (HasCycleAt node → ⊥) → IsForced node o
    → (IsLongestAt node o total ↔ IsLongestLength lowers arcs (number_of node.problem o) total)
same_longest node arcs lowers o total are low no_cycle forced = (listed_longest node arcs lowers o total are low no_cycle forced, back)
  where
    back : IsLongestLength lowers arcs (number_of node.problem o) total → IsLongestAt node o total
    back listed =
        let longest = longest_walk node o forced in
        let other = listed_longest node arcs lowers o longest.0 are low no_cycle forced longest.1 in
        let same : longest.0 ≡ total = omega (
          arith,
          listed.reached.3,
          other.reached.3,
          listed.greatest other.reached.0 other.reached.1 other.reached.2,
          other.greatest listed.reached.0 listed.reached.1 listed.reached.2,
        ) in
        subst (IsLongestAt node o) same longest.1
