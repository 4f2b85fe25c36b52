-- Which operations are late, by the lengths of their numbers.
use Rattle.std.proofs.Common.{◌≡◌, ◌∙◌, ℕ, ◌+◌, ◌<◌, ◌≤◌, List, [], ◌∷◌, ◌++◌, ◌⊎◌, inl, inr, Option, Some, None, length, get_or, refl, sym, ap, subst, arith}
use Rattle.std.specs.Prelude.{slice_get, Contains, MatchOption}
use Rattle.std.proofs.lemmas.Bool.{cases_lt, lt-ltb, le-ltb}
use Rattle.std.proofs.lemmas.Option.{none-some, same_Some, slice_get_within}
use Rattle.std.proofs.lemmas.List.Elements.{All-contains}
use Rattle.disp_model.specs.declared.train.Op.{Op}
use Rattle.disp_model.specs.Numbers.{number_of}
use Rattle.disp_model.specs.Node.{Node}
use Rattle.disp_model.specs.Valid.{train_at}
use Rattle.disp_model.specs.Nodes.{HasLate, IsDead}
use Rattle.disp_model.specs.Routes.{HasRoute, IsForced}
use Rattle.disp_model.specs.Walks.{WalksOn, IsWalk, EndsIn, IsLongest, HasCycle, lower_of, upper_of}
use Rattle.disp_laws.proofs.Numbered.{each_number}
use Rattle.disp_laws.proofs.LongestWalks.{longest_walk, from_once}
use Rattle.incremental_paths.specs.declared.arc.Arc.{Arc}
use Rattle.incremental_paths.specs.Walks.{IsWalkTo, FollowsArcs, last_node_from, walk_length, IsLongestLength as IsLongestTo}
use Rattle.incremental_paths.proofs.Members.{joining}
use Rattle.timed_paths.specs.Above.{IsAboveUpper}
use Rattle.event_arcs.specs.Listed.{IsArcOf, AreArcsOf, AreLowersOf}
use Rattle.event_arcs.proofs.Numbering.{forced_is_op, same_by_number}
use Rattle.event_arcs.proofs.Lengths.{same_longest}
use Rattle.event_windows.specs.Operations.{HasOperation, AreOperationsOf}
use Rattle.event_windows.specs.Windows.{window_by}
use Rattle.event_graph.specs.Late.{until_from, open_until, AreUppersOf, IsWindowClosed, AreClosedOf, IsLateAt}

-- ---- windows

until_is : (lower : ℕ) (given : Option ℕ) (upper : ℕ) → until_from lower given ≡ Some upper → (given ≡ Some upper) × (lower ≤ upper)
until_is lower None upper e = absurd (none-some upper e)
until_is lower (Some other) upper e = elim (cases_lt other lower) [
  | inl below ↦ absurd (none-some upper (rw (lt-ltb other lower below) at e))
  | inr later ↦
      let is : Some other ≡ Some upper = rw (le-ltb other lower later) at e in
      (is, omega (arith, same_Some other upper is, later))
]

until_given : (lower : ℕ) (given : Option ℕ) (upper : ℕ) → given ≡ Some upper → lower ≤ upper → until_from lower given ≡ Some upper
until_given lower given upper is from = rw (is, le-ltb upper lower from) refl

-- ---- walks

-- a walk's last operation is forced
ends_forced : (node : Node) (u : Op) (walked : ℕ) (rest : List Op) (total : ℕ) → IsForced node u → WalksOn node u walked rest total → (o : Op) → EndsIn (u ∷ rest) o → IsForced node o
ends_forced node u walked [] total forced on o ends = subst (IsForced node) (only ends.0 ends.1) forced
  where
    only : (front : List Op) → u ∷ [] ≡ front ++ o ∷ [] → u ≡ o
    only [] e = cc e
    only (x ∷ []) e = absurd cc
    only (x ∷ y ∷ front) e = absurd cc
ends_forced node u walked (v ∷ rest) total forced on o ends = later ends.0 ends.1 (λ found. ends_forced node v (walked + on.0) rest total on.1.there.to_forced on.2 o found)
  where
    later : (front : List Op) → u ∷ v ∷ rest ≡ front ++ o ∷ [] → (EndsIn (v ∷ rest) o → IsForced node o) → IsForced node o
    later [] e go = absurd cc
    later (x ∷ front) e go = go (front, cc e)

pub longest_forced : (node : Node) (o : Op) (total : ℕ) → IsLongest node o total → IsForced node o
longest_forced node o total longest = from longest.reached.0 longest.reached.1 longest.reached.3
  where
    from : (walk : List Op) → EndsIn walk o → IsWalk node walk total → IsForced node o
    from [] ends is = absurd is
    from (u ∷ rest) ends is = ends_forced node u (lower_of node.problem node.fixings u) rest total is.0 is.1 o ends

-- an operation is reached no earlier than from when it may start
from_lower : (node : Node) (o : Op) (total : ℕ) → IsForced node o → IsLongest node o total → lower_of node.problem node.fixings o ≤ total
from_lower node o total forced longest = longest.none_longer (o ∷ []) (lower_of node.problem node.fixings o) ([], refl) (from_once (o ∷ []) ((λ there. absurd there), tt)) (forced, refl)

-- ---- by numbers

module _ (node : Node) (arcs : List Arc) (lowers : List ℕ) (uppers : List (Option ℕ)) (arcs_are : AreArcsOf node arcs) (lowers_are : AreLowersOf node lowers) (uppers_are : AreUppersOf node.problem node.fixings uppers) (no_cycle : HasCycle node → ⊥) where
  -- where a number is reached later than from when its operation may start, the operation is forced
  entered : (o : Op) (nodes : List ℕ) → HasOperation node.problem o → IsWalkTo lowers arcs (number_of node.problem o) nodes → lower_of node.problem node.fixings o < walk_length lowers arcs nodes → IsForced node o
  entered o [] there walk late = absurd walk
  entered o (n ∷ []) there walk late = absurd (omega (arith, late, ap (λ (k : ℕ). get_or lowers k 0) walk.2, lowers_are.at o there))
  entered o (n ∷ m ∷ rest) there walk late = last n m rest walk.1 walk.2
    where
      last : (u v : ℕ) (later : List ℕ) → FollowsArcs arcs u (v ∷ later) → last_node_from v later ≡ number_of node.problem o → IsForced node o
      last u v [] follows is =
          let listed = joining arcs u v follows.0 in
          let arc = All-contains (IsArcOf node) arcs listed.0 arcs_are.sound listed.1 in
          subst (IsForced node) (same_by_number node.problem arc.v o (forced_is_op node arc.v arc.joins.to_forced) there (sym arc.to_is ∙ listed.3 ∙ is)) arc.joins.to_forced
      last u v (w ∷ later) follows is = last v w later follows.1 is

  pub late_of_above : (ops : List Op) (number : ℕ) (o : Op) → AreOperationsOf node.problem ops → IsAboveUpper lowers arcs uppers number → slice_get ops number ≡ Some o → IsLateAt node o
  late_of_above ops number o ops_are above at = from (each_number node.problem number (omega (arith, slice_get_within uppers number (Some above.upper) above.upper_is, uppers_are.long)))
    where
      from : (p : Op) × (p.train < length node.problem.trains) × (p.op < length (train_at node.problem p.train)) × (number_of node.problem p ≡ number) → IsLateAt node o
      from (p, train, op, is) =
          let there : HasOperation node.problem p = record { train = train; op = op } in
          let same : p ≡ o = same_Some p o (sym (ops_are.listed p there) ∙ ap (λ (k : ℕ). slice_get ops k) is ∙ at) in
          let until : open_until (window_by node.problem node.fixings p) ≡ Some above.upper =
          same_Some (open_until (window_by node.problem node.fixings p)) (Some above.upper) (sym (uppers_are.at p there) ∙ ap (λ (k : ℕ). slice_get uppers k) is ∙ above.upper_is) in
          let window = until_is (lower_of node.problem node.fixings p) (upper_of node.problem node.fixings p) above.upper until in
          let listed : IsLongestTo lowers arcs (number_of node.problem p) above.longest = subst (λ (k : ℕ). IsLongestTo lowers arcs k above.longest) (sym is) above.longest_is in
          let forced = entered p listed.reached.0 there listed.reached.1 (omega (arith, window.1, above.above, listed.reached.3)) in
          let longest = (same_longest node arcs lowers p above.longest arcs_are lowers_are no_cycle forced).1 listed in
          record {
            late = record { operation = p; total = above.longest; longest = longest; upper = above.upper; upper_is = window.0; late = above.above };
            operation = same;
          }

  -- what is late is above its upper, or may start at no time
  pub late_is_told : (closed : List Op) → AreClosedOf node.problem node.fixings closed → (late : HasLate node) → IsAboveUpper lowers arcs uppers (number_of node.problem late.operation) ⊎ (Contains closed late.operation × IsForced node late.operation)
  late_is_told closed closed_are late =
      let o = late.operation in
      let forced = longest_forced node o late.total late.longest in
      let there = forced_is_op node o forced in
      elim (cases_lt late.upper (lower_of node.problem node.fixings o)) [
        | inl below ↦ inr (closed_are.found o there (record { upper = late.upper; upper_is = late.upper_is; below = below }), forced)
        | inr later ↦ inl (record {
          upper = late.upper;
          upper_is = uppers_are.at o there ∙ ap Some (until_given (lower_of node.problem node.fixings o) (upper_of node.problem node.fixings o) late.upper late.upper_is later);
          longest = late.total;
          longest_is = (same_longest node arcs lowers o late.total arcs_are lowers_are no_cycle forced).0 late.longest;
          above = late.late;
        })
      ]

-- an operation that must be run and may start at no time is late
pub late_where_closed : (node : Node) (closed : List Op) (o : Op) → AreClosedOf node.problem node.fixings closed → Contains closed o → IsForced node o → IsLateAt node o
late_where_closed node closed o are has forced =
    let is = (All-contains (λ (p : Op). HasOperation node.problem p × IsWindowClosed (window_by node.problem node.fixings p)) closed o are.only has).1 in
    let longest = longest_walk node o forced in
    record {
      late = record { operation = o; total = longest.0; longest = longest.1; upper = is.upper; upper_is = is.upper_is; late = omega (arith, is.below, from_lower node o longest.0 forced longest.1) };
      operation = refl;
    }

module _ (node : Node) (arcs : List Arc) (lowers : List ℕ) (uppers : List (Option ℕ)) (arcs_are : AreArcsOf node arcs) (lowers_are : AreLowersOf node lowers) (uppers_are : AreUppersOf node.problem node.fixings uppers) (no_cycle : HasCycle node → ⊥) where
  -- where each train has a route and no number is above its upper, only what must be run and may start at no time is late
  pub none_late_or_closed : ((t : ℕ) → t < length node.problem.trains → HasRoute node t) → (closed : List Op) (found : Option Op) → AreClosedOf node.problem node.fixings closed → ((number : ℕ) → IsAboveUpper lowers arcs uppers number → ⊥)
      → MatchOption found ((o : Op) → Contains closed o → IsForced node o → ⊥) (λ o. Contains closed o × IsForced node o) → MatchOption found (IsDead node → ⊥) (IsLateAt node)
  none_late_or_closed routes closed (Some o) are none is = late_where_closed node closed o are is.0 is.1
  none_late_or_closed routes closed None are none is = λ dead. elim dead [
    | inl without ↦ without.2 (routes without.0 without.1)
    | inr more ↦ elim more [
      | inl cycle ↦ no_cycle cycle
      | inr late ↦ elim (late_is_told node arcs lowers uppers arcs_are lowers_are uppers_are no_cycle closed are late) [
        | inl above ↦ none (number_of node.problem late.operation) above
        | inr forced ↦ is late.operation forced.0 forced.1
      ]
    ]
  ]
