-- The base of an operation is the length of its paths.
use Rattle.std.proofs.Common.{◌≡◌, ℕ, List, [], ◌∷◌, sym, ap, subst, ◌∙◌, inl, inr, arith}
use Rattle.std.specs.Prelude.{Contains, slice_index}
use Rattle.std.proofs.lemmas.List.Elements.{All-contains}
use Rattle.disp_model.specs.declared.train.Op.{Op}
use Rattle.disp_model.specs.Numbers.{number_of}
use Rattle.disp_model.specs.Node.{Node}
use Rattle.disp_model.specs.Routes.{IsForced}
use Rattle.disp_model.specs.Walks.{lower_of, HasCycle}
use Rattle.disp_model.specs.Shares.{IsBase}
use Rattle.disp_laws.proofs.RouteSearch.{is_forced_or_not}
use Rattle.disp_laws.proofs.HorizonBounds.{AreSmall, edition_is_small}
use Rattle.incremental_paths.specs.declared.arc.Arc.{Arc}
use Rattle.incremental_paths.specs.Walks.{FollowsArcs, last_node_from, IsWalkTo, IsLongestLength, walk_length}
use Rattle.incremental_paths.proofs.Members.{joining}
use Rattle.event_arcs.specs.Listed.{IsArcOf, AreArcsOf, AreLowersOf}
use Rattle.event_arcs.proofs.Numbering.{forced_is_op, same_by_number}
use Rattle.event_arcs.proofs.Lengths.{same_longest}
use Rattle.event_windows.specs.Operations.{HasOperation}
use Rattle.event_graph.specs.Joined.{IsOfEdition}

pub edition_small : (node : Node) → IsOfEdition node → AreSmall node.fixings
edition_small node edition = subst AreSmall (sym edition.2)
    (edition_is_small node.problem edition.0 edition.1)

-- an arc leads into the last node of a way
arc_into : (arcs : List Arc) (n m : ℕ) (rest : List ℕ) → FollowsArcs arcs n (m ∷ rest) → (arc : Arc)
    × Contains arcs arc × (arc.to ≡ last_node_from m rest)
arc_into arcs n m [] follows = let listed = joining arcs n m follows.0 in
    (listed.0, listed.1, listed.3)
arc_into arcs n m (q ∷ rest) follows = arc_into arcs m q rest follows.1

-- no way leads to an operation that is not forced
nowhere : (node : Node) (arcs : List Arc) (o : Op) (n m : ℕ) (rest : List ℕ) → AreArcsOf node arcs
    → HasOperation node.problem o → (IsForced node o → ⊥) → FollowsArcs arcs n (m ∷ rest)
    → last_node_from m rest ≡ number_of node.problem o → ⊥
nowhere node arcs o n m rest are there not follows last =
    let listed = arc_into arcs n m rest follows in
    let arc = All-contains (IsArcOf node) arcs listed.0 are.sound listed.1 in
    let forced = arc.joins.to_forced in
    not (subst (IsForced node)
    (same_by_number node.problem arc.v o (forced_is_op node arc.v forced) there (sym arc.to_is
    ∙ listed.2 ∙ last)) forced)

alone : (node : Node) (arcs : List Arc) (lowers : List ℕ) (o : Op) (found : ℕ) → AreArcsOf node arcs
    → AreLowersOf node lowers → HasOperation node.problem o → (IsForced node o → ⊥)
    → IsLongestLength lowers arcs (number_of node.problem o) found
    → found ≡ lower_of node.problem node.fixings o
alone node arcs lowers o found are_arcs are_lowers there not longest = by longest.reached.0
    longest.reached.1 longest.reached.3
  where
    by : (nodes : List ℕ) → IsWalkTo lowers arcs (number_of node.problem o) nodes
        → walk_length lowers arcs nodes ≡ found → found ≡ lower_of node.problem node.fixings o
    by [] walk is = absurd walk
    by (n ∷ []) walk is = let same = ap (slice_index lowers) walk.2 in
        omega (arith, is, same, are_lowers.at o there)
    by (n ∷ m ∷ rest) walk is = absurd
        (nowhere node arcs o n m rest are_arcs there not walk.1 walk.2)

pub base_found : (node : Node) (arcs : List Arc) (lowers : List ℕ) (o : Op) (number found : ℕ)
    → AreArcsOf node arcs → AreLowersOf node lowers → (HasCycle node → ⊥)
    → HasOperation node.problem o → number ≡ number_of node.problem o
    → IsLongestLength lowers arcs number found → IsBase node o found
base_found node arcs lowers o number found are_arcs are_lowers no_cycle there is longest = elim
    (is_forced_or_not node o) [
      | inl forced ↦ inl (
        forced,
        (same_longest node arcs lowers o found are_arcs are_lowers no_cycle forced).1 own,
      )
      | inr not ↦ inr (not, alone node arcs lowers o found are_arcs are_lowers there not own)
    ]
  where
    own : IsLongestLength lowers arcs (number_of node.problem o) found
    own = subst (λ (n : ℕ). IsLongestLength lowers arcs n found) is longest
