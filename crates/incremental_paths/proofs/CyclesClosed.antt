-- A way from the end of an arc back to its beginning is a cycle with that arc, and a cycle of some arcs is one of more.
use Rattle.std.proofs.Common.{ℕ, ◌<◌, List, [], ◌∷◌, ◌++◌, length, get_or, take, sym, subst, arith, inl, inr, Contains}
use Rattle.std.proofs.lemmas.List.Elements.{Contains-push, Contains-push_cases, Contains-append_left, Contains-append_right, Contains-append_cases}
use Rattle.incremental_paths.specs.declared.arc.Arc.{Arc}
use Rattle.incremental_paths.specs.Walks.{last_node_from, Leads, IsArcCycle}
use Rattle.incremental_paths.proofs.Members.{IsPart, joined, joined_part}
use Rattle.incremental_paths.proofs.Walking.{Follows_part}
use Rattle.incremental_paths.proofs.Pairs.{contains_at}
use Rattle.incremental_paths.proofs.KeptFields.{front_part}

pub cycle_part : (xs ys : List Arc) → IsPart xs ys → (nodes : List ℕ) → IsArcCycle xs nodes → IsArcCycle ys nodes
cycle_part xs ys part [] c = c
cycle_part xs ys part (u ∷ rest) c = (Follows_part xs ys part u rest c.0, joined_part xs ys part (last_node_from u rest) u c.1)

pub cycle_from_way : (arcs : List Arc) (new : Arc) (nodes : List ℕ) → Leads arcs new.to new.from nodes → IsArcCycle (arcs ++ new ∷ []) nodes
cycle_from_way arcs new [] way = way
cycle_from_way arcs new (w ∷ rest) way =
    (Follows_part arcs (arcs ++ new ∷ []) (λ b c. Contains-append_left arcs (new ∷ []) b c) w rest way.1, joined (arcs ++ new ∷ []) new (last_node_from w rest) w (Contains-push arcs new) (sym way.2) (sym way.0))

-- each arc of the first of these, and the one behind them, is one of all
front_is_part : (arcs more : List Arc) (i : ℕ) (d : Arc) → i < length more → IsPart ((arcs ++ take i more) ++ get_or more i d ∷ []) (arcs ++ more)
front_is_part arcs more i d lt a c =
    elim (Contains-push_cases (arcs ++ take i more) (get_or more i d) a c) [
      | inl front ↦ elim (Contains-append_cases arcs (take i more) a front) [
        | inl old ↦ Contains-append_left arcs more a old
        | inr new ↦ Contains-append_right arcs more a (front_part more i (omega (arith, lt)) a new)
      ]
      | inr same ↦ Contains-append_right arcs more a (subst (Contains more) same (contains_at more i d lt))
    ]

pub cycle_of_front : (arcs more : List Arc) (i : ℕ) (d : Arc) (nodes : List ℕ) → i < length more → IsArcCycle ((arcs ++ take i more) ++ get_or more i d ∷ []) nodes → IsArcCycle (arcs ++ more) nodes
cycle_of_front arcs more i d nodes lt c = cycle_part ((arcs ++ take i more) ++ get_or more i d ∷ []) (arcs ++ more) (front_is_part arcs more i d lt) nodes c
