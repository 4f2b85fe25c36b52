-- Ways along a list of arcs, joined end to end.
use Rattle.std.proofs.Common.{◌≡◌, ℕ, ◌+◌, List, [], ◌∷◌, ◌++◌, sym, ap, subst, ◌∙◌, arith}
use Rattle.incremental_paths.specs.declared.arc.Arc.{Arc}
use Rattle.incremental_paths.specs.Walks.{JoinsPair, FollowsArcs, last_node_from, steps_length, ArcsHaveCycle}
use Rattle.incremental_paths.proofs.WaysBack.{follows_append, last_append}
use Rattle.event_arcs.specs.Listed.{LeadsOver}

pub steps_append : (arcs : List Arc) (u : ℕ) (xs ys : List ℕ) → steps_length arcs u (xs ++ ys) ≡ steps_length arcs u xs + steps_length arcs (last_node_from u xs) ys
steps_append arcs u [] ys = omega arith
steps_append arcs u (x ∷ xs) ys = omega (arith, steps_append arcs x xs ys)

-- one way, and another behind it
pub leads_then : (arcs : List Arc) (u v w one two : ℕ) → LeadsOver arcs u v one → LeadsOver arcs v w two → LeadsOver arcs u w (one + two)
leads_then arcs u v w one two first second =
    let behind = second.next ∷ second.rest in
    let on : FollowsArcs arcs (last_node_from first.next first.rest) behind = subst (λ (n : ℕ). FollowsArcs arcs n behind) (sym first.ends) second.follows in
    let far : steps_length arcs (last_node_from first.next first.rest) behind ≡ steps_length arcs v behind = ap (λ (n : ℕ). steps_length arcs n behind) first.ends in
    record {
      next = first.next;
      rest = first.rest ++ behind;
      follows = follows_append arcs u (first.next ∷ first.rest) behind first.follows on;
      ends = last_append first.next first.rest behind ∙ ap (λ (n : ℕ). last_node_from n behind) first.ends ∙ second.ends;
      long = omega (arith, first.long, second.long, steps_append arcs u (first.next ∷ first.rest) behind, far);
    }

-- a way that comes back makes a cycle
pub back_makes_cycle : (arcs : List Arc) (u least : ℕ) → LeadsOver arcs u u least → ArcsHaveCycle arcs
back_makes_cycle arcs u least way =
    (way.next ∷ way.rest, (way.follows.1, subst (λ (n : ℕ). JoinsPair arcs n way.next) (sym way.ends) way.follows.0))
