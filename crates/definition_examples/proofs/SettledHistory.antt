-- The whole history of the edition that fixes the first train's start: grown, a plan published, and settled.
use Rattle.std.proofs.Common.{◌≡◌, inl, inr, ℕ, zero, suc, ◌<◌, ◌≤◌, List, [], ◌∷◌, Option, Some, None, Bool, true, false, cond, refl, sym, ◌∙◌, arith, rules, subst}
use Rattle.std.specs.Prelude.{◌==◌, ◌&&◌}
use Rattle.std.specs.Option.{option_map_or}
use Rattle.std.proofs.lemmas.Option.{none-some}
use Rattle.definition_examples.specs.Histories.{fixed_rule}
use Rattle.disp_model.specs.declared.fixing.Change.TheVariants.{Fix}
use Rattle.disp_model.specs.Node.{root_of}
use Rattle.disp_model.specs.declared.problem.Problem.{Problem}
use Rattle.disp_model.specs.declared.decision.Choice.TheVariants.{Order}
use Rattle.disp_model.specs.declared.entry.Entry.{Entry}
use Rattle.disp_model.specs.declared.entry.Split.{Split}
use Rattle.disp_model.specs.declared.entry.Entry.TheVariants.{Asked, Shown, Grown, Published, Settled}
use Rattle.disp_model.specs.declared.entry.Mark.{Mark}
use Rattle.disp_model.specs.declared.entry.Mark.TheVariants as mark
use Rattle.disp_model.specs.declared.tree.TreeNode.{TreeNode}
use Rattle.disp_model.specs.declared.reply.Reply.TheVariants.{Accepted}
use Rattle.disp_model.specs.declared.tree.Verdict.TheVariants.{Optimal}
use Rattle.disp_model.specs.WellFormed.{IsWellFormed}
use Rattle.disp_model.specs.Valid.{IsValid}
use Rattle.disp_model.specs.Walks.{upper_of}
use Rattle.disp_model.specs.Nodes.{IsDead, HasLate}
use Rattle.disp_model.specs.Replay.{IsUseful}
use Rattle.disp_model.specs.Legal.{IsLegal, IsLegalGrowth, IsLegalPlan, IsLegalVerdict}
use Rattle.definition_examples.specs.Trains.{HasTwoTrains, two_trains, two_costs, op_named, a0, b0}
use Rattle.definition_examples.specs.Plans.{first_first, second_first}
use Rattle.definition_examples.specs.Trees.{late_tree}
use Rattle.definition_examples.specs.Histories.{a0_at_0, asked, settled, settled_again}
use Rattle.definition_examples.proofs.Made.{of_made}
use Rattle.definition_examples.proofs.Heights.{no_cycle, walk_below}
use Rattle.definition_examples.proofs.TwoArcs.{two, IsOpen, free_arcs}
use Rattle.definition_examples.proofs.TwoWalks.{opened, started, undecided, started_from_zero}
use Rattle.definition_examples.proofs.TwoBounds.{height, rises, free_height, free_bound}
use Rattle.definition_examples.proofs.Picks.{own_ranks, picks_order}
use Rattle.definition_examples.proofs.Answered.{a_start_is_accepted}
use Rattle.definition_examples.proofs.JudgedTrees.{has_route, late_accepted}
use Rattle.definition_examples.proofs.JudgedHistories.{legal, not_valid_then}

open_started : (names : List (List ℕ)) (w : IsWellFormed (two_trains 0) two_costs names) → IsOpen (root_of (two 0 names w) (a0_at_0 ∷ []))
open_started names w = opened 0 names w (a0_at_0 ∷ []) [] started undecided

-- ---- the root is not dead: A0 alone has an upper, and it is in time

pub no_upper : (names : List (List ℕ)) (w : IsWellFormed (two_trains 0) two_costs names) (t o : ℕ) → upper_of (two 0 names w) [] (op_named t o) ≡ None
no_upper names w zero zero = refl
no_upper names w zero (suc zero) = refl
no_upper names w zero (suc (suc o)) = refl
no_upper names w (suc zero) zero = refl
no_upper names w (suc zero) (suc zero) = refl
no_upper names w (suc zero) (suc (suc o)) = refl
no_upper names w (suc (suc t)) o = refl

-- an operation that is fixed, or has no upper, is in time where it can start by then
in_time : (b : Bool) (free : Option ℕ) (upper total : ℕ) → free ≡ None → (b ≡ true → total ≤ 0) → option_map_or Some (cond b (Some 0) None) free ≡ Some upper → upper < total → ⊥
in_time true free upper total none by is late =
    let least : total ≤ 0 = by refl in
    omega (arith, least, late)
in_time false free upper total none by is late = none-some upper (sym none ∙ is)

a0_height : (t o : ℕ) → ((0 == t) && (0 == o)) ≡ true → height 0 10 0 4 (op_named t o) ≡ 0
a0_height zero zero same = refl
a0_height zero (suc o) same = absurd (grind (arith, same))
a0_height (suc t) o same = absurd (grind (arith, same))

not_late : (names : List (List ℕ)) (w : IsWellFormed (two_trains 0) two_costs names) → HasLate (root_of (two 0 names w) (a0_at_0 ∷ [])) → ⊥
not_late names w late =
    let problem = two 0 names w in
    let o = late.operation in
    let is = free_height 0 names w (a0_at_0 ∷ []) (started_from_zero 0 names w) (height 0 10 0 4) (rises 0 10 0 4 (omega arith) (omega arith)) in
    let below : late.total ≤ height 0 10 0 4 o = walk_below (root_of problem (a0_at_0 ∷ [])) (height 0 10 0 4) is late.longest.reached.0 late.total o late.longest.reached.3 late.longest.reached.1 in
    in_time ((0 == o.train) && (0 == o.op)) (upper_of problem [] o) late.upper late.total (no_upper names w o.train o.op)
    (λ same. let low : height 0 10 0 4 o ≡ 0 = a0_height o.train o.op same in omega (arith, below, low)) late.upper_is late.late

alive : (names : List (List ℕ)) (w : IsWellFormed (two_trains 0) two_costs names) → IsDead (root_of (two 0 names w) (a0_at_0 ∷ [])) → ⊥
alive names w dead =
    elim dead [
      | inl none ↦ has_route 0 names w (a0_at_0 ∷ []) [] (open_started names w) none
      | inr more ↦ elim more [
        | inl cycle ↦ no_cycle (root_of (two 0 names w) (a0_at_0 ∷ [])) (λ o. o.op) (λ u v arc_length arc. own_ranks u v arc_length (free_arcs 0 names w (a0_at_0 ∷ []) u v arc_length arc)) cycle
        | inr late ↦ not_late names w late
      ]
    ]

-- ---- the entries

abbrev split : Split
split = record { node = 0; choice = Order a0 b0 }

useful : (names : List (List ℕ)) (w : IsWellFormed (two_trains 0) two_costs names) (budget : ℕ) → IsUseful (two 0 names w) (fixed_rule budget) asked 1 1 [] split
useful names w budget = record {
  alive = alive names w;
  picked = picks_order names w (a0_at_0 ∷ []) (started_from_zero 0 names w) (open_started names w);
  bound = 14;
  bound_is = free_bound 0 names w (a0_at_0 ∷ []) (started_from_zero 0 names w) (open_started names w);
  below = (None, refl, tt);
}

growth : (names : List (List ℕ)) (w : IsWellFormed (two_trains 0) two_costs names) (budget : ℕ) → 1 ≤ budget → IsLegalGrowth (two 0 names w) (fixed_rule budget) asked 1 1 0 (split ∷ [])
growth names w budget some = record {
  taken_before = omega arith;
  edition_then = refl;
  leaf_then = search rules;
  leaf_now = search rules;
  useful = ((0, omega arith, refl), ([], refl, useful names w budget), tt);
  within_budget = some;
}

abbrev grown : List Entry
grown = Asked 0 1 (Fix a0_at_0) (Accepted 1) ∷ Shown 0 2 (record { edition = 1; best = None; mark = mark.Working }) ∷ Grown 0 1 1 0 (split ∷ []) ∷ []

abbrev grown_and_published : List Entry
grown_and_published =
    Asked 0 1 (Fix a0_at_0) (Accepted 1) ∷ Shown 0 2 (record { edition = 1; best = None; mark = mark.Working }) ∷ Grown 0 1 1 0 (split ∷ []) ∷ Published 1 first_first 24 ∷ []

plan_valid : (problem : Problem) → HasTwoTrains 0 problem → IsValid problem (a0_at_0 ∷ []) first_first
plan_valid problem has = search rules

plan_then : (problem : Problem) → HasTwoTrains 0 problem → IsLegalPlan problem grown 1 first_first 24
plan_then problem has = record {
  working = record { newest_is = refl; working = refl };
  valid = plan_valid problem has;
  cost_is = search rules;
  better = (None, refl, tt);
}

verdict : (problem : Problem) → HasTwoTrains 0 problem → IsLegalVerdict problem grown_and_published 1 (Optimal 24) late_tree
verdict problem has = record {
  working = record { newest_is = refl; working = refl };
  accepted = late_accepted problem has;
  verdict_fits = omega arith;
  tree_fits = search rules;
  branches = (refl, tt);
  best = Some 24;
  best_is = inl (plan_valid problem has, refl);
  verdict_is = refl;
}

pub settled_is_legal : (problem : Problem) (budget : ℕ) → HasTwoTrains 0 problem → 1 ≤ budget → IsLegal problem (fixed_rule budget) (settled first_first 24)
settled_is_legal problem budget has some =
    let grew = of_made (λ p. IsLegalGrowth p (fixed_rule budget) asked 1 1 0 (split ∷ [])) (two_trains 0) two_costs (λ names w. growth names w budget some) problem has.trains has.components in
    legal problem budget (settled first_first 24)
    (a_start_is_accepted problem has, (record { edition = refl; best = refl; mark = refl }, (grew, (plan_then problem has, (verdict problem has, tt)))))

pub settled_with_18 : (problem : Problem) (budget : ℕ) → HasTwoTrains 0 problem → IsLegal problem (fixed_rule budget) (settled second_first 18) → ⊥
settled_with_18 problem budget has each =
    let entry : IsLegalPlan problem grown 1 second_first 18 = each 3 (Published 1 second_first 18) refl in
    not_valid_then problem entry.valid

abbrev is_working : Mark → Type 0
is_working mark.Working = Unit {0}
is_working (mark.Optimal cost) = ⊥
is_working mark.Infeasible = ⊥
is_working (mark.Stopped spent bound) = ⊥

pub not_again : (problem : Problem) (budget : ℕ) (tree : List TreeNode) → HasTwoTrains 0 problem → IsLegal problem (fixed_rule budget) (settled_again tree) → ⊥
not_again problem budget tree has each =
    let entry : IsLegalVerdict problem (settled first_first 24) 1 (Optimal 24) tree = each 5 (Settled 1 (Optimal 24) tree) refl in
    let marked : mark.Optimal 24 ≡ mark.Working = entry.working.working in
    subst is_working (sym marked) tt
