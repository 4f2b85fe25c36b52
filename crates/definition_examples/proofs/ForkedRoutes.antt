-- The two routes of the forked train, and what is left of them.
use Rattle.std.proofs.Common.{◌≡◌, ◌⊎◌, inl, inr, ℕ, zero, suc, ◌<◌, ◌≤◌, List, [], ◌∷◌, Some, refl, subst, ap, ◌∙◌, arith, rules}
use Rattle.std.specs.Prelude.{All, Contains, sum_by}
use Rattle.std.proofs.lemmas.Option.{same_Some}
use Rattle.disp_model.specs.declared.fixing.Change.TheVariants.{Fix}
use Rattle.disp_model.specs.Node.{root_of, node_at}
use Rattle.disp_model.specs.declared.fixing.Fixing.TheVariants.{Chosen, Started}
use Rattle.disp_model.specs.declared.decision.Decision.{Decision}
use Rattle.disp_model.specs.declared.decision.Decision.TheVariants.{Go, Run, Skip}
use Rattle.disp_model.specs.declared.decision.Choice.TheVariants.{Run as RunIt}
use Rattle.disp_model.specs.declared.problem.Problem.{Problem}
use Rattle.disp_model.specs.declared.reply.Refusal.TheVariants.{NoRoute}
use Rattle.disp_model.specs.declared.reply.Reply.TheVariants.{Refused}
use Rattle.disp_model.specs.WellFormed.{IsWellFormed}
use Rattle.disp_model.specs.Train.{GoesOn, IsRoute, IsSuccessor, duration_of}
use Rattle.disp_model.specs.Fixing.{after}
use Rattle.disp_model.specs.Routes.{IsAllowed, IsForced, HasOneRoute, HasRoute, AgreesWithDecision}
use Rattle.disp_model.specs.Choices.{IsOpen}
use Rattle.disp_model.specs.Arcs.{IsTrainArc, Passes}
use Rattle.disp_model.specs.Replies.{IsReply}
use Rattle.definition_examples.specs.Trains.{HasForkedTrain, forked, op_named}
use Rattle.definition_examples.proofs.Made.{made, of_made}
use Rattle.definition_examples.proofs.Contained.{in_one, in_two, parted}

abbrev pub by_1 : List ℕ
by_1 = 0 ∷ 1 ∷ 3 ∷ []

abbrev pub by_2 : List ℕ
by_2 = 0 ∷ 2 ∷ 3 ∷ []

pub by_1_there : IsRoute forked by_1
by_1_there = search rules

pub by_2_there : IsRoute forked by_2
by_2_there = search rules

from_3 : (rest : List ℕ) → GoesOn forked 3 rest → rest ≡ []
from_3 [] h = refl
from_3 (s ∷ rest) h = absurd (let lt : h.0.0 < 0 = h.0.1 in omega (arith, lt))

-- an operation with 3 alone behind it goes on to it
on_to_3 : (o : ℕ) (rest : List ℕ) → ((s : ℕ) → IsSuccessor forked o s → s ≡ 3) → (GoesOn forked o [] → ⊥) → GoesOn forked o rest → rest ≡ 3 ∷ []
on_to_3 o [] only more h = absurd (more h)
on_to_3 o (s ∷ rest) only more h =
    let same : s ≡ 3 = only s h.0 in
    let nil : rest ≡ [] = from_3 rest (subst (λ x. GoesOn forked x rest) same h.1) in
    rw same (rw nil refl)

on_from_1 : (rest : List ℕ) → GoesOn forked 1 rest → rest ≡ 3 ∷ []
on_from_1 rest h = on_to_3 1 rest (in_one 3) (λ x. grind (arith, x.last)) h

on_from_2 : (rest : List ℕ) → GoesOn forked 2 rest → rest ≡ 3 ∷ []
on_from_2 rest h = on_to_3 2 rest (in_one 3) (λ x. grind (arith, x.last)) h

on_from_0 : (rest : List ℕ) → GoesOn forked 0 rest → (rest ≡ 1 ∷ 3 ∷ []) ⊎ (rest ≡ 2 ∷ 3 ∷ [])
on_from_0 [] h = absurd (grind (arith, h.last))
on_from_0 (s ∷ rest) h =
    elim (in_two 1 2 s h.0) [
      | inl same ↦ inl (rw same (ap (λ (xs : List ℕ). 1 ∷ xs) (on_from_1 rest (subst (λ x. GoesOn forked x rest) same h.1))))
      | inr same ↦ inr (rw same (ap (λ (xs : List ℕ). 2 ∷ xs) (on_from_2 rest (subst (λ x. GoesOn forked x rest) same h.1))))
    ]

pub two_routes : (route : List ℕ) → IsRoute forked route → (route ≡ by_1) ⊎ (route ≡ by_2)
two_routes [] h = absurd h
two_routes (zero ∷ rest) h =
    elim (on_from_0 rest h.1) [
      | inl same ↦ inl (ap (λ (xs : List ℕ). 0 ∷ xs) same)
      | inr same ↦ inr (ap (λ (xs : List ℕ). 0 ∷ xs) same)
    ]
two_routes (suc zero ∷ rest) h = absurd (h.0.first 0 (0, omega arith, refl))
two_routes (suc (suc zero) ∷ rest) h = absurd (h.0.first 0 (1, omega arith, refl))
two_routes (suc (suc (suc zero)) ∷ rest) h = absurd (h.0.first 1 (0, omega arith, refl))
two_routes (suc (suc (suc (suc o))) ∷ rest) h = absurd (let t : suc (suc (suc (suc o))) < 4 = h.0.there in omega arith)

-- ---- what is left

pub none_behind_1 : Contains by_2 1 → ⊥
none_behind_1 (zero, lt, at) = omega (arith, at)
none_behind_1 (suc zero, lt, at) = omega (arith, at)
none_behind_1 (suc (suc zero), lt, at) = omega (arith, at)
none_behind_1 (suc (suc (suc k)), lt, at) = omega (arith, lt)

-- a route on which 1 follows 0, and one on which 2 does
with_1 : (route : List ℕ) → IsRoute forked route → after 0 route ≡ Some 1 → route ≡ by_1
with_1 route h next =
    elim (two_routes route h) [
      | inl same ↦ same
      | inr same ↦ absurd (let two : 2 ≡ 1 = same_Some 2 1 (subst (λ r. after 0 r ≡ Some 1) same next) in omega (arith, two))
    ]

with_2 : (route : List ℕ) → IsRoute forked route → after 0 route ≡ Some 2 → route ≡ by_2
with_2 route h next =
    elim (two_routes route h) [
      | inl same ↦ absurd (let one : 1 ≡ 2 = same_Some 1 2 (subst (λ r. after 0 r ≡ Some 2) same next) in omega (arith, one))
      | inr same ↦ same
    ]

sum_by_1 : (total : ℕ) → Passes forked by_1 0 3 total → total ≡ 5
sum_by_1 total p =
    let middle : p.between ≡ 1 ∷ [] = parted 0 1 3 p.before p.between p.behind (λ e. omega (arith, e)) (λ e. omega (arith, e)) (λ e. omega (arith, e)) p.route_is in
    p.total_is ∙ ap (λ (xs : List ℕ). sum_by (duration_of forked) (0 ∷ xs)) middle

sum_by_2 : (total : ℕ) → Passes forked by_2 0 3 total → total ≡ 3
sum_by_2 total p =
    let middle : p.between ≡ 2 ∷ [] = parted 0 2 3 p.before p.between p.behind (λ e. omega (arith, e)) (λ e. omega (arith, e)) (λ e. omega (arith, e)) p.route_is in
    p.total_is ∙ ap (λ (xs : List ℕ). sum_by (duration_of forked) (0 ∷ xs)) middle

at_least_3 : (route : List ℕ) (total : ℕ) → IsRoute forked route → Passes forked route 0 3 total → 3 ≤ total
at_least_3 route total h p =
    elim (two_routes route h) [
      | inl same ↦ let five : total ≡ 5 = sum_by_1 total (subst (λ r. Passes forked r 0 3 total) same p) in omega (arith, five)
      | inr same ↦ let three : total ≡ 3 = sum_by_2 total (subst (λ r. Passes forked r 0 3 total) same p) in omega (arith, three)
    ]

-- ---- on a problem

abbrev going_by_1 : List Decision
going_by_1 = Go (op_named 0 0) 1 ∷ []

from_0 : (route : List ℕ) → IsRoute forked route → Contains route 0
from_0 route h =
    elim (two_routes route h) [
      | inl same ↦ rw same (0, omega arith, refl)
      | inr same ↦ rw same (0, omega arith, refl)
    ]

free_by_1 : (names : List (List ℕ)) (w : IsWellFormed (forked ∷ []) [] names) → IsAllowed (root_of (made (forked ∷ []) [] names w) []) 0 by_1
free_by_1 names w = record { is_route = by_1_there; fixings_agree = search rules; decisions_agree = search rules }

free_by_2 : (names : List (List ℕ)) (w : IsWellFormed (forked ∷ []) [] names) → IsAllowed (root_of (made (forked ∷ []) [] names w) []) 0 by_2
free_by_2 names w = record { is_route = by_2_there; fixings_agree = search rules; decisions_agree = search rules }

decided_by_1 : (names : List (List ℕ)) (w : IsWellFormed (forked ∷ []) [] names) → IsAllowed (node_at (made (forked ∷ []) [] names w) [] going_by_1) 0 by_1
decided_by_1 names w = record { is_route = by_1_there; fixings_agree = search rules; decisions_agree = search rules }

chosen_by_2 : (names : List (List ℕ)) (w : IsWellFormed (forked ∷ []) [] names) → IsAllowed (root_of (made (forked ∷ []) [] names w) (Chosen 0 0 2 ∷ [])) 0 by_2
chosen_by_2 names w = record { is_route = by_2_there; fixings_agree = search rules; decisions_agree = search rules }

pub not_forced : (problem : Problem) → HasForkedTrain problem → IsForced (root_of problem []) (op_named 0 1) → ⊥
not_forced problem has =
    of_made (λ p. IsForced (root_of p []) (op_named 0 1) → ⊥) (forked ∷ []) []
    (λ names w forced. none_behind_1 (forced.each_has by_2 (free_by_2 names w))) problem has.trains has.components

pub least_3 : (problem : Problem) → HasForkedTrain problem → IsTrainArc (root_of problem []) (op_named 0 0) (op_named 0 3) 3
least_3 problem has =
    of_made (λ p. IsTrainArc (root_of p []) (op_named 0 0) (op_named 0 3) 3) (forked ∷ []) []
    (λ names w. record {
      same_train = refl;
      reached = (by_2, free_by_2 names w, record { before = []; between = 2 ∷ []; behind = []; route_is = refl; total_is = refl });
      least = λ route total allowed passes. at_least_3 route total allowed.is_route passes;
    })
    problem has.trains has.components

only_by_1 : (names : List (List ℕ)) (w : IsWellFormed (forked ∷ []) [] names) (route : List ℕ) → IsAllowed (node_at (made (forked ∷ []) [] names w) [] going_by_1) 0 route → route ≡ by_1
only_by_1 names w route allowed =
    with_1 route allowed.is_route (allowed.decisions_agree 0 (Go (op_named 0 0) 1) (omega arith) refl (from_0 route allowed.is_route))

has_1 : (route : List ℕ) → route ≡ by_1 → Contains route 1
has_1 route same = rw same (1, omega arith, refl)

pub forced : (problem : Problem) → HasForkedTrain problem → IsForced (node_at problem [] going_by_1) (op_named 0 1)
forced problem has =
    of_made (λ p. IsForced (node_at p [] going_by_1) (op_named 0 1)) (forked ∷ []) []
    (λ names w. record {
      train = omega arith;
      allowed = (by_1, decided_by_1 names w);
      each_has = λ route allowed. has_1 route (only_by_1 names w route allowed);
    })
    problem has.trains has.components

at_least_5 : (route : List ℕ) (total : ℕ) → route ≡ by_1 → Passes forked route 0 3 total → 5 ≤ total
at_least_5 route total same p = let five : total ≡ 5 = sum_by_1 total (subst (λ r. Passes forked r 0 3 total) same p) in omega (arith, five)

pub least_5 : (problem : Problem) → HasForkedTrain problem → IsTrainArc (node_at problem [] going_by_1) (op_named 0 0) (op_named 0 3) 5
least_5 problem has =
    of_made (λ p. IsTrainArc (node_at p [] going_by_1) (op_named 0 0) (op_named 0 3) 5) (forked ∷ []) []
    (λ names w. record {
      same_train = refl;
      reached = (by_1, decided_by_1 names w, record { before = []; between = 1 ∷ []; behind = []; route_is = refl; total_is = refl });
      least = λ route total allowed passes. at_least_5 route total (only_by_1 names w route allowed) passes;
    })
    problem has.trains has.components

pub one_route : (problem : Problem) → HasForkedTrain problem → HasOneRoute (root_of problem (Chosen 0 0 2 ∷ [])) 0 by_2
one_route problem has =
    of_made (λ p. HasOneRoute (root_of p (Chosen 0 0 2 ∷ [])) 0 by_2) (forked ∷ []) []
    (λ names w. record {
      allowed = chosen_by_2 names w;
      alone = λ other allowed. with_2 other allowed.is_route (allowed.fixings_agree 0 (Chosen 0 0 2) (omega arith) refl);
    })
    problem has.trains has.components

none_left : (names : List (List ℕ)) (w : IsWellFormed (forked ∷ []) [] names) → HasRoute (root_of (made (forked ∷ []) [] names w) (Chosen 0 0 2 ∷ Started 0 1 4 ∷ [])) 0 → ⊥
none_left names w (route, allowed) =
    let same : route ≡ by_2 = with_2 route allowed.is_route (allowed.fixings_agree 0 (Chosen 0 0 2) (omega arith) refl) in
    none_behind_1 (subst (λ r. Contains r 1) same (allowed.fixings_agree 1 (Started 0 1 4) (omega arith) refl))

pub no_route : (problem : Problem) → HasForkedTrain problem → IsReply problem (Fix (Chosen 0 0 2) ∷ []) (Fix (Started 0 1 4)) (Refused NoRoute)
no_route problem has =
    of_made (λ p. IsReply p (Fix (Chosen 0 0 2) ∷ []) (Fix (Started 0 1 4)) (Refused NoRoute)) (forked ∷ []) []
    (λ names w. inr ((λ less. omega arith), inr ((λ less. omega arith), inr ((λ less. omega arith), inl (none_left names w, refl))))) problem has.trains has.components

-- ---- run or skip

pub run_is_forced : (problem : Problem) → HasForkedTrain problem → IsForced (node_at problem [] (Run (op_named 0 1) ∷ [])) (op_named 0 1)
run_is_forced problem has =
    of_made (λ p. IsForced (node_at p [] (Run (op_named 0 1) ∷ [])) (op_named 0 1)) (forked ∷ []) []
    (λ names w. record {
      train = omega arith;
      allowed = (by_1, record { is_route = by_1_there; fixings_agree = search rules; decisions_agree = all_of_one (λ same. (1, omega arith, refl)) });
      each_has = λ route allowed. allowed.decisions_agree 0 (Run (op_named 0 1)) (omega arith) refl;
    })
    problem has.trains has.components
  where
    all_of_one : AgreesWithDecision 0 by_1 (Run (op_named 0 1)) → All (AgreesWithDecision 0 by_1) (Run (op_named 0 1) ∷ [])
    all_of_one here zero d lt = here
    all_of_one here (suc k) d lt = absurd (omega (arith, lt))

pub skipped_is_not_allowed : (problem : Problem) → HasForkedTrain problem → IsAllowed (node_at problem [] (Skip (op_named 0 1) ∷ [])) 0 by_1 → ⊥
skipped_is_not_allowed problem has allowed = allowed.decisions_agree 0 (Skip (op_named 0 1)) (omega arith) refl (1, omega arith, refl)

pub run_is_open : (problem : Problem) → HasForkedTrain problem → IsOpen (root_of problem []) (RunIt (op_named 0 1))
run_is_open problem has =
    of_made (λ p. IsOpen (root_of p []) (RunIt (op_named 0 1))) (forked ∷ []) []
    (λ names w. record { one = by_1; other = by_2; one_allowed = free_by_1 names w; other_allowed = free_by_2 names w; has = (1, omega arith, refl); has_not = none_behind_1 }) problem has.trains has.components
