-- The histories of the examples, judged.
use Rattle.std.proofs.Common.{◌≡◌, ℕ, ◌<◌, List, [], ◌∷◌, None, inr, take, refl, subst, rules, arith}
use Rattle.std.proofs.lemmas.Option.{same_Some}
use Rattle.definition_examples.specs.Histories.{fixed_rule}
use Rattle.disp_model.specs.declared.fixing.Change.TheVariants.{Fix}
use Rattle.disp_model.specs.declared.train.Component.{Component}
use Rattle.disp_model.specs.declared.problem.Problem.{Problem}
use Rattle.disp_model.specs.declared.entry.Entry.{Entry}
use Rattle.disp_model.specs.declared.entry.Entry.TheVariants.{Asked, Shown, Published, Stopped}
use Rattle.disp_model.specs.declared.entry.Mark.TheVariants as mark
use Rattle.disp_model.specs.declared.reply.Reply.TheVariants.{Accepted}
use Rattle.disp_model.specs.Cost.{cost_of}
use Rattle.disp_model.specs.Valid.{IsValid}
use Rattle.disp_model.specs.Legal.{IsLegal, IsLegalEntry, IsLegalPlan, IsLegalStop}
use Rattle.definition_examples.specs.Trains.{HasTwoTrains}
use Rattle.definition_examples.specs.Plans.{first_first, second_first}
use Rattle.definition_examples.specs.Histories.{asked, published, outdated, stopped, a0_at_0}
use Rattle.definition_examples.proofs.Pairs.{Places, at_each}
use Rattle.definition_examples.proofs.Answered.{a_start_is_accepted}

-- a history is legal where each of its entries is
pub legal : (problem : Problem) (budget : ℕ) (history : List Entry) → Places (λ i entry. IsLegalEntry problem (fixed_rule budget) (take i history) entry) 0 history → IsLegal problem (fixed_rule budget) history
legal problem budget history each i entry at = at_each (λ j other. IsLegalEntry problem (fixed_rule budget) (take j history) other) history each i entry at

pub asked_is_legal : (problem : Problem) (budget : ℕ) → HasTwoTrains 0 problem → IsLegal problem (fixed_rule budget) asked
asked_is_legal problem budget has = legal problem budget asked (a_start_is_accepted problem has, (search rules, tt))

first_first_valid : (problem : Problem) → HasTwoTrains 0 problem → IsValid problem (a0_at_0 ∷ []) first_first
first_first_valid problem has = search rules

first_first_legal : (problem : Problem) → HasTwoTrains 0 problem → IsLegalPlan problem asked 1 first_first 24
first_first_legal problem has = record {
  working = search rules;
  valid = first_first_valid problem has;
  cost_is = search rules;
  better = search rules;
}

pub published_is_legal : (problem : Problem) (budget : ℕ) → HasTwoTrains 0 problem → IsLegal problem (fixed_rule budget) (published first_first 24)
published_is_legal problem budget has = legal problem budget (published first_first 24) (a_start_is_accepted problem has, (search rules, (first_first_legal problem has, tt)))

second_first_legal : (problem : Problem) → HasTwoTrains 0 problem → IsLegalPlan problem [] 0 second_first 18
second_first_legal problem has = search rules

pub not_valid_then : (problem : Problem) → IsValid problem (a0_at_0 ∷ []) second_first → ⊥
not_valid_then problem valid =
    let time : 4 ≡ 0 = same_Some 4 0 (valid.met 0 a0_at_0 (omega arith)) in
    omega (arith, time)

outdated_shown : (problem : Problem) → IsLegalEntry problem (fixed_rule 0) (Published 0 second_first 18 ∷ Asked 0 1 (Fix a0_at_0) (Accepted 1) ∷ []) (Shown 0 2 (record { edition = 1; best = None; mark = mark.Working }))
outdated_shown problem = record { edition = refl; best = inr (not_valid_then problem, refl); mark = refl }

pub outdated_is_legal : (problem : Problem) (budget : ℕ) → HasTwoTrains 0 problem → IsLegal problem (fixed_rule budget) outdated
outdated_is_legal problem budget has = legal problem budget outdated (second_first_legal problem has, (a_start_is_accepted problem has, (outdated_shown problem, tt)))

pub not_met : (problem : Problem) (budget : ℕ) → HasTwoTrains 0 problem → IsLegal problem (fixed_rule budget) (published second_first 18) → ⊥
not_met problem budget has each =
    let entry : IsLegalPlan problem asked 1 second_first 18 = each 2 (Published 1 second_first 18) refl in
    not_valid_then problem entry.valid

pub other_cost : (problem : Problem) (budget : ℕ) → HasTwoTrains 0 problem → IsLegal problem (fixed_rule budget) (published first_first 23) → ⊥
other_cost problem budget has each =
    let entry : IsLegalPlan problem asked 1 first_first 23 = each 2 (Published 1 first_first 23) refl in
    let cost : 24 ≡ 23 = subst (λ (cs : List Component). cost_of cs first_first ≡ 23) has.components entry.cost_is in
    omega (arith, cost)

pub unspent : (problem : Problem) (budget bound : ℕ) → HasTwoTrains 0 problem → 0 < budget → IsLegal problem (fixed_rule budget) (stopped 0 bound) → ⊥
unspent problem budget bound has some each =
    let entry : IsLegalStop problem (fixed_rule budget) [] 0 0 bound = each 0 (Stopped 0 0 bound) refl in
    let all : 0 ≡ budget = entry.budget_is in
    omega arith

pub invented : (problem : Problem) (budget bound : ℕ) → HasTwoTrains 0 problem → 0 < budget → IsLegal problem (fixed_rule budget) (stopped budget bound) → ⊥
invented problem budget bound has some each =
    let entry : IsLegalStop problem (fixed_rule budget) [] 0 budget bound = each 0 (Stopped 0 budget bound) refl in
    let none : budget ≡ 0 = entry.spent_is in
    omega arith
