-- The first start of the first of the two trains is accepted.
use Rattle.std.proofs.Common.{ℕ, List, [], ◌∷◌, inr, refl, rules, arith}
use Rattle.disp_model.specs.declared.fixing.Change.TheVariants.{Fix}
use Rattle.disp_model.specs.Node.{root_of}
use Rattle.disp_model.specs.declared.fixing.Fixing.TheVariants.{Started}
use Rattle.disp_model.specs.declared.problem.Problem.{Problem}
use Rattle.disp_model.specs.declared.reply.Reply.TheVariants.{Accepted}
use Rattle.disp_model.specs.WellFormed.{IsWellFormed}
use Rattle.disp_model.specs.Replies.{IsReply}
use Rattle.disp_model.specs.Routes.{IsAllowed}
use Rattle.definition_examples.specs.Trains.{HasTwoTrains, two_trains, two_costs, listing}
use Rattle.definition_examples.proofs.Made.{made, of_made}
use Rattle.definition_examples.proofs.Holding.{route_there}

started_allowed : (names : List (List ℕ)) (w : IsWellFormed (two_trains 0) two_costs names) → IsAllowed (root_of (made (two_trains 0) two_costs names w) (Started 0 0 0 ∷ [])) 0 (0 ∷ 1 ∷ [])
started_allowed names w = record {
  is_route = route_there 10 (listing 0 0 ∷ []) 0 [];
  fixings_agree = search rules;
  decisions_agree = search rules;
}

accepted_made : (names : List (List ℕ)) (w : IsWellFormed (two_trains 0) two_costs names) → IsReply (made (two_trains 0) two_costs names w) [] (Fix (Started 0 0 0)) (Accepted 1)
accepted_made names w =
    inr ((λ less. omega arith), inr ((λ less. omega arith), inr ((λ less. omega arith), inr ((λ none. none (0 ∷ 1 ∷ [], started_allowed names w)), inr ((λ same. omega arith), refl)))))

pub a_start_is_accepted : (problem : Problem) → HasTwoTrains 0 problem → IsReply problem [] (Fix (Started 0 0 0)) (Accepted 1)
a_start_is_accepted problem has = of_made (λ p. IsReply p [] (Fix (Started 0 0 0)) (Accepted 1)) (two_trains 0) two_costs accepted_made problem has.trains has.components
