-- An earliest time of the first operation of one train is accepted.
use Rattle.std.proofs.Common.{◌≡◌, zero, suc, ◌<◌, List, [], ◌∷◌, length, get_or, refl, subst, inr, arith}
use Rattle.std.proofs.lemmas.Option.{none-some, same_Some, slice_get-get_or}
use Rattle.disp_model.specs.declared.fixing.Fixing.TheVariants.{NotBefore}
use Rattle.disp_model.specs.declared.fixing.Change.{Change}
use Rattle.disp_model.specs.declared.fixing.Change.TheVariants.{Fix}
use Rattle.disp_model.specs.declared.reply.Reply.TheVariants.{Accepted}
use Rattle.disp_model.specs.declared.problem.Problem.{Problem}
use Rattle.disp_model.specs.Node.{node_at}
use Rattle.disp_model.specs.Replies.{IsReply, IsEdition}
use Rattle.disp_laws.proofs.HorizonBounds.{get_within}
use Rattle.event_graph.specs.Joined.{IsOfEdition}

-- an operation that is there may be fixed not to start before a time
abbrev later : List Change
later = Fix (NotBefore 0 0 7) ∷ []

accepted : (problem : Problem) → length problem.trains ≡ 1
    → IsReply problem [] (Fix (NotBefore 0 0 7)) (Accepted 1)
accepted problem one =
    let there : 0 < length problem.trains = omega (arith, one) in
    let train = slice_get-get_or problem.trains 0 [] there in
    let operation =
    get_within (get_or problem.trains 0 []) 0 (problem.well_formed.acyclic 0 [] there).entered in
    rw train (rw operation.1
    (inr (λ large. omega (arith, large), inr (λ full. omega (arith, full), refl))))

pub later_edition : (problem : Problem) → length problem.trains ≡ 1
    → IsOfEdition (node_at problem (NotBefore 0 0 7 ∷ []) [])
later_edition problem one = (later, each, refl)
  where
    each : IsEdition problem later
    each zero change at = subst (λ (c : Change). IsReply problem [] c (Accepted 1))
        (same_Some (Fix (NotBefore 0 0 7)) change at) (accepted problem one)
    each (suc i) change at = absurd (none-some change at)
