use Rattle.std.proofs.Common.{List, Option, ℕ, refl, ap, ◌∙◌}
use Rattle.std.proofs.lemmas.Bool.{false≢true}
use Rattle.route_marks.specs.Marks.{sum_at}
use Rattle.node_facts.proofs.Holding.{holder_is, no_holder}
use Rattle.node_facts.proofs.train.TrainKnowledge.holder.Goals as goal

pub returns-then-is_left : goal.returns-then-is_left
returns-then-is_left c node t is =
    holder_is node t c.args.op c.args.self.now c.holder_at.result is ((c.if-is_left.ensures node t is).0 refl) (c.holder_at.ensures ∙ ap (λ (l : List (Option ℕ)). sum_at l c.args.op) c.deref.ensures.value)

pub returns-else-is_left : goal.returns-else-is_left
returns-else-is_left c node t is = no_holder node t c.args.op (λ left. false≢true ((c.if-is_left.ensures node t is).1 left))
