use Rattle.std.proofs.Common.{List, Option, ℕ, subst}
use Rattle.std.specs.Prelude.{IsTrue, IsSome, ◌↔◌}
use Rattle.route_marks.specs.Marks.{sum_at}
use Rattle.node_facts.proofs.Knowing.{left_is}
use Rattle.node_facts.proofs.train.TrainKnowledge.is_left.Goals as goal

pub returns : goal.returns
returns c node t is =
    left_is node t c.args.self.now c.has_way.result is
    (subst (λ (l : List (Option ℕ)). IsTrue c.has_way.result ↔ IsSome (sum_at l c.args.self.now.entry)) c.deref.ensures.value c.has_way.ensures)
