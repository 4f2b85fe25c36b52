use Rattle.std.proofs.Common.{ap, true, false, refl, ◌∙◌, Bool, List}
use Rattle.std.specs.Prelude.{slice_index_or}
use Rattle.node_facts.proofs.Knowing.{forced_when}
use Rattle.node_facts.proofs.train.TrainKnowledge.is_forced.Goals as goal

pub returns-then-is_left : goal.returns-then-is_left
returns-then-is_left c node t is =
    forced_when node t c.args.op c.args.self.now c.is_left.result true c.is_marked.result is (c.is_left.ensures node t is) c.if-is_left.true
    (c.is_marked.ensures ∙ ap (λ (l : List Bool). slice_index_or l c.args.op false) c.deref.ensures.value)

pub returns-else-is_left : goal.returns-else-is_left
returns-else-is_left c node t is = rw c.if-is_left.false (forced_when node t c.args.op c.args.self.now c.is_left.result false _ is (c.is_left.ensures node t is) c.if-is_left.false refl)
