use Rattle.std.proofs.lemmas.Bool.{false≢true}
use Rattle.disp_model.specs.Node.{node_at}
use Rattle.node_facts.proofs.Lengths.{late_is, not_late_end, not_late_walk}
use Rattle.node_facts.proofs.late.is_late.Goals as goal

pub returns-in_default : goal.returns-in_default
returns-in_default c =
    let node = node_at c.args.problem.now c.args.fixings.now c.args.decisions.now in
    (λ h. absurd (false≢true h), λ late. absurd (not_late_end node c.args.walk.now c.end_of.result c.end_of.ensures c.in_default.not-Some late))

pub returns-in-None : goal.returns-in-None
returns-in-None c =
    let node = node_at c.args.problem.now c.args.fixings.now c.args.decisions.now in
    (λ h. absurd (false≢true h), λ late. absurd (not_late_walk node c.args.walk.now c.walk_length.result c.walk_length.ensures c.in-None.is late))

pub returns-in-Some-walk_length : goal.returns-in-Some-walk_length
returns-in-Some-walk_length c =
    let node = node_at c.args.problem.now c.args.fixings.now c.args.decisions.now in
    late_is node c.args.walk.now c.end_of.result c.in-Some.end c.walk_length.result c.in-Some-walk_length.total c.upper_of.result c.is_above.result c.end_of.ensures c.in-Some.is c.walk_length.ensures c.in-Some-walk_length.is c.upper_of.ensures c.is_above.ensures
