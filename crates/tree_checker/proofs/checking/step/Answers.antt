use Rattle.std.proofs.Common.{◌∙◌}
use Rattle.tree_checker.proofs.Descending.{none_of, stepped}
use Rattle.tree_checker.proofs.checking.step.Goals as goal

pub returns-clause-steps : goal.returns-clause-steps
returns-clause-steps c =
    let holds = none_of _ c.in_ok-why.field-0 c.in_default-2.not-Some c.in_ok-why.ensures in
    stepped c.args.claim.problem.now c.args.claim.fixings.now c.args.claim.verdict c.args.top.now c.args.path.now c.descend.new.path c.args.places.now.items _ c.open.new.places.items c.in-Some.place c.len.result c.deref.result.now c.requires.nested c.in-Some.ensures.items
    c.in_ok-descend.ensures.path holds (c.deref.ensures.value ∙ c.in_ok-below.ensures) c.len.ensures c.in_ok-open.ensures
