use Rattle.std.proofs.Common.{◌∙◌, refl, sym, arith, inl, inr}
use Rattle.disp_model.specs.Nodes.{component_op}
use Rattle.cost_bound.proofs.Summing.{fits_more}
use Rattle.cost_bound.proofs.Bounding.{bound_same, bound_more}
use Rattle.cost_bound.proofs.walks.add.Goals as goal

pub arrival_of-requires-clause-fits : goal.arrival_of-requires-clause-fits
arrival_of-requires-clause-fits c = omega (arith, fits_more c.args.graph.now.problem c.args.place c.args.component.now c.requires.there)

pub returns-in_default : goal.returns-in_default
returns-in_default c = bound_same c.args.graph.now c.args.place c.args.component.now c.args.bound.now c.requires.there c.requires.before (inr (rw c.in_default.is at c.arrival_of.ensures, refl))

pub returns-then-arrival-eq0 : goal.returns-then-arrival-eq0
returns-then-arrival-eq0 c =
    let arrives = c.in-Some.ensures in
    bound_same c.args.graph.now c.args.place c.args.component.now c.args.bound.now c.requires.there c.requires.before (inl (arrives.total, arrives.forced, arrives.longest, sym c.if-arrival-eq0.true ∙ arrives.cost_is))

pub overflow_add-bound : goal.overflow_add-bound
overflow_add-bound c = omega (arith, fits_more c.args.graph.now.problem c.args.place c.args.component.now c.requires.there, c.requires.before.most, c.in-Some.ensures.most)

pub returns : goal.returns
returns c =
    let node = c.args.graph.now in
    let arrives = c.in-Some.ensures in
    bound_more node c.args.place c.args.component.now c.args.bound.now c.in-Some.arrival _ c.push.new.self c.requires.there c.requires.before arrives c.if-arrival-eq0.false refl
    (c.in_ok-walk.ensures.walk (component_op c.args.component.now) arrives.forced arrives.number_is) c.in_ok-walk.ensures.short c.in_ok-push.ensures.ok
