use Rattle.std.proofs.Common.{◌≡◌, ◌∙◌, refl, sym, ap, inl, inr}
use Rattle.std.proofs.lemmas.Option.{none-some}
use Rattle.disp_model.specs.declared.train.Op.{Op}
use Rattle.disp_model.specs.declared.problem.Problem.{Problem}
use Rattle.disp_model.specs.Arcs.{min_of, GoesTo}
use Rattle.disp_laws.proofs.OpenChoices.{goes_to_forced}
use Rattle.route_sets.specs.Sets.{op_of_train}
use Rattle.first_overlaps.proofs.span.end_of.Goals as goal

pub start_of-requires : goal.start_of-requires
start_of-requires c =
    let node = c.args.graph.now in
    let says = (c.only_next.ensures node c.args.op.train c.routes.ensures.routes c.in-Some.next).0 c.in-Some.is in
    goes_to_forced node c.args.op (op_of_train c.args.op.train c.in-Some.next) says.0 says.1

pub returns-in-Some-clause-end : goal.returns-in-Some-clause-end
returns-in-Some-clause-end c =
    let node = c.args.graph.now in
    let says = (c.only_next.ensures node c.args.op.train c.routes.ensures.routes c.in-Some.next).0 c.in-Some.is in
    inl (op_of_train c.args.op.train c.in-Some.next, says.1, c.start_of.ensures.longest)

pub returns-in-None-clause-end : goal.returns-in-None-clause-end
returns-in-None-clause-end c =
    let node = c.args.graph.now in
    let none : (n : Op) → GoesTo node c.args.op n → ⊥ = λ n goes.
    none-some n.op (sym c.in-None.is ∙ (c.only_next.ensures node c.args.op.train c.routes.ensures.routes n.op).1 (c.requires.forced, (refl, goes.1))) in
    let min : c.min_of.result ≡ min_of node.problem c.args.op = c.min_of.ensures ∙ ap (λ (p : Problem). min_of p c.args.op) (sym c.requires.problem) in
    rw (c.from.ensures, min) (inr (none, (c.args.start, c.requires.start, refl)))
