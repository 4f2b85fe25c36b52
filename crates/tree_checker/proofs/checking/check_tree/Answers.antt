use Rattle.std.proofs.Common.{Option, sym, subst, arith}
use Rattle.std.specs.Vec.{vec_len}
use Rattle.std.proofs.lemmas.Bool.{eqb-false, eqb-true}
use Rattle.std.proofs.lemmas.List.{nil_from_length}
use Rattle.tree_checker.specs.declared.why.Why.{Why}
use Rattle.tree_checker.specs.Places.{IsStep}
use Rattle.tree_checker.proofs.Descending.{accepted, none_of, step_left, refused_here, refused_at_end}
use Rattle.tree_checker.proofs.checking.check_tree.Goals as goal

pub returns-in-Some : goal.returns-in-Some
returns-in-Some c =
    let problem = c.args.problem.now in
    let fixings = c.args.fixings.now in
    let stops = subst (λ (found : Option Why). IsStep problem fixings c.args.verdict c.index-tree-node.result c.loop-node.path c.unpacked_step.new.path c.loop-node.places.items c.unpacked_step.new.places.items found) c.in-Some.is c.in_ok-why.ensures.steps in
    refused_here problem fixings c.args.verdict c.args.tree.now c.loop-node.node c.index-tree-node.result c.loop-node.path c.loop-node.places.items c.in-Some.why c.loop-node-test.true c.index-tree-node.is c.loop-node.invariant.0 stops

pub loop-node-preserved : goal.loop-node-preserved
loop-node-preserved c = (
  step_left c.args.problem.now c.args.fixings.now c.args.verdict c.args.tree.now c.loop-node.node c.index-tree-node.result c.loop-node.path c.unpacked_step.new.path c.loop-node.places.items c.unpacked_step.new.places.items c.loop-node-test.true c.index-tree-node.is
      c.loop-node.invariant.0 (none_of _ c.in_ok-why.field-0 c.in_default.not-Some c.in_ok-why.ensures.steps),
  c.in_ok-why.ensures.known,
)

pub returns : goal.returns
returns c =
    refused_at_end c.args.problem.now c.args.fixings.now c.args.verdict c.args.tree.now c.loop-node.node c.loop-node.path c.loop-node.places.items c.loop-node-test.false c.loop-node.auto.node-end (λ none. eqb-false (vec_len c.loop-node.places) 0 (sym c.if-is_empty.ensures) (omega (arith, none, c.loop-node.places.ok))) c.loop-node.invariant.0

pub returns-then-is_empty : goal.returns-then-is_empty
returns-then-is_empty c =
    let none = nil_from_length c.loop-node.places.items (let few = eqb-true (vec_len c.loop-node.places) 0 (sym c.if-is_empty.ensures) in omega (arith, few, c.loop-node.places.ok)) in
    accepted c.args.problem.now c.args.fixings.now c.args.verdict c.args.tree.now c.loop-node.node c.loop-node.path c.loop-node.places.items c.loop-node-test.false none c.loop-node.invariant.0
