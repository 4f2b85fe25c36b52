use Rattle.std.proofs.Common.{◌≡◌, ℕ, subst, arith, length}
use Rattle.disp_model.specs.Node.{node_at}
use Rattle.event_arcs.specs.Chained.{AddsChains}
use Rattle.event_arcs.proofs.Joining.{chains_more}
use Rattle.event_arcs.proofs.Offsets.{placed_at}
use Rattle.event_arcs.proofs.chains.add_chains.Goals as goal

pub add_chain-requires-clause-there : goal.add_chain-requires-clause-there
add_chain-requires-clause-there c = omega (arith, c.loop-train-test.true, c.requires.2.long)

pub add_chain-requires-clause-placed : goal.add_chain-requires-clause-placed
add_chain-requires-clause-placed c =
    let are = c.requires.2 in
    (c.requires.0, c.requires.1, placed_at _ c.args.each.now c.loop-train.train c.index-each-train.result are c.loop-train-test.true c.index-each-train.is)

pub loop-train-preserved : goal.loop-train-preserved
loop-train-preserved c = record {
  within = omega (arith, c.loop-train-test.true);
  adds = λ fixings decisions are.
      let node = node_at c.args.problem.now fixings decisions in
      let t = c.loop-train.train in
      let placed = placed_at node c.args.each.now t c.index-each-train.result are c.loop-train-test.true c.index-each-train.is in
      chains_more node t c.args.arcs.now.items c.loop-train.arcs.items c.add_chain.new.arcs.items (c.loop-train.invariant.adds fixings decisions are) (c.in_ok-add_chain.ensures fixings decisions placed);
}

pub returns : goal.returns
returns c = λ fixings decisions are.
    let all : c.loop-train.train ≡ length c.args.each.now = omega (arith, c.loop-train-test.false, c.loop-train.invariant.within) in
    subst (λ (n : ℕ). AddsChains (node_at c.args.problem.now fixings decisions) n c.args.arcs.now.items c.loop-train.arcs.items) all (c.loop-train.invariant.adds fixings decisions are)
