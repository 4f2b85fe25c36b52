use Rattle.std.proofs.Common.{◌∙◌, sym, arith, below_more}
use Rattle.std.proofs.lemmas.Bool.{false≢true}
use Rattle.train_graphs.specs.Graphs.{IsOnCycle}
use Rattle.train_graphs.proofs.Reached.{none_below}
use Rattle.train_graphs.proofs.cycle.first_by_search.Goals as goal

pub loop-o-preserved : goal.loop-o-preserved
loop-o-preserved c = below_more (λ p. IsOnCycle c.args.train.now p → ⊥) c.loop-o.o c.loop-o.invariant (λ way. false≢true (sym c.if-branch.false ∙ c.in_ok-is_on_cycle.ensures.1 way))

pub returns-clause-none : goal.returns-clause-none
returns-clause-none c = none_below c.args.train.now (λ p lt. c.loop-o.invariant p (omega arith))
