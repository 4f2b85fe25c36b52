use Rattle.std.proofs.Common.{◌≡◌, subst, get_or, length, None, arith, rules}
use Rattle.std.proofs.lemmas.Option.{slice_get-get_or}
use Rattle.train_graphs.specs.Graphs.{HasNoCycle}
use Rattle.train_graphs.proofs.Reached.{no_cycle_more}
use Rattle.train_graphs.proofs.faults.first_loop.Goals as goal

pub loop-t-preserved : goal.loop-t-preserved
loop-t-preserved c =
    let trains = c.args.trains.now in
    let train = c.index-trains-t.result in
    let none : c.in_ok-o.field-0 ≡ None = search rules in
    let clear : HasNoCycle c.as_slice.result.now = rw none at c.in_ok-o.ensures.none in
    no_cycle_more trains c.loop-t.t train c.loop-t-test.true c.index-trains-t.is (subst HasNoCycle c.as_slice.ensures clear) c.loop-t.invariant

pub returns-clause-none : goal.returns-clause-none
returns-clause-none c =
    let trains = c.args.trains.now in
    let all : c.loop-t.t ≡ length trains = omega arith in
    λ k d lt. c.loop-t.invariant k (get_or trains k d) (omega (arith, all)) (slice_get-get_or trains k d lt)
