use Rattle.std.proofs.Common.{◌≡◌, sym, arith}
use Rattle.serde_json.specs.View.{view}
use Rattle.train_graphs.specs.Costs.{greatest_sum}
use Rattle.displib_reader.proofs.Whole.{all_inside, all_short, well_formed}
use Rattle.displib_reader.proofs.Trains.{few_trains, few_operations}
use Rattle.displib_reader.proofs.Components.{good_components}
use Rattle.displib_reader.proofs.problem.problem_of.Goals as goal

pub test_graphs-requires-clause-inside : goal.test_graphs-requires-clause-inside
test_graphs-requires-clause-inside c = rw c.as_slice.ensures (all_inside (view c.args.value.now) c.in_ok-test_links.ensures.ok c.in_ok-trains.trains c.in_ok-trains.ensures.trains.trains_are)

pub test_graphs-requires-clause-small : goal.test_graphs-requires-clause-small
test_graphs-requires-clause-small c = rw c.as_slice.ensures (all_short (view c.args.value.now) c.in_ok-test_links.ensures.ok c.in_ok-trains.trains c.in_ok-trains.ensures.trains.trains_are)

pub test_graphs-requires-clause-few : goal.test_graphs-requires-clause-few
test_graphs-requires-clause-few c = rw c.as_slice.ensures (few_trains (view c.args.value.now) c.in_ok-test_links.ensures.ok c.in_ok-trains.trains c.in_ok-trains.ensures.trains.trains_are)

pub greatest_sum-sum-requires-clause-fits : goal.greatest_sum-sum-requires-clause-fits
greatest_sum-sum-requires-clause-fits c = rw c.as_slice-2.ensures (few_operations (view c.args.value.now) c.in_ok-test_links.ensures.ok c.in_ok-trains.trains c.in_ok-trains.ensures.trains.trains_are)

pub greatest_sum-sum-requires-clause-few : goal.greatest_sum-sum-requires-clause-few
greatest_sum-sum-requires-clause-few c = rw c.as_slice-3.ensures (good_components (view c.args.value.now) c.in_ok-test_links.ensures.ok c.in_ok-components.components c.in_ok-components.ensures).few

pub returns-then-sum-from : goal.returns-then-sum-from
returns-then-sum-from c =
    let trains = c.in_ok-trains.trains in
    let components = c.in_ok-components.components in
    let sum : greatest_sum trains components ≡ c.greatest_sum-sum.result = sym (rw (c.as_slice-2.ensures, c.as_slice-3.ensures) at c.greatest_sum-sum.ensures) in
    record {
      trains = trains;
      components = components;
      has_trains = c.in_ok-trains.ensures.trains;
      graphs = rw c.as_slice.ensures at c.in_ok-test_graphs.ensures.ok;
      has_components = c.in_ok-components.ensures;
      sum_is = sum;
      above = omega arith;
    }

pub invariant_of-result : goal.invariant_of-result
invariant_of-result c =
    let trains = c.in_ok-trains.trains in
    let components = c.in_ok-components.components in
    let sum : greatest_sum trains components ≡ c.greatest_sum-sum.result = sym (rw (c.as_slice-2.ensures, c.as_slice-3.ensures) at c.greatest_sum-sum.ensures) in
    record {
      well_formed = well_formed (view c.args.value.now) trains components c.in_ok-trains.names
          (record {
            has_trains = c.in_ok-trains.ensures.trains;
            graphs = rw c.as_slice.ensures at c.in_ok-test_graphs.ensures.ok;
            has_components = c.in_ok-components.ensures;
            cheap = omega (arith, sum);
          })
          c.in_ok-trains.ensures.names;
    }
