use Rattle.std.proofs.Common.{◌≡◌, ◌∙◌, ◌+◌, ◌/◌, ◌<◌, length, set, sym, arith, length-set}
use Rattle.std.proofs.lemmas.List.{drop-set-add, drop-set-lt}
use Rattle.least_bounds.proofs.Climbing.{leaf_set, inner_set}
use Rattle.least_bounds.proofs.tournament.set.Goals as goal

pub loop-node-init : goal.loop-node-init
loop-node-init c =
    let nodes = c.args.nodes.now in
    let room = c.args.room in
    let place = c.args.place in
    let long = length-set nodes (room + place) c.args.bound in
    record {
      inner = leaf_set nodes (room + place) c.args.bound room (omega arith) c.requires.inside c.requires.tree;
      inside = omega (arith, c.requires.inside, c.requires.tree.ends);
      begins = omega (arith, long, c.requires.tree.begins);
      ends = omega (arith, long, c.requires.tree.ends);
      places = drop-set-add room nodes place c.args.bound;
    }

pub loop-node-preserved : goal.loop-node-preserved
loop-node-preserved c =
    let nodes = c.loop-node.nodes in
    let node = c.loop-node.node in
    let room = c.args.room in
    let known = c.loop-node.invariant in
    let long = length-set nodes node c.lesser_below.result in
    record {
      inner = inner_set nodes node c.lesser_below.result room known.inside known.begins (omega (arith, c.loop-node-test.true)) c.lesser_below.ensures known.inner;
      inside = omega (arith, known.inside);
      begins = omega (arith, long, known.begins);
      ends = omega (arith, long, known.ends);
      places = drop-set-lt room nodes node c.lesser_below.result known.inside ∙ known.places;
    }
