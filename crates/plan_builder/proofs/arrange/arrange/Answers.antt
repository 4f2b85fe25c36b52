use Rattle.std.proofs.Common.{◌<◌, length, ◌∙◌, arith}
use Rattle.std.specs.List.{remove}
use Rattle.std.proofs.lemmas.List.{take_at}
use Rattle.std.proofs.lemmas.List.Edits.{length-remove}
use Rattle.std.proofs.lemmas.List.Sorted.{All-permutation, IsPermutation-remove, IsPermutation-more, length_permutation}
use Rattle.plan_builder.proofs.Counting.{once_moved}
use Rattle.plan_builder.proofs.Leaving.{arranged_more}
use Rattle.plan_builder.proofs.arrange.arrange.Goals as goal

pub waiting_of-requires : goal.waiting_of-requires
waiting_of-requires c = record { nodes = rw (c.deref.ensures.value, c.size.ensures) (All-permutation (λ s. s.node < length c.args.paths.now.lowers) c.args.stops.items c.in_ok-rest.rest.items c.in_ok-rest.ensures.same c.requires.nodes) }

pub loop-init : goal.loop-init
loop-init c =
    let plan = c.in_ok-plan.ensures.items in
    record {
      left = record {
        nodes = All-permutation (λ s. s.node < length c.args.paths.now.lowers) c.args.stops.items c.in_ok-rest.rest.items c.in_ok-rest.ensures.same c.requires.nodes;
        once = once_moved c.args.stops.items c.in_ok-rest.rest.items c.in_ok-rest.ensures.same c.requires.once;
        falling = c.in_ok-rest.ensures.falling;
        size = c.in_ok-waiting.ensures.size ∙ c.size.ensures;
        waiting = rw (← c.deref.ensures.value) c.in_ok-waiting.ensures.marks;
      };
      same = rw plan c.in_ok-rest.ensures.same;
      count = omega (arith, length_permutation c.args.stops.items c.in_ok-rest.rest.items c.in_ok-rest.ensures.same, c.len-count.ensures);
      arranged = rw plan tt;
    }

pub loop-preserved : goal.loop-preserved
loop-preserved c =
    let loop = c.loop.invariant in
    let taken = c.take_first.ensures.taken in
    let rest = c.loop.rest.items in
    let moved = IsPermutation-remove rest taken.0 c.take_first.result taken.1 taken.2 in
    record {
      left = rw (take_at c.take_first.new.waiting _ c.loop.waiting.len (omega (arith, c.take_first.ensures.left.size, loop.left.size))) c.take_first.ensures.left;
      same = rw (c.in_ok-push.ensures.items, taken.3) (IsPermutation-more c.args.stops.items c.loop.plan.items rest taken.0 c.take_first.result taken.1 taken.2 loop.same);
      count = rw taken.3 (omega (arith, length-remove rest taken.0 taken.1, loop.count));
      arranged = rw (c.in_ok-push.ensures.items, taken.3) (arranged_more c.args.paths.now.arcs c.loop.plan.items rest (remove rest taken.0) c.take_first.result moved c.take_first.ensures.first loop.arranged);
    }
