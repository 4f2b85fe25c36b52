use Rattle.std.proofs.Common.{◌≢◌, ◌+◌, ◌<◌, ◌-◌, get_or, ap, subst, arith}
use Rattle.std.proofs.lemmas.List.{get_or_default}
use Rattle.incremental_paths.specs.declared.arc.Arc.{Arc}
use Rattle.incremental_paths.specs.Threaded.{Threaded}
use Rattle.incremental_paths.proofs.Threading.{at_last, at_next, none_first, ends_next, in_arcs}
use Rattle.incremental_paths.proofs.Pairs.{contains_at}
use Rattle.incremental_paths.proofs.Tracing.{arc_bound, own_lower}
use Rattle.incremental_paths.proofs.back.giver.Goals as goal

-- an element that no arc is
abbrev none : Arc
none = record { from = 0; to = 0; length = 0 }

pub loop-front-init : goal.loop-front-init
loop-front-init c =
    let keys = ap (λ (t : Threaded). t.keys) c.requires.ended in
    record {
      at = at_last c.args.ended.now.keys c.args.node c.last-front.result c.last-front.ensures;
      none = λ k d le lt e. absurd (none_first (λ (a : Arc). a.to) c.args.arcs.now c.args.ended.now.keys keys c.args.node c.last-front.result c.last-front.ensures k d le lt e);
    }

pub overflow_add-lengths : goal.overflow_add-lengths
overflow_add-lengths c =
    let keys = ap (λ (t : Threaded). t.keys) c.requires.ended in
    let arcs = c.args.arcs.now in
    let at = c.loop-front.front - 1 in
    let lt = in_arcs (λ (a : Arc). a.to) arcs c.args.ended.now.keys keys c.args.node c.loop-front.front c.loop-front.invariant.at (omega arith) in
    let bound = arc_bound c.args.lowers.now arcs c.requires.within c.args.lengths.now c.requires.lengths (get_or arcs at none) (contains_at arcs at none lt) in
    omega (arith, bound, c.type_inv.lengths (get_or arcs at none).to)

pub loop-front-preserved : goal.loop-front-preserved
loop-front-preserved c =
    let keys = ap (λ (t : Threaded). t.keys) c.requires.ended in
    let keys_list = c.args.ended.now.keys in
    let arcs = c.args.arcs.now in
    let loop = c.loop-front.invariant in
    let front = c.loop-front.front in
    let lengths = c.args.lengths.now in
    let node = c.args.node in
    let some : 0 < front = omega arith in
    let lt = in_arcs (λ (a : Arc). a.to) arcs keys_list keys node front loop.at some in
    record {
      at = at_next keys_list node front loop.at some c.before-front.result c.before-front.ensures;
      none = ends_next (λ (a : Arc). a.to) arcs keys_list keys node front loop.at some (λ a. get_or lengths a.from 0 + a.length ≢ get_or lengths node 0) c.before-front.result c.before-front.ensures loop.none
          (λ d. subst (λ z. get_or lengths z.from 0 + z.length ≢ get_or lengths node 0) (get_or_default arcs (front - 1) none d lt) c.if-lengths-arc.false);
    }

pub returns-clause-none : goal.returns-clause-none
returns-clause-none c =
    own_lower c.args.lowers.now c.args.arcs.now c.requires.within c.args.lengths.now c.requires.lengths c.args.node c.requires.node (λ k d lt t. c.loop-front.invariant.none k d (omega arith) lt t)
