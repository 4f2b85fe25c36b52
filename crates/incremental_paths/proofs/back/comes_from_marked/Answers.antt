use Rattle.std.proofs.Common.{◌≡◌, ◌<◌, ◌-◌, false, ap, ◌∙◌, arith}
use Rattle.std.proofs.lemmas.List.{get_or_default}
use Rattle.incremental_paths.specs.declared.arc.Arc.{Arc}
use Rattle.incremental_paths.specs.Threaded.{Threaded}
use Rattle.incremental_paths.specs.Ordered.{is_marked}
use Rattle.incremental_paths.proofs.Threading.{at_last, at_next, none_first, ends_next, in_arcs}
use Rattle.incremental_paths.proofs.back.comes_from_marked.Goals as goal

-- an element that no arc is
abbrev none : Arc
none = record { from = 0; to = 0; length = 0 }

pub loop-front-init : goal.loop-front-init
loop-front-init c =
    let keys = ap (λ (t : Threaded). t.keys) c.requires.ended in
    record {
      at = at_last c.args.ended.now.keys c.args.node c.last-front.result c.last-front.ensures;
      none = λ k d le lt e. absurd (none_first (λ (a : Arc). a.to) c.args.arcs.now c.args.ended.now.keys keys c.args.node c.last-front.result c.last-front.ensures k d le lt e);
    }

pub loop-front-preserved : goal.loop-front-preserved
loop-front-preserved c =
    let keys = ap (λ (t : Threaded). t.keys) c.requires.ended in
    let keys_list = c.args.ended.now.keys in
    let arcs = c.args.arcs.now in
    let loop = c.loop-front.invariant in
    let front = c.loop-front.front in
    let node = c.args.node in
    let some : 0 < front = omega arith in
    let lt = in_arcs (λ (a : Arc). a.to) arcs keys_list keys node front loop.at some in
    record {
      at = at_next keys_list node front loop.at some c.before-front.result c.before-front.ensures;
      none = ends_next (λ (a : Arc). a.to) arcs keys_list keys node front loop.at some (λ a. is_marked c.args.marks.now a.from ≡ false) c.before-front.result c.before-front.ensures loop.none
          (λ d. ap (λ z. is_marked c.args.marks.now z.from) (get_or_default arcs (front - 1) d none lt) ∙ c.if-marks-arc.false);
    }
