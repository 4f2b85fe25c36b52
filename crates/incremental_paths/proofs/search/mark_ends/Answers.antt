use Rattle.std.proofs.Common.{◌≡◌, ◌<◌, ◌-◌, inl, inr, true, false, length, get_or, set, get_or-set_same, refl, sym, ap, ◌∙◌, arith}
use Rattle.incremental_paths.specs.declared.arc.Arc.{Arc}
use Rattle.std.proofs.lemmas.List.{get_or_default, length-set}
use Rattle.incremental_paths.specs.Ordered.{is_marked}
use Rattle.incremental_paths.specs.Threaded.{Threaded}
use Rattle.incremental_paths.proofs.Threading.{at_last, at_next, none_first, ends_next, key_here, in_arcs}
use Rattle.incremental_paths.proofs.Marking.{set_still, set_only}
use Rattle.incremental_paths.proofs.search.mark_ends.Goals as goal

-- an element that no arc is
abbrev none : Arc
none = record { from = 0; to = 0; length = 0 }

pub loop-front-init : goal.loop-front-init
loop-front-init g c =
    let keys = ap (λ (t : Threaded). t.keys) c.requires.begun in
    record {
      size = refl;
      at = at_last c.args.begun.now.keys c.args.node c.last-front.result c.last-front.ensures;
      still = λ v m. m;
      ends = λ k d le lt e. absurd (none_first (λ (a : Arc). a.from) c.args.arcs.now c.args.begun.now.keys keys c.args.node c.last-front.result c.last-front.ensures k d le lt e);
      only = λ v m. inl m;
    }

pub loop-front-preserved : goal.loop-front-preserved
loop-front-preserved g c =
    let keys = ap (λ (t : Threaded). t.keys) c.requires.begun in
    let keys_list = c.args.begun.now.keys in
    let arcs = c.args.arcs.now in
    let node = c.args.node in
    let loop = c.loop-front.invariant in
    let front = c.loop-front.front in
    let some : 0 < front = omega arith in
    let lt = in_arcs (λ (a : Arc). a.from) arcs keys_list keys node front loop.at some in
    let to = (get_or arcs (front - 1) none).to in
    let within : to < length c.loop-front.marks = omega (arith, (c.requires.within (front - 1) none lt).1, loop.size) in
    let here : (d : Arc) → get_or arcs (front - 1) d ≡ get_or arcs (front - 1) none = λ d. get_or_default arcs (front - 1) d none lt in
    rw c.mark.ensures (record {
      size = length-set c.loop-front.marks to true ∙ loop.size;
      at = at_next keys_list node front loop.at some c.before-front.result c.before-front.ensures;
      still = λ v m. set_still c.loop-front.marks to v (loop.still v m) within;
      ends = ends_next (λ (a : Arc). a.from) arcs keys_list keys node front loop.at some (λ a. is_marked (set c.loop-front.marks to true) a.to ≡ true) c.before-front.result c.before-front.ensures
          (λ k d le l e. set_still c.loop-front.marks to (get_or arcs k d).to (loop.ends k d le l e) within)
          (λ d. rw (here d) (get_or-set_same c.loop-front.marks to true false within));
      only = λ v m. elim (set_only c.loop-front.marks to v m) [
        | inl old ↦ loop.only v old
        | inr e ↦ inr (front - 1, lt, λ d. (key_here (λ (a : Arc). a.from) arcs keys_list keys node front loop.at some d, ap (λ z. z.to) (here d) ∙ sym e))
      ];
    })
