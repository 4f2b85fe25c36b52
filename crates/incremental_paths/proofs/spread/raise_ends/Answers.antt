use Rattle.std.proofs.Common.{◌≡◌, ℕ, ◌<◌, ◌-◌, inl, inr, length, get_or, refl, sym, ap, ◌∙◌, subst, arith}
use Rattle.std.proofs.lemmas.List.{get_or_default}
use Rattle.std.proofs.lemmas.Bool.{cases_eq}
use Rattle.incremental_paths.specs.declared.arc.Arc.{Arc}
use Rattle.incremental_paths.specs.Threaded.{Threaded}
use Rattle.incremental_paths.specs.Spread.{IsSpread}
use Rattle.incremental_paths.proofs.Threading.{at_last, at_next, none_first, ends_next, key_here, in_arcs}
use Rattle.incremental_paths.proofs.Telling.{tells_none, tells_both}
use Rattle.incremental_paths.proofs.Pairs.{contains_at}
use Rattle.incremental_paths.proofs.Pushing.{reach_self, reach_both}
use Rattle.incremental_paths.proofs.Spreading.{reached_fits, reached_one, one_grows, one_only, one_long, one_spread, still_spread}
use Rattle.incremental_paths.proofs.spread.raise_ends.Goals as goal

-- an element that no arc is
abbrev none : Arc
none = record { from = 0; to = 0; length = 0 }

pub loop-front-init : goal.loop-front-init
loop-front-init g c =
    let keys = ap (λ (t : Threaded). t.keys) c.requires.begun in
    record {
      at = at_last c.args.begun.now.keys c.args.node c.last-front.result c.last-front.ensures;
      sized = refl;
      grows = λ v. omega arith;
      only = λ v other. absurd (other refl);
      old = λ k d lt spread same. spread;
      here = λ k d le lt e. absurd (none_first (λ (a : Arc). a.from) c.args.arcs.now c.args.begun.now.keys keys c.args.node c.last-front.result c.last-front.ensures k d le lt e);
      reached = λ lowers r. r;
      tells = tells_none c.args.changes.now c.args.lengths.now;
      above = omega arith;
      top_within = c.requires.least;
      reach = reach_self c.args.changes.now c.args.order.now c.args.least;
    }

pub raise_behind-top-requires-clause-fits : goal.raise_behind-top-requires-clause-fits
raise_behind-top-requires-clause-fits g c =
    let keys = ap (λ (t : Threaded). t.keys) c.requires.begun in
    let arcs = c.args.arcs.now in
    let loop = c.loop-front.invariant in
    let at = c.loop-front.front - 1 in
    let lt = in_arcs (λ (a : Arc). a.from) arcs c.args.begun.now.keys keys c.args.node c.loop-front.front loop.at (omega arith) in
    let lowers = c.requires.reached.0 in
    reached_fits lowers arcs c.loop-front.lengths (loop.reached lowers c.requires.reached.1) (get_or arcs at none) (contains_at arcs at none lt) (omega (arith, (c.requires.within at none lt).0, loop.sized)) c.requires.reached.2

pub loop-front-preserved : goal.loop-front-preserved
loop-front-preserved g c =
    let keys = ap (λ (t : Threaded). t.keys) c.requires.begun in
    let keys_list = c.args.begun.now.keys in
    let arcs = c.args.arcs.now in
    let node = c.args.node in
    let loop = c.loop-front.invariant in
    let front = c.loop-front.front in
    let first = c.args.lengths.now in
    let old = c.loop-front.lengths in
    let new = c.raise_behind-top.new.lengths in
    let some : 0 < front = omega arith in
    let lt = in_arcs (λ (a : Arc). a.from) arcs keys_list keys node front loop.at some in
    let a = get_or arcs (front - 1) none in
    let within = c.requires.within (front - 1) none lt in
    let from_within : a.from < length old = omega (arith, within.0, loop.sized) in
    let to_within : a.to < length old = omega (arith, within.1, loop.sized) in
    let one = c.raise_behind-top.ensures.spreads in
    let grows_one = one_grows a old new to_within one in
    let apart = c.requires.apart (front - 1) none lt in
    let here : (d : Arc) → get_or arcs (front - 1) d ≡ a = λ d. get_or_default arcs (front - 1) d none lt in
    let between : (v : ℕ) → get_or first v 0 ≡ get_or new v 0 → get_or old v 0 ≡ get_or new v 0 = λ v same. omega (arith, same, loop.grows v, grows_one v) in
    let begins : a.from ≡ node = key_here (λ (a : Arc). a.from) arcs keys_list keys node front loop.at some none in
    let node_same : get_or old node 0 ≡ get_or new node 0 = one_only a old new one node (λ e. apart (begins ∙ e)) in
    record {
      at = at_next keys_list node front loop.at some c.before-front.result c.before-front.ensures;
      sized = one_long a old new one ∙ loop.sized;
      grows = λ v. omega (arith, loop.grows v, grows_one v);
      only = λ v differs. elim (cases_eq v a.to) [
        | inl same ↦ (front - 1, lt, λ d. (key_here (λ (a : Arc). a.from) arcs keys_list keys node front loop.at some d, ap (λ z. z.to) (here d) ∙ sym same))
        | inr other ↦ loop.only v (λ e. differs (e ∙ one_only a old new one v other))
      ];
      old = λ k d l spread same. still_spread (get_or arcs k d) old new grows_one (loop.old k d l spread (omega (arith, same, loop.grows (get_or arcs k d).from, grows_one (get_or arcs k d).from))) (between (get_or arcs k d).from same);
      here = ends_next (λ (a : Arc). a.from) arcs keys_list keys node front loop.at some (IsSpread new) c.before-front.result c.before-front.ensures
          (λ k d le l e. still_spread (get_or arcs k d) old new grows_one (loop.here k d le l e) (ap (λ z. get_or old z 0) e ∙ node_same ∙ ap (λ z. get_or new z 0) (sym e)))
          (λ d. subst (IsSpread new) (sym (here d)) (one_spread a old new to_within apart one));
      reached = λ lowers r. reached_one lowers arcs old (loop.reached lowers r) a (contains_at arcs (front - 1) none lt) from_within new to_within one;
      above = omega (arith, loop.above, c.raise_behind-top.ensures.above);
      top_within = c.raise_behind-top.ensures.within;
      reach = reach_both c.args.order.now c.args.changes.now c.loop-front.changes c.raise_behind-top.new.changes c.loop-front.top c.raise_behind-top.result c.raise_behind-top.ensures.above loop.reach c.raise_behind-top.ensures.reach;
      tells = tells_both c.args.changes.now c.loop-front.changes c.raise_behind-top.new.changes first old new loop.tells c.raise_behind-top.ensures.tells;
    }
