use Rattle.std.proofs.Common.{◌≡◌, ◌+◌, ◌<◌, ℕ, ◌∷◌, ◌++◌, [], length, get_or, refl, ap, ◌∙◌, arith}
use Rattle.std.proofs.lemmas.Result.{err_from_is_err_and}
use Rattle.std.proofs.lemmas.List.{length-append}
use Rattle.std.proofs.lemmas.List.Elements.{All-push}
use Rattle.incremental_paths.specs.declared.arc.Arc.{Arc}
use Rattle.incremental_paths.specs.Walks.{ArcsHaveCycle, IsLongestLength}
use Rattle.incremental_paths.specs.Marked.{AreRising}
use Rattle.incremental_paths.specs.Spread.{WalksFit}
use Rattle.incremental_paths.proofs.Reordering.{rising_free}
use Rattle.incremental_paths.proofs.KeptFields.{kept_longest, longest_spread, longest_reached, reached_more, fits_from_short, kept_more, written_back}
use Rattle.incremental_paths.proofs.Longer.{changed_told, longest_unique}
use Rattle.incremental_paths.proofs.Tracing.{spread_lengths}
use Rattle.incremental_paths.proofs.ordered.OrderedPaths.add_counted.Given.{Over}
use Rattle.incremental_paths.proofs.ordered.OrderedPaths.add_counted.Goals as goal
use Rattle.incremental_paths.proofs.ordered.OrderedPaths.add_counted.Goals.{In_default}

arc : (g : Over) (c : In_default g) → Arc
arc g c = record { from = c.args.from; to = c.args.to; length = c.args.length }

rising : (g : Over) (c : In_default g) → AreRising (c.self.inside.arcs.items ++ arc g c ∷ []) c.order_with.new.order
unfolding arc
rising g c = rw c.deref.ensures.value at (c.in_default.ensures.ok c.args.length)

no_cycle : (g : Over) (c : In_default g) → ArcsHaveCycle (c.args.self.now.network.arcs ++ arc g c ∷ []) → ⊥
unfolding arc
no_cycle g c = rw (← c.self.view_is) (rising_free (c.self.inside.arcs.items ++ arc g c ∷ []) c.order_with.new.order (rising g c))

fit : (g : Over) (c : In_default g) → WalksFit c.self.inside.lowers.items (c.self.inside.arcs.items ++ arc g c ∷ [])
unfolding arc
fit g c =
    let f = c.self.inside in
    let short = rw (← c.self.view_is) at c.requires.short in
    fits_from_short f.lowers.items (f.arcs.items ++ arc g c ∷ []) (short (rising_free (f.arcs.items ++ arc g c ∷ []) c.order_with.new.order (rising g c)))

pub returns-in-Err-clause-closes : goal.returns-in-Err-clause-closes
returns-in-Err-clause-closes g c = rw (← c.self.view_is) (rw c.deref.ensures.value at (c.in-Err.ensures.closes c.args.length))

pub returns-in_err-reserve-clause-closes : goal.returns-in_err-reserve-clause-closes
unfolding arc
returns-in_err-reserve-clause-closes g c =
    let d = (goal.at.returns-in_err-reserve-clause-closes g c).In_default in
    let p = err_from_is_err_and c.from_residual.result c.from_residual.ensures.1 in
    rw (p.1, p.2) (λ e. absurd (cc), λ h. absurd (no_cycle g d h))

pub returns-in_err-keep_arc-clause-closes : goal.returns-in_err-keep_arc-clause-closes
unfolding arc
returns-in_err-keep_arc-clause-closes g c =
    let d = (goal.at.returns-in_err-keep_arc-clause-closes g c).In_default in
    let p = err_from_is_err_and c.from_residual-in_err-keep_arc.result c.from_residual-in_err-keep_arc.ensures.1 in
    rw (p.1, p.2) (λ e. absurd (cc), λ h. absurd (no_cycle g d h))

pub returns-clause-closes : goal.returns-clause-closes
unfolding arc
returns-clause-closes g c =
    let d = (goal.at.returns-clause-closes g c).In_default in
    (λ e. absurd (cc), λ h. absurd (no_cycle g d h))

pub spread_last-requires-clause-within : goal.spread_last-requires-clause-within
spread_last-requires-clause-within g c =
    let f = c.self.inside in
    let k = c.self.invariant.0 in
    let from : c.args.from < length f.lowers.items = rw (← c.self.view_is) at c.requires.from in
    let to : c.args.to < length f.lowers.items = rw (← c.self.view_is) at c.requires.to in
    let arc : Arc = record { from = c.args.from; to = c.args.to; length = c.args.length } in
    rw (c.deref-2.ensures.value, c.deref_mut.ensures.value, c.in_ok-keep_arc.ensures.arcs, k.a_length_each) (All-push (λ (z : Arc). (z.from < length f.lowers.items) × (z.to < length f.lowers.items)) f.arcs.items arc k.within (from, to))

pub spread_last-requires-clause-reached : goal.spread_last-requires-clause-reached
unfolding arc
spread_last-requires-clause-reached g c =
    let f = c.self.inside in
    let k = c.self.invariant.0 in
    let d = (goal.at.spread_last-requires-clause-reached g c).In_default in
    rw (c.deref-2.ensures.value, c.deref_mut.ensures.value, c.in_ok-keep_arc.ensures.arcs)
    (f.lowers.items, reached_more f.lowers.items f.arcs.items (arc g d) f.lengths.items (longest_reached f.lowers.items f.arcs.items f.lengths.items k.a_length_each k.longest), fit g d)

pub spread_last-requires-clause-last : goal.spread_last-requires-clause-last
spread_last-requires-clause-last g c =
    let f = c.self.inside in
    let k = c.self.invariant.0 in
    rw (c.deref-2.ensures.value, c.deref_mut.ensures.value, c.in_ok-keep_arc.ensures.arcs) (f.arcs.items, refl, longest_spread f.lowers.items f.arcs.items f.lengths.items k.within k.longest)

pub invariant_of-self-2 : goal.invariant_of-self-2
unfolding arc
invariant_of-self-2 g c =
    let f = c.self.inside in
    let k = c.self.invariant.0 in
    let d = (goal.at.invariant_of-self-2 g c).In_default in
    let from : c.args.from < length f.lowers.items = rw (← c.self.view_is) at c.requires.from in
    let to : c.args.to < length f.lowers.items = rw (← c.self.view_is) at c.requires.to in
    let same : length c.spread_last.new.lengths ≡ f.lengths.len = omega (arith, c.spread_last.auto.lengths, c.deref_mut.ensures.len) in
    let before = reached_more f.lowers.items f.arcs.items (arc g d) f.lengths.items (longest_reached f.lowers.items f.arcs.items f.lengths.items k.a_length_each k.longest) in
    let reached = rw (c.deref-2.ensures.value, c.deref_mut.ensures.value, c.in_ok-keep_arc.ensures.arcs) at c.spread_last.ensures.reached in
    let spread = rw (c.deref-2.ensures.value, c.in_ok-keep_arc.ensures.arcs) at c.spread_last.ensures.spread in
    let tells = rw (c.begin_arc.ensures, c.clear.ensures, c.deref_mut.ensures.value) at c.spread_last.ensures.tells in
    let choice = rw (c.in_ok-reserve.ensures.items) at c.keep_changes-self-inside.ensures in
    let start : c.len-start.result ≡ length f.trail.items = omega (arith, c.len-start.ensures, c.in_ok-reserve.ensures.len, f.trail.ok.0) in
    let count : c.len-count.result ≡ length f.arcs.items + 1 = omega (arith, c.len-count.ensures, c.keep_arc.new.arcs.ok.0, ap length c.in_ok-keep_arc.ensures.arcs, length-append f.arcs.items (arc g d ∷ [])) in
    rw (c.in_ok-keep_arc.ensures.arcs, c.in_ok-keep_arc.ensures.starts, c.in_ok-keep_arc.ensures.begun, c.in_ok-keep_arc.ensures.ended, start, written_back f.lengths.items c.spread_last.new.lengths f.lengths.len same) (
      kept_more f.lowers.items f.arcs.items f.begun f.ended f.order f.marks f.lengths.items f.trail.items f.starts.items f.stale f.changes.grown.size c.self.invariant.0 (arc g d) c.order_with.new.order c.order_with.new.marks c.spread_last.new.lengths c.spread_last.new.changes c.keep_changes-self-inside.new.trail.items c.keep_changes-self-inside.result c.len-count.result tells
          from to (c.order_with.ensures.size ∙ k.a_place_each) (c.order_with.ensures.marks ∙ k.a_mark_each) (rising g d) (fit g d) (reached f.lowers.items before) spread count choice,
      tt,
    )

pub returns-clause-changed : goal.returns-clause-changed
unfolding arc
returns-clause-changed g c =
    let f = c.self.inside in
    let k = c.self.invariant.0 in
    let d = (goal.at.returns-clause-changed g c).In_default in
    let from : c.args.from < length f.lowers.items = rw (← c.self.view_is) at c.requires.from in
    let to : c.args.to < length f.lowers.items = rw (← c.self.view_is) at c.requires.to in
    let before = reached_more f.lowers.items f.arcs.items (arc g d) f.lengths.items (longest_reached f.lowers.items f.arcs.items f.lengths.items k.a_length_each k.longest) in
    let reached = rw (c.deref-2.ensures.value, c.deref_mut.ensures.value, c.in_ok-keep_arc.ensures.arcs) at c.spread_last.ensures.reached in
    let spread = rw (c.deref-2.ensures.value, c.in_ok-keep_arc.ensures.arcs) at c.spread_last.ensures.spread in
    let tells = rw (c.begin_arc.ensures, c.clear.ensures, c.deref_mut.ensures.value) at c.spread_last.ensures.tells in
    let arcs = f.arcs.items ++ arc g d ∷ [] in
    let within = All-push (λ (z : Arc). (z.from < length f.lowers.items) × (z.to < length f.lowers.items)) f.arcs.items (arc g d) k.within (from, to) in
    rw (← c.self.view_is, c.in_ok-keep_arc.ensures.arcs)
    (changed_told f.lowers.items f.arcs.items f.lengths.items k.longest (rising_free f.arcs.items f.order k.rising) k.within
    f.lowers.items arcs c.spread_last.new.lengths (spread_lengths f.lowers.items arcs c.spread_last.new.lengths (reached f.lowers.items before) spread) (rising_free arcs c.order_with.new.order (rising g d)) within
    refl k.a_length_each f.changes.grown.size c.spread_last.new.changes tells f.changes.grown.listed)

pub returns-clause-few : goal.returns-clause-few
returns-clause-few g c =
    let f = c.self.inside in
    let from : c.args.from < length f.lowers.items = rw (← c.self.view_is) at c.requires.from in
    let to : c.args.to < length f.lowers.items = rw (← c.self.view_is) at c.requires.to in
    let is : (v : ℕ) → v < length f.lowers.items → IsLongestLength f.lowers.items f.arcs.items v (get_or f.lengths.items v 0) = kept_longest f.lowers.items f.arcs.items f.begun f.ended f.order f.marks f.lengths.items f.trail.items f.starts.items f.stale f.changes.grown.size c.self.invariant.0 in
    rw (← c.self.view_is) (λ up at_from at_to longest_from longest_to le.
    let same_from = longest_unique f.lowers.items f.arcs.items c.args.from (get_or f.lengths.items c.args.from 0) at_from (is c.args.from from) longest_from in
    let same_to = longest_unique f.lowers.items f.arcs.items c.args.to (get_or f.lengths.items c.args.to 0) at_to (is c.args.to to) longest_to in
    let spread = rw c.deref_mut.ensures.value at c.spread_last.ensures.few in
    omega (arith, c.order_with.ensures.few up, spread (omega (arith, le, same_from, same_to))))
