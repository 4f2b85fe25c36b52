use Rattle.std.proofs.Common.{◌≡◌, ◌<◌, ◌∙◌, length, get_or, set, max, ap, arith, subst}
use Rattle.std.proofs.lemmas.List.{get_or_read, length-set}
use Rattle.incremental_paths.specs.Walks.{WalksAreShort}
use Rattle.incremental_paths.specs.Spread.{WalksFit, Told}
use Rattle.incremental_paths.proofs.KeptFields.{fits_from_short, kept_no_cycle, kept_raised, longest_reached, longest_spread, raised_before, written_back}
use Rattle.incremental_paths.proofs.Longer.{changed_told}
use Rattle.incremental_paths.proofs.Tracing.{spread_lengths}
use Rattle.incremental_paths.proofs.ordered.OrderedPaths.raise.Goals as goal
use Rattle.incremental_paths.proofs.ordered.OrderedPaths.raise.Goals.{After-deref_mut}

-- the walks with the raised lower fit
raised_fits : (c : After-deref_mut) → WalksFit (set c.self.inside.lowers.items c.args.node c.args.lower) c.self.inside.arcs.items
raised_fits c =
    let f = c.self.inside in
    let acyclic = kept_no_cycle f.lowers.items f.arcs.items f.begun f.ended f.order f.marks f.lengths.items f.trail.items f.starts.items f.stale f.changes.grown.size c.self.invariant.0 in
    let lt : c.args.node < length f.lowers.items = rw (← c.self.view_is) at c.requires.node in
    let read : c.index.result.now ≡ get_or f.lowers.items c.args.node 0 = get_or_read f.lowers.items c.args.node c.index.result.now lt c.index.ensures 0 in
    let greater : max (get_or f.lowers.items c.args.node 0) c.args.lower ≡ c.args.lower = omega (arith, read) in
    let required = rw (← c.self.view_is) at c.requires.short in
    let short : WalksAreShort (set f.lowers.items c.args.node c.args.lower) f.arcs.items = subst (λ z. WalksAreShort (set f.lowers.items c.args.node z) f.arcs.items) greater (required acyclic) in
    fits_from_short (set f.lowers.items c.args.node c.args.lower) f.arcs.items short

pub raise_length-requires-clause-fit : goal.raise_length-requires-clause-fit
raise_length-requires-clause-fit c = rw (c.deref.ensures.value, c.deref-then-index-lower.ensures.value) (raised_fits (goal.at.raise_length-requires-clause-fit c).After-deref_mut)

pub raise_length-requires-clause-before : goal.raise_length-requires-clause-before
raise_length-requires-clause-before c =
    let f = c.self.inside in
    let lt : c.args.node < length f.lowers.items = rw (← c.self.view_is) at c.requires.node in
    let read : c.index.result.now ≡ get_or f.lowers.items c.args.node 0 = get_or_read f.lowers.items c.args.node c.index.result.now lt c.index.ensures 0 in
    let reached = longest_reached f.lowers.items f.arcs.items f.lengths.items c.self.invariant.0.a_length_each c.self.invariant.0.longest in
    rw (c.deref.ensures.value, c.deref-then-index-lower.ensures.value, c.deref_mut.ensures.value) (raised_before f.lowers.items f.arcs.items f.lengths.items c.args.node c.args.lower lt (omega (arith, read)) reached)

pub raise_length-requires-clause-spread : goal.raise_length-requires-clause-spread
raise_length-requires-clause-spread c =
    let f = c.self.inside in
    rw (c.deref.ensures.value, c.deref_mut.ensures.value) (longest_spread f.lowers.items f.arcs.items f.lengths.items c.self.invariant.0.within c.self.invariant.0.longest)

pub invariant_of-self : goal.invariant_of-self
invariant_of-self c =
    let f = c.self.inside in
    let same : length c.raise_length.new.lengths ≡ f.lengths.len = omega (arith, c.raise_length.auto.lengths, c.deref_mut.ensures.len) in
    let reached = rw (c.deref.ensures.value, c.deref-then-index-lower.ensures.value) at c.raise_length.ensures.reached in
    let spread = rw c.deref.ensures.value at c.raise_length.ensures.spread in
    rw (written_back f.lengths.items c.raise_length.new.lengths f.lengths.len same)
    (kept_raised f.lowers.items f.arcs.items f.begun f.ended f.order f.marks f.lengths.items f.trail.items f.starts.items f.stale f.changes.grown.size c.self.invariant.0 c.args.node c.args.lower c.raise_length.new.lengths c.clear-then-index-lower.new.self.items c.len-self-inside.result c.raise_length.new.changes.grown.size (raised_fits (goal.at.invariant_of-self c).After-deref_mut) reached spread c.clear-then-index-lower.ensures.items (omega (arith, c.len-self-inside.ensures, f.arcs.ok.0)) (c.raise_length.ensures.tells.room ∙ ap (λ (t : Told). t.grown.size) c.clear.ensures), c.self.invariant.1)

pub returns-then-index-lower-clause-changed : goal.returns-then-index-lower-clause-changed
returns-then-index-lower-clause-changed c =
    let f = c.self.inside in
    let k = c.self.invariant.0 in
    let lowers = set f.lowers.items c.args.node c.args.lower in
    let long = length-set f.lowers.items c.args.node c.args.lower in
    let acyclic = kept_no_cycle f.lowers.items f.arcs.items f.begun f.ended f.order f.marks f.lengths.items f.trail.items f.starts.items f.stale f.changes.grown.size k in
    let reached = rw (c.deref.ensures.value, c.deref-then-index-lower.ensures.value) at c.raise_length.ensures.reached in
    let spread = rw c.deref.ensures.value at c.raise_length.ensures.spread in
    let tells = rw (c.clear.ensures, c.deref_mut.ensures.value) at c.raise_length.ensures.tells in
    rw (← c.self.view_is)
    (changed_told f.lowers.items f.arcs.items f.lengths.items k.longest acyclic k.within lowers f.arcs.items c.raise_length.new.lengths (spread_lengths lowers f.arcs.items c.raise_length.new.lengths reached spread) acyclic (rw long k.within)
    long k.a_length_each f.changes.grown.size c.raise_length.new.changes tells f.changes.grown.listed)
