use Rattle.std.proofs.Common.{◌≡◌, ◌-◌, ◌<◌, ◌≤◌, length, get_or, take, ap, ◌∙◌, arith}
use Rattle.std.proofs.lemmas.List.{get_or_read}
use Rattle.incremental_paths.proofs.KeptFields.{kept_room, kept_undone, kept_anew, front_begun, front_fits, threads_are, written_back}
use Rattle.incremental_paths.specs.Spread.{Told}
use Rattle.incremental_paths.proofs.ordered.OrderedPaths.withdraw.Goals as goal

pub invariant_of-self : goal.invariant_of-self
invariant_of-self c =
    let f = c.self.inside in
    (kept_room f.lowers.items f.arcs.items f.begun f.ended f.order f.marks f.lengths.items f.trail.items f.starts.items f.stale f.changes.grown.size c.self.invariant.0 c.clear.new.self.grown.size (ap (λ (t : Told). t.grown.size) c.clear.ensures), tt)

pub invariant_of-self-then-self-left : goal.invariant_of-self-then-self-left
invariant_of-self-then-self-left c =
    let f = c.self.inside in
    let left = c.len-count.result - c.args.k in
    let few : c.args.k ≤ length f.arcs.items = rw (← c.self.view_is) at c.requires in
    let less : left < length f.arcs.items = omega (arith, few, c.len-count.ensures, f.arcs.ok.0, c.if-k-eq0.false) in
    let is_begun = threads_are c.shorten.new.threads f.begun.size (take left f.begun.keys) c.shorten.ensures.size c.shorten.ensures.keys in
    let is_ended = threads_are c.shorten-2.new.threads f.ended.size (take left f.ended.keys) c.shorten-2.ensures.size c.shorten-2.ensures.keys in
    let read : c.index-start.result.now ≡ get_or f.starts.items left 0 = get_or_read f.starts.items left c.index-start.result.now (omega (arith, less, c.self.invariant.0.undone.sized)) c.index-start.ensures 0 in
    let same : length c.put_back.new.lengths ≡ f.lengths.len = omega (arith, c.put_back.auto.lengths, c.deref_mut.ensures.len) in
    let long : length c.put_back.new.lengths ≡ length f.lowers.items = omega (arith, same, f.lengths.ok.0, c.self.invariant.0.a_length_each) in
    let is_new = rw (c.deref_mut.ensures.value, read) at c.put_back.ensures.lengths in
    let is_trail = rw read at c.put_back.ensures.trail in
    rw (c.truncate.ensures.items, c.truncate-2.ensures.items, written_back f.lengths.items c.put_back.new.lengths f.lengths.len same)
    (kept_undone f.lowers.items f.arcs.items f.begun f.ended f.order f.marks f.lengths.items f.trail.items f.starts.items f.stale f.changes.grown.size c.self.invariant.0 left less c.shorten.new.threads c.shorten-2.new.threads is_begun is_ended c.put_back.new.lengths c.put_back.new.trail.items c.go_back.new.self.grown.size (ap (λ (t : Told). t.grown.size) (c.go_back.ensures ∙ c.clear.ensures)) c.if-self-left.true long is_new is_trail, tt)

pub spread_anew-requires-clause-begun : goal.spread_anew-requires-clause-begun
spread_anew-requires-clause-begun c =
    let f = c.self.inside in
    let left = c.len-count.result - c.args.k in
    let few : c.args.k ≤ length f.arcs.items = rw (← c.self.view_is) at c.requires in
    let less : left < length f.arcs.items = omega (arith, few, c.len-count.ensures, f.arcs.ok.0, c.if-k-eq0.false) in
    let is_begun = threads_are c.shorten.new.threads f.begun.size (take left f.begun.keys) c.shorten.ensures.size c.shorten.ensures.keys in
    let is_ended = threads_are c.shorten-2.new.threads f.ended.size (take left f.ended.keys) c.shorten-2.ensures.size c.shorten-2.ensures.keys in
    rw (c.deref-else-self-left.ensures.value, c.deref.ensures.value, c.truncate.ensures.items) (front_begun f.lowers.items f.arcs.items f.begun f.ended f.order f.marks f.lengths.items f.trail.items f.starts.items f.stale f.changes.grown.size c.self.invariant.0 left less c.shorten.new.threads c.shorten-2.new.threads is_begun is_ended)

pub spread_anew-requires-clause-fit : goal.spread_anew-requires-clause-fit
spread_anew-requires-clause-fit c =
    let f = c.self.inside in
    let left = c.len-count.result - c.args.k in
    let few : c.args.k ≤ length f.arcs.items = rw (← c.self.view_is) at c.requires in
    let less : left < length f.arcs.items = omega (arith, few, c.len-count.ensures, f.arcs.ok.0, c.if-k-eq0.false) in
    let is_begun = threads_are c.shorten.new.threads f.begun.size (take left f.begun.keys) c.shorten.ensures.size c.shorten.ensures.keys in
    let is_ended = threads_are c.shorten-2.new.threads f.ended.size (take left f.ended.keys) c.shorten-2.ensures.size c.shorten-2.ensures.keys in
    rw (c.deref-else-self-left.ensures.value, c.deref.ensures.value, c.truncate.ensures.items) (front_fits f.lowers.items f.arcs.items f.begun f.ended f.order f.marks f.lengths.items f.trail.items f.starts.items f.stale f.changes.grown.size c.self.invariant.0 left less c.shorten.new.threads c.shorten-2.new.threads is_begun is_ended)

pub invariant_of-self-else-self-left : goal.invariant_of-self-else-self-left
invariant_of-self-else-self-left c =
    let f = c.self.inside in
    let left = c.len-count.result - c.args.k in
    let few : c.args.k ≤ length f.arcs.items = rw (← c.self.view_is) at c.requires in
    let less : left < length f.arcs.items = omega (arith, few, c.len-count.ensures, f.arcs.ok.0, c.if-k-eq0.false) in
    let is_begun = threads_are c.shorten.new.threads f.begun.size (take left f.begun.keys) c.shorten.ensures.size c.shorten.ensures.keys in
    let is_ended = threads_are c.shorten-2.new.threads f.ended.size (take left f.ended.keys) c.shorten-2.ensures.size c.shorten-2.ensures.keys in
    let same : length c.spread_anew.new.lengths ≡ f.lengths.len = omega (arith, c.spread_anew.auto.lengths, c.deref_mut-else-self-left.ensures.len) in
    let room = ap (λ (t : Told). t.grown.size) c.clear-else-self-left-2.ensures ∙ c.spread_anew.ensures.room ∙ ap (λ (t : Told). t.grown.size) (c.go_back.ensures ∙ c.clear.ensures) in
    let reached = rw (c.deref-else-self-left.ensures.value, c.deref.ensures.value, c.truncate.ensures.items) at c.spread_anew.ensures.reached in
    let spread = rw (c.deref.ensures.value, c.truncate.ensures.items) at c.spread_anew.ensures.spread in
    rw (c.truncate.ensures.items, c.truncate-2.ensures.items, written_back f.lengths.items c.spread_anew.new.lengths f.lengths.len same)
    (kept_anew f.lowers.items f.arcs.items f.begun f.ended f.order f.marks f.lengths.items f.trail.items f.starts.items f.stale f.changes.grown.size c.self.invariant.0 left less c.shorten.new.threads c.shorten-2.new.threads is_begun is_ended c.spread_anew.new.lengths c.clear-else-self-left.new.self.items c.clear-else-self-left-2.new.self.grown.size room reached spread c.clear-else-self-left.ensures.items, tt)
