use Rattle.std.proofs.Common.{◌≡◌, ◌+◌, Bool, List, length, drop, sym, subst, arith}
use Rattle.std.proofs.lemmas.List.{take_at}
use Rattle.dispatch_core.proofs.TakingBack.{AreNoted, all_noted, more_noted}
use Rattle.dispatch_core.proofs.settling.taken_back.Goals as goal

pub loop-change-preserved : goal.loop-change-preserved
loop-change-preserved c =
    let changes = c.args.changes.now in
    let k = c.loop-change.change-index in
    let before : AreNoted changes c.deref_mut.result.now k = subst (λ (l : List Bool). AreNoted changes l k) (sym c.deref_mut.ensures.value) c.loop-change.invariant in
    let now : AreNoted changes c.note.new.taken (k + 1) =
    subst (λ (l : List Bool). AreNoted changes l (k + 1)) (sym c.note.ensures) (more_noted changes c.deref_mut.result.now k _ c.loop-change-test.true before) in
    let long : length c.note.new.taken ≡ c.loop-change.taken.len =
    omega (arith, now.long, c.loop-change.invariant.long, c.loop-change.taken.ok) in
    subst (λ (l : List Bool). AreNoted changes l (k + 1)) (sym (take_at c.note.new.taken (drop (length c.note.new.taken) c.loop-change.taken.items) c.loop-change.taken.len long)) now

pub returns : goal.returns
returns c = all_noted c.args.changes.now c.loop-change.taken.items c.loop-change.change-index c.loop-change-test.false c.loop-change.invariant
