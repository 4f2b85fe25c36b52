use Rattle.std.proofs.Common.{◌∙◌, ◌+◌, ◌++◌, List, ap}
use Rattle.disp_model.specs.declared.fixing.Fixing.{Fixing}
use Rattle.dispatch_core.proofs.TakingBack.{standing_rest, stands_more}
use Rattle.dispatch_core.proofs.settling.standing.Goals as goal

pub loop-place-preserved : goal.loop-place-preserved
loop-place-preserved c =
    let changes = c.args.changes.now in
    let k = c.loop-place.place in
    ap (λ (l : List Fixing). l ++ standing_rest changes (k + 1)) c.in_ok-keep.ensures
    ∙ stands_more changes c.in_ok-taken.taken.items k _ c.index.result.now c.loop-place.fixings.items c.in_ok-taken.ensures c.index.ensures c.loop-place-test.true c.loop-place.invariant
