use Rattle.std.proofs.Common.{get_or, subst, sym, ◌∙◌, arith}
use Rattle.std.proofs.lemmas.Option.{slice_get-get_or}
use Rattle.disp_model.specs.declared.train.Op.{Op}
use Rattle.event_windows.specs.Operations.{AreOperationsOf}
use Rattle.event_windows.proofs.Fixing.{windows_more, windows_all, times_read}
use Rattle.event_windows.proofs.starts.windows.Goals as goal

pub loop-n-preserved : goal.loop-n-preserved
loop-n-preserved c =
    let n = c.loop-n.n in
    let ops = c.deref-op-items.result.now in
    let op : Op = get_or ops n (record { train = 0; op = 0 }) in
    let windows = c.loop-n.windows.items in
    let window = c.window_of.result in
    let items = c.in_ok-push.ensures.items in
    let kept = c.loop-n.invariant in
    let at = slice_get-get_or ops n (record { train = 0; op = 0 }) c.loop-n-test.true in
    let listed : AreOperationsOf c.args.problem.now ops = subst (AreOperationsOf c.args.problem.now) (sym c.deref-op-items.ensures.value) c.in_ok-ops.ensures in
    record {
      long = omega (arith, c.in_ok-push.ensures.len, kept.long);
      said = windows_more c.args.problem.now c.args.fixings.now ops windows c.push.new.self.items n op window items kept.long at (c.window_of.ensures c.args.fixings.now (c.index.ensures ∙ times_read c.args.problem.now c.args.fixings.now ops c.in_ok-times.times.items n op _ listed c.in_ok-times.ensures at)) kept.said;
    }

pub returns : goal.returns
returns c =
    let ops = c.deref-op-items.result.now in
    let listed : AreOperationsOf c.args.problem.now ops = subst (AreOperationsOf c.args.problem.now) (sym c.deref-op-items.ensures.value) c.in_ok-ops.ensures in
    windows_all c.args.problem.now c.args.fixings.now ops c.loop-n.windows.items c.loop-n.n listed c.loop-n.invariant.long (omega (arith, c.loop-n-test.false, c.loop-n.auto.n-end)) c.loop-n.invariant.said
