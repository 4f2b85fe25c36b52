use Rattle.std.proofs.Common.{◌≡◌, ℕ, ◌-◌, List, length, drop, sym, ap, subst, ◌∙◌, arith}
use Rattle.std.proofs.lemmas.List.{drop_all, length_push, length-reverse}
use Rattle.std.proofs.lemmas.Iterator.Adapters.{YieldsList-from_rev_slice}
use Rattle.std.proofs.lemmas.Iterator.Consumers.{YieldsList-turn, YieldsList-end}
use Rattle.disp_model.specs.declared.fixing.Fixing.{Fixing}
use Rattle.event_windows.specs.Windows.{AreTimesOf}
use Rattle.event_windows.proofs.Fixing.{one_more}
use Rattle.event_windows.proofs.times.note_all.Goals as goal

pub loop-fixing-init : goal.loop-fixing-init
loop-fixing-init c =
    let xs = c.args.fixings.now in
    subst (λ (l : List Fixing). AreTimesOf c.args.problem.now l c.args.times.now) (sym (drop_all (length xs - 0) xs (omega arith))) c.requires.free

pub loop-fixing-preserved : goal.loop-fixing-preserved
loop-fixing-preserved c =
    let xs = c.args.fixings.now in
    let yielded = c.loop-fixing.yielded in
    let t = YieldsList-turn (YieldsList-from_rev_slice c.args.fixings.now (cc)) c.loop-fixing.yielded _ c.loop-fixing.yielded_by _ _ c.in-Some.fixing c.in-Some.is c.next.ensures.steps in
    let more = one_more xs (length yielded) c.in-Some.fixing.now t.0 t.1 in
    subst (λ (l : List Fixing). AreTimesOf c.args.problem.now l c.note.new.times) (more ∙ ap (λ (k : ℕ). drop (length xs - k) xs) (sym (length_push yielded c.in-Some.fixing)))
    (c.note.ensures (drop (length xs - length yielded) xs) c.loop-fixing.invariant)

pub returns : goal.returns
returns c =
    let xs = c.args.fixings.now in
    let t = YieldsList-end (YieldsList-from_rev_slice c.args.fixings.now (cc)) c.loop-fixing.yielded _ c.loop-fixing.yielded_by _ _ c.in-None.is c.next.ensures.steps in
    let none : length xs - length c.loop-fixing.yielded ≡ 0 = omega (arith, t.1, length-reverse xs) in
    subst (λ (k : ℕ). AreTimesOf c.args.problem.now (drop k xs) c.loop-fixing.times) none c.loop-fixing.invariant
