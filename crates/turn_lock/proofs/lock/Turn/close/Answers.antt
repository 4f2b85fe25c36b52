use Rattle.std.proofs.Common.{◌≡◌, None, Some, sym, ◌∙◌}
use Rattle.turn_lock.proofs.Closing.{closes, gives_state}
use Rattle.turn_lock.proofs.lock.Turn.close.Goals as goal

pub unreachable-requires : goal.unreachable-requires
unreachable-requires g c =
    let s = g.S.History in
    let h = closes s.entries s.named s.terms s.kept _ _ _ _ c.take-state.result c.requires.last c.args.pass.live c.args.pass.idle.0 c.close_with-closed.ensures.values.2 c.take-state.ensures.value in
    let bad : None ≡ Some h.0 = sym c.in-None.is ∙ h.1 in absurd (cc)

pub returns-clause-terms : goal.returns-clause-terms
returns-clause-terms g c =
    let s = g.S.History in
    (gives_state s.entries s.named s.terms s.kept _ _ _ (closes s.entries s.named s.terms s.kept _ _ _ _ c.take-state.result c.requires.last c.args.pass.live c.args.pass.idle.0 c.close_with-closed.ensures.values.2 c.take-state.ensures.value) c.in-Some.is).agrees.0

pub returns-clause-kept : goal.returns-clause-kept
returns-clause-kept g c =
    let s = g.S.History in
    (gives_state s.entries s.named s.terms s.kept _ _ _ (closes s.entries s.named s.terms s.kept _ _ _ _ c.take-state.result c.requires.last c.args.pass.live c.args.pass.idle.0 c.close_with-closed.ensures.values.2 c.take-state.ensures.value) c.in-Some.is).agrees.1

pub returns-clause-seen : goal.returns-clause-seen
returns-clause-seen g c =
    let s = g.S.History in
    (gives_state s.entries s.named s.terms s.kept _ _ _ (closes s.entries s.named s.terms s.kept _ _ _ _ c.take-state.result c.requires.last c.args.pass.live c.args.pass.idle.0 c.close_with-closed.ensures.values.2 c.take-state.ensures.value) c.in-Some.is).seen

pub returns-clause-count : goal.returns-clause-count
returns-clause-count g c =
    let s = g.S.History in
    (gives_state s.entries s.named s.terms s.kept _ _ _ (closes s.entries s.named s.terms s.kept _ _ _ _ c.take-state.result c.requires.last c.args.pass.live c.args.pass.idle.0 c.close_with-closed.ensures.values.2 c.take-state.ensures.value) c.in-Some.is).count

pub returns-clause-places : goal.returns-clause-places
returns-clause-places g c =
    let s = g.S.History in
    (gives_state s.entries s.named s.terms s.kept _ _ _ (closes s.entries s.named s.terms s.kept _ _ _ _ c.take-state.result c.requires.last c.args.pass.live c.args.pass.idle.0 c.close_with-closed.ensures.values.2 c.take-state.ensures.value) c.in-Some.is).places
