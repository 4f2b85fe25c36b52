use Rattle.std.proofs.Common.{◌∙◌, List, ℕ, take, get_or, sym, ap}
use Rattle.std.proofs.lemmas.List.{take_more}
use Rattle.open_nodes.specs.Shown.{fallen_at}
use Rattle.open_nodes.specs.States.{State}
use Rattle.dispatch_core.specs.Falling.{fallen_all}
use Rattle.dispatch_core.proofs.Fallen.{fallen_push}
use Rattle.dispatch_core.proofs.settling.fall_back.Goals as goal

pub loop-number-preserved : goal.loop-number-preserved
loop-number-preserved c =
    let numbers = c.args.numbers.now in
    let k = c.loop-number.number-index in
    let first : State = c.args.nodes.now in
    c.reset.ensures ∙ ap (λ (s : State). fallen_at s (get_or numbers k 0)) c.loop-number.invariant
    ∙ sym (ap (λ (l : List ℕ). fallen_all first l) (take_more numbers k 0 c.loop-number-test.true) ∙ fallen_push (take k numbers) first (get_or numbers k 0))
