use Rattle.std.proofs.Common.{◌∙◌, ◌+◌, ℕ, inl, inr, ⊎_elim, rules, ap}
use Rattle.shared_board.specs.Board.{known}
use Rattle.shared_board.proofs.Onward.{feed_on, goes_goes}
use Rattle.solved_problems.proofs.Lines.{next_lines}
use Rattle.solved_problems.proofs.entering.enter_lines.Goals as goal

pub loop-change-preserved : goal.loop-change-preserved
loop-change-preserved g c =
    let before = c.loop-change.pass in let after = c.enter_line.new.pass in let inv = c.loop-change.invariant in
    let on = c.enter_line.ensures.on in let asks = c.in_ok-enter_line.ensures.asks in
    record {
      board = on.board_is ∙ inv.board;
      has = ⊎_elim (λ feed. inl (feed_on (known before) (known after) on.role feed)) (λ first. inr (on.role.first ∙ first)) inv.has;
      on = goes_goes c.args.pass.now before after inv.on on;
      counted = asks.counted ∙ ap (λ (n : ℕ). n + 1) inv.counted;
      asks = next_lines before after (known c.args.pass.now).caller c.loop-change.change-index c.args.asked.now _ inv.on.role.caller inv.counted c.loop-change-test.true (search rules) asks inv.asks;
    }
