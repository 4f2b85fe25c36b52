-- What clauses see of a board and of a pass: which board it is, and what the pass knows.
use Rattle.std.specs.Prelude.{ℕ}
use Rattle.atomic_table.specs.Seated.{TableId}
use Rattle.disp_model.specs.declared.entry.Entry.{Entry}
use Rattle.disp_model.specs.declared.problem.Problem.{Problem}
use Rattle.turn_lock.specs.Known.{Known}
use Rattle.turn_lock.specs.Turn.{lock_of, own_lock, view}
use Rattle.shared_board.specs.declared.board.Board.{Board}
use Rattle.shared_board.specs.declared.pass.Pass.{Pass}
use Rattle.shared_board.specs.declared.terms.Terms.{Terms}

abbrev pub board_of : Board → TableId
board_of b = lock_of b.turns

abbrev pub problem_of : Board → Problem
problem_of b = b.problem

abbrev pub own_board : Pass → TableId
own_board p = own_lock p.turn

abbrev pub known : Pass → Known Entry Terms
known p = view p.turn

-- how many entries the pass has fetched
abbrev pub fetched : Pass → ℕ
fetched p = p.fetched

-- how many lines of its caller have an entry
abbrev pub lines : Pass → ℕ
lines p = p.lines
