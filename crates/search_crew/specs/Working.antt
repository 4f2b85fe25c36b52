-- What a search of an edition asks of its searcher's pass, and what it leaves of it.
use Rattle.std.specs.Prelude.{◌≡◌, ℕ, ◌<◌, ◌≤◌, List, Contains}
use Rattle.disp_model.specs.declared.answer.Answer.{Answer}
use Rattle.disp_model.specs.declared.answer.Answer.TheVariants as answer
use Rattle.disp_model.specs.declared.answer.Unfinished.TheVariants.{Budget, Newer}
use Rattle.disp_model.specs.declared.entry.Entry.{Entry}
use Rattle.disp_model.specs.declared.entry.Entry.TheVariants.{Settled, Stopped}
use Rattle.disp_model.specs.declared.settings.Rule.{Rule}
use Rattle.disp_model.specs.declared.tree.TreeNode.{TreeNode}
use Rattle.disp_model.specs.declared.tree.Verdict.TheVariants as verdict
use Rattle.disp_model.specs.History.{newest}
use Rattle.shared_board.specs.declared.board.Board.{Board}
use Rattle.shared_board.specs.declared.pass.Pass.{Pass}
use Rattle.shared_board.specs.Board.{board_of, problem_of, own_board, known, lines}
use Rattle.shared_board.specs.Calls.{IsSearcher}
use Rattle.shared_board.specs.Onward.{PassGoesOn}

-- the pass is a searcher's, of a board with this rule, and has seen the edition
pub record IsAtWork (board : Board) (rule : Rule) (edition : ℕ) (pass : Pass) : Type 0 where
  pub board_is : own_board pass ≡ board_of board
  pub searcher : IsSearcher (known pass)
  pub problem : searcher.terms.problem ≡ problem_of board
  pub rule_is : searcher.terms.settings.rule ≡ rule
  pub edition_is : edition ≤ newest (known pass).seen

-- calls came between, none of them for a line
pub record KeepsOn (before after : Pass) : Type 0 where
  pub goes : PassGoesOn before after
  pub lines_are : lines after ≡ lines before

-- an entry settled or stopped the edition so, or a newer one is the newest
abbrev pub IsAnswered : ℕ → List Entry → Answer → Type 0
IsAnswered edition seen (answer.Optimal cost) = (tree : List TreeNode)
    × Contains seen (Settled edition (verdict.Optimal cost) tree)
IsAnswered edition seen answer.Infeasible = (tree : List TreeNode)
    × Contains seen (Settled edition verdict.Infeasible tree)
IsAnswered edition seen (answer.Unfinished (Budget spent)) = (bound : ℕ)
    × Contains seen (Stopped edition spent bound)
IsAnswered edition seen (answer.Unfinished (Newer number)) = (number ≡ newest seen)
    × (edition < number)
IsAnswered edition seen answer.Memory = Unit {0}
