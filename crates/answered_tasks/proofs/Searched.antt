-- A search of what was asked is the answer.
use Rattle.std.proofs.Common.{◌≡◌, ◌∙◌, ℕ, List, [], Option, Some, None, refl, sym, ap, subst}
use Rattle.disp_model.specs.declared.entry.Entry.{Entry}
use Rattle.disp_model.specs.declared.entry.Mark.{Mark}
use Rattle.disp_model.specs.declared.entry.Standing.{Standing}
use Rattle.disp_model.specs.declared.fixing.Change.{Change}
use Rattle.disp_model.specs.declared.problem.Problem.{Problem}
use Rattle.disp_model.specs.declared.settings.Settings.{Settings}
use Rattle.disp_model.specs.History.{edition_of, newest, last_plan, IsStanding}
use Rattle.command_words.specs.declared.task.SolveTask.{SolveTask}
use Rattle.command_words.specs.Settings.{settings_of}
use Rattle.answered_tasks.specs.declared.outcome.Answer.{Answer}
use Rattle.solved_problems.specs.Promised.{Promises}
use Rattle.solved_problems.specs.Solved.{IsSearched, MayBeAsked}
use Rattle.solved_problems.proofs.Marks.{marks_say}
use Rattle.disp_outside.specs.States.{Holdings}
use Rattle.answered_tasks.specs.Files.{AreAsked}
use Rattle.answered_tasks.specs.Answers.{status_of_mark, best_plan, puts_of, IsFinished, IsSolved}
use Rattle.answered_tasks.specs.Settled.{settled_tree, ShowsMark}
use Rattle.answered_tasks.proofs.Shown.{tree_shows}
use Rattle.answered_tasks.specs.Texts.{answer_lines}

-- what lines ask for may be asked
pub may_be_asked : (holds : Holdings) (problem : Problem) (name : Option (List ℕ))
    (asked : List Change) → AreAsked holds problem name asked → MayBeAsked problem [] asked
may_be_asked holds problem None asked none =
    subst (λ (l : List Change). MayBeAsked problem [] l) (sym none) ([], refl)
may_be_asked holds problem (Some name) asked file = file.taken

-- the mark of where the search stands promises what it says
pub standing_says : (problem : Problem) (settings : Settings) (asked : List Change)
    (history : List Entry) (standing : Standing) → IsSearched problem settings asked history
    → IsStanding problem history standing
    → Promises problem settings (edition_of history) standing.mark
standing_says problem settings asked history standing searched stands =
    subst (Promises problem settings (edition_of history)) (sym stands.mark)
    (marks_say problem settings history searched.legal searched.closed)

-- the tree of the edition where the search stands shows what the mark says
pub standing_shows : (problem : Problem) (settings : Settings) (asked : List Change)
    (history : List Entry) (standing : Standing) → IsSearched problem settings asked history
    → IsStanding problem history standing
    → ShowsMark problem (edition_of history) standing.mark (settled_tree standing.edition history)
standing_shows problem settings asked history standing searched stands =
    subst (λ (n : ℕ). ShowsMark problem (edition_of history) standing.mark (settled_tree n history))
    (sym stands.edition)
    (subst (λ (m : Mark). ShowsMark problem (edition_of history) m
    (settled_tree (newest history) history)) (sym stands.mark)
    (tree_shows problem settings history searched.legal))

-- a history that was searched is finished
pub finished_is : (problem : Problem) (settings : Settings) (asked : List Change)
    (history : List Entry) (standing : Standing) → IsSearched problem settings asked history
    → IsStanding problem history standing → IsFinished problem settings asked history standing
finished_is problem settings asked history standing searched stands = record {
  searched = searched;
  stands = stands;
  promise = standing_says problem settings asked history standing searched stands;
  shown = standing_shows problem settings asked history standing searched stands;
}

-- the answer that is made of a history that was searched
pub solved_is : (problem : Problem) (task : SolveTask) (asked : List Change)
    (history : List Entry) (standing : Standing) (answer : Answer)
    → IsSearched problem (settings_of task) asked history → IsStanding problem history standing
    → answer.journal ≡ history → answer.status ≡ status_of_mark standing.mark
    → answer.lines ≡ answer_lines standing (best_plan standing (last_plan history)) standing.mark
    → answer.puts ≡ puts_of task standing.edition (best_plan standing (last_plan history))
    (settled_tree standing.edition history)
    → IsSolved problem task asked answer
solved_is problem task asked history standing answer searched stands journal status lines puts =
    record {
      standing = standing;
      finished = subst (λ (h : List Entry). IsFinished problem (settings_of task) asked h standing)
          (sym journal) (finished_is problem (settings_of task) asked history standing searched stands);
      status = status;
      lines = lines ∙ ap (λ (h : List Entry). answer_lines standing
          (best_plan standing (last_plan h)) standing.mark) (sym journal);
      puts = puts ∙ ap (λ (h : List Entry). puts_of task standing.edition
          (best_plan standing (last_plan h)) (settled_tree standing.edition h)) (sym journal);
    }
