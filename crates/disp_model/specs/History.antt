-- A history of entries, oldest first: its newest edition, and where the search stands after it.
use Rattle.std.specs.Prelude.{◌≡◌, ◌⊎◌, ℕ, ◌==◌, List, [], ◌∷◌, ◌++◌, length, take, Option, Some, None, MatchOption, if◌then◌else◌}
use Rattle.disp_model.specs.declared.fixing.Fixing.{Fixing}
use Rattle.disp_model.specs.declared.fixing.Change.{Change}
use Rattle.disp_model.specs.declared.plan.Event.{Event}
use Rattle.disp_model.specs.declared.reply.Reply.{Reply}
use Rattle.disp_model.specs.declared.reply.Reply.TheVariants.{Accepted, Known, Refused}
use Rattle.disp_model.specs.declared.tree.Verdict.{Verdict}
use Rattle.disp_model.specs.declared.tree.Verdict.TheVariants.{Optimal, Infeasible}
use Rattle.disp_model.specs.declared.entry.Entry.{Entry}
use Rattle.disp_model.specs.declared.entry.Entry.TheVariants.{Asked, Unread, Shown, Grown, Published, Settled, Stopped}
use Rattle.disp_model.specs.declared.entry.Mark.{Mark}
use Rattle.disp_model.specs.declared.entry.Mark.TheVariants as mark
use Rattle.disp_model.specs.declared.entry.Standing.{Standing}
use Rattle.disp_model.specs.declared.problem.Problem.{Problem}
use Rattle.disp_model.specs.Changes.{standing_of}
use Rattle.disp_model.specs.Valid.{IsValid}

-- the change, where the reply took it
abbrev pub taken : Change → Reply → List Change
taken change (Accepted number) = change ∷ []
taken change (Known number) = []
taken change (Refused why) = []

abbrev pub change_of : Entry → List Change
change_of (Asked feed line change reply) = taken change reply
change_of (Unread feed line why) = []
change_of (Shown feed line standing) = []
change_of (Grown searcher edition seen node splits) = []
change_of (Published edition plan cost) = []
change_of (Settled edition verdict tree) = []
change_of (Stopped edition spent bound) = []

-- the accepted changes, in order; an edition is named by how many they are
abbrev pub changes_of : List Entry → List Change
changes_of [] = []
changes_of (entry ∷ history) = change_of entry ++ changes_of history

-- the number of the newest edition
abbrev pub newest : List Entry → ℕ
newest history = length (changes_of history)

-- the fixings of an edition: those that stand after its changes
abbrev pub fixings_after : ℕ → List Entry → List Fixing
fixings_after number history = standing_of (take number (changes_of history))

-- the fixings of the newest edition
abbrev pub edition_of : List Entry → List Fixing
edition_of history = standing_of (changes_of history)

-- a plan and its cost, of this entry or of the ones before
abbrev pub plan_after : Option (List Event × ℕ) → Entry → Option (List Event × ℕ)
plan_after before (Asked feed line change reply) = before
plan_after before (Unread feed line why) = before
plan_after before (Shown feed line standing) = before
plan_after before (Grown searcher edition seen node splits) = before
plan_after before (Published edition plan cost) = Some (plan, cost)
plan_after before (Settled edition verdict tree) = before
plan_after before (Stopped edition spent bound) = before

abbrev pub last_from : Option (List Event × ℕ) → List Entry → Option (List Event × ℕ)
last_from before [] = before
last_from before (entry ∷ history) = last_from (plan_after before entry) history

-- the last published plan, and its cost
abbrev pub last_plan : List Entry → Option (List Event × ℕ)
last_plan history = last_from None history

-- the best cost: that of the last published plan where it is valid for the newest edition, else
-- none
abbrev pub IsBestCost : Problem → List Entry → Option ℕ → Type 0
IsBestCost problem history best =
    MatchOption (last_plan history) (best ≡ None)
    (λ p. (IsValid problem (edition_of history) p.0 × (best ≡ Some p.1))
    ⊎ ((IsValid problem (edition_of history) p.0 → ⊥) × (best ≡ None)))

-- the mark of a verdict
abbrev pub mark_of_verdict : Verdict → Mark
mark_of_verdict (Optimal cost) = mark.Optimal cost
mark_of_verdict Infeasible = mark.Infeasible

-- the mark of an edition after this entry
abbrev pub mark_after : ℕ → Mark → Entry → Mark
mark_after number before (Asked feed line change reply) = before
mark_after number before (Unread feed line why) = before
mark_after number before (Shown feed line standing) = before
mark_after number before (Grown searcher edition seen node splits) = before
mark_after number before (Published edition plan cost) = before
mark_after number before (Settled edition verdict tree) = if edition == number
    then mark_of_verdict verdict else before
mark_after number before (Stopped edition spent bound) = if edition == number
    then mark.Stopped spent bound else before

abbrev pub mark_from : ℕ → Mark → List Entry → Mark
mark_from number before [] = before
mark_from number before (entry ∷ history) =
    mark_from number (mark_after number before entry) history

-- the mark of an edition: by the last entry that settled or stopped it, else it is worked on
abbrev pub mark_of : ℕ → List Entry → Mark
mark_of number history = mark_from number mark.Working history

-- where the search stands after a history
pub record IsStanding (problem : Problem) (history : List Entry) (standing : Standing)
    : Type 0 where
  pub edition : standing.edition ≡ newest history
  pub best : IsBestCost problem history standing.best
  pub mark : standing.mark ≡ mark_of (newest history) history
