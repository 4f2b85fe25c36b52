-- What is read off a history with one more entry.
use Rattle.std.proofs.Common.{◌≡◌, ◌∙◌, ℕ, ◌+◌, ◌≤◌, List, [], ◌∷◌, ◌++◌, length, take, drop, Option, refl, sym, ap, arith}
use Rattle.std.proofs.lemmas.List.{append_assoc, append-nil, take-append-le, length-append, take-append-drop}
use Rattle.disp_model.specs.declared.fixing.Change.{Change}
use Rattle.disp_model.specs.declared.entry.Entry.{Entry}
use Rattle.disp_model.specs.declared.entry.Mark.{Mark}
use Rattle.disp_model.specs.declared.plan.Event.{Event}
use Rattle.disp_model.specs.declared.problem.Problem.{Problem}
use Rattle.disp_model.specs.Changes.{standing_of}
use Rattle.disp_model.specs.History.{change_of, changes_of, newest, fixings_after, plan_after, last_from, last_plan, mark_after, mark_from, mark_of}
use Rattle.disp_model.specs.Replay.{Growth, after_entry, grown_from, grown_by, one_leaf, splits_of, spent_on}

-- two histories, one after the other
pub changes_append : (one other : List Entry) → changes_of (one ++ other) ≡ changes_of one ++ changes_of other
changes_append [] other = refl
changes_append (entry ∷ one) other = ap (λ l. change_of entry ++ l) (changes_append one other) ∙ sym (append_assoc (change_of entry) (changes_of one) (changes_of other))

pub changes_more : (history : List Entry) (entry : Entry) → changes_of (history ++ entry ∷ []) ≡ changes_of history ++ change_of entry
changes_more history entry = changes_append history (entry ∷ []) ∙ ap (λ l. changes_of history ++ l) (append-nil (change_of entry))

grown_more_from : (problem : Problem) (growth : Growth) (history : List Entry) (entry : Entry) → grown_from problem growth (history ++ entry ∷ []) ≡ after_entry problem (grown_from problem growth history) entry
grown_more_from problem growth [] entry = refl
grown_more_from problem growth (first ∷ history) entry = grown_more_from problem (after_entry problem growth first) history entry

pub grown_more : (problem : Problem) (history : List Entry) (entry : Entry) → grown_by problem (history ++ entry ∷ []) ≡ after_entry problem (grown_by problem history) entry
grown_more problem history entry = grown_more_from problem one_leaf history entry

pub spent_more : (number : ℕ) (history : List Entry) (entry : Entry) → spent_on number (history ++ entry ∷ []) ≡ spent_on number history + splits_of number entry
spent_more number [] entry = omega arith
spent_more number (first ∷ history) entry = let later = spent_more number history entry in omega (arith, later)

mark_more_from : (number : ℕ) (before : Mark) (history : List Entry) (entry : Entry) → mark_from number before (history ++ entry ∷ []) ≡ mark_after number (mark_from number before history) entry
mark_more_from number before [] entry = refl
mark_more_from number before (first ∷ history) entry = mark_more_from number (mark_after number before first) history entry

pub mark_more : (number : ℕ) (history : List Entry) (entry : Entry) → mark_of number (history ++ entry ∷ []) ≡ mark_after number (mark_of number history) entry
mark_more number history entry = mark_more_from number _ history entry

plan_more_from : (before : Option (List Event × ℕ)) (history : List Entry) (entry : Entry) → last_from before (history ++ entry ∷ []) ≡ plan_after (last_from before history) entry
plan_more_from before [] entry = refl
plan_more_from before (first ∷ history) entry = plan_more_from (plan_after before first) history entry

pub plan_more : (history : List Entry) (entry : Entry) → last_plan (history ++ entry ∷ []) ≡ plan_after (last_plan history) entry
plan_more history entry = plan_more_from _ history entry

-- ---- fronts

pub front_stays : (history : List Entry) (entry : Entry) (seen : ℕ) → seen ≤ length history → take seen (history ++ entry ∷ []) ≡ take seen history
front_stays history entry seen within = take-append-le seen history (entry ∷ []) within

pub fixings_stay : (history : List Entry) (entry : Entry) (number : ℕ) → number ≤ newest history → fixings_after number (history ++ entry ∷ []) ≡ fixings_after number history
fixings_stay history entry number within = ap (λ (l : List Change). standing_of (take number l)) (changes_more history entry) ∙ ap standing_of (take-append-le number (changes_of history) (change_of entry) within)

-- the changes of a front are a front of the changes
pub front_changes : (history : List Entry) (seen : ℕ) → changes_of history ≡ changes_of (take seen history) ++ changes_of (drop seen history)
front_changes history seen = ap changes_of (sym (take-append-drop seen history)) ∙ changes_append (take seen history) (drop seen history)

pub newest_front : (history : List Entry) (seen : ℕ) → newest (take seen history) ≤ newest history
newest_front history seen = omega (arith, ap (λ (l : List Change). length l) (front_changes history seen), length-append (changes_of (take seen history)) (changes_of (drop seen history)))

pub fixings_then : (history : List Entry) (seen : ℕ) → fixings_after (newest (take seen history)) history ≡ fixings_after (newest (take seen history)) (take seen history)
fixings_then history seen = ap (λ (l : List Change). standing_of (take (newest (take seen history)) l)) (front_changes history seen)
    ∙ ap standing_of (take-append-le (newest (take seen history)) (changes_of (take seen history)) (changes_of (drop seen history)) (omega arith))
