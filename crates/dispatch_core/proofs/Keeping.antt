-- What the core keeps beside its state, behind one more entry.
use Rattle.std.proofs.Common.{◌≡◌, ◌∙◌, ℕ, ◌+◌, Bool, List, [], ◌∷◌, ◌++◌, length, Option, Some, None, refl, sym, ap, subst, arith}
use Rattle.std.proofs.lemmas.List.{append-nil, length_push}
use Rattle.disp_model.specs.declared.entry.Entry.{Entry}
use Rattle.disp_model.specs.declared.entry.Entry.TheVariants.{Asked}
use Rattle.disp_model.specs.declared.entry.Mark.{Mark}
use Rattle.disp_model.specs.declared.entry.Mark.TheVariants.{Working}
use Rattle.disp_model.specs.declared.fixing.Change.{Change}
use Rattle.disp_model.specs.declared.fixing.Fixing.{Fixing}
use Rattle.disp_model.specs.declared.plan.Event.{Event}
use Rattle.disp_model.specs.declared.problem.Problem.{Problem}
use Rattle.disp_model.specs.declared.reply.Reply.TheVariants.{Accepted}
use Rattle.disp_model.specs.Changes.{standing_of}
use Rattle.disp_model.specs.History.{change_of, changes_of, newest, edition_of, plan_after, last_plan, IsBestCost, mark_after, mark_of}
use Rattle.disp_model.specs.Legal.{IsLegal}
use Rattle.disp_model.specs.Replay.{splits_of, spent_on}
use Rattle.fixing_editions.specs.Edition.{Edition, with_changes}
use Rattle.history_laws.proofs.Appended.{changes_more, spent_more, mark_more, plan_more}
use Rattle.history_laws.proofs.Legality.{new_number}
use Rattle.open_nodes.specs.States.{State}
use Rattle.train_orders.proofs.Places.{get_kept}
use Rattle.dispatch_core.specs.Kept.{IsCostUnder, IsLastEntry, AreCountsKept}
use Rattle.dispatch_core.specs.States.{Core, entered, with_nodes, IsSound}
use Rattle.dispatch_core.proofs.Noting.{flagged_sound}

-- an entry that takes no change, publishes nothing, closes no edition and grows nothing
pub record IsSilent (entry : Entry) : Type 0 where
  pub change : change_of entry ≡ []
  pub plan : (before : Option (List Event × ℕ)) → plan_after before entry ≡ before
  pub mark : (number : ℕ) (before : Mark) → mark_after number before entry ≡ before
  pub splits : (number : ℕ) → splits_of number entry ≡ 0

-- where an entry publishes nothing, the last plan stands where it stood
pub last_stays : (history : List Entry) (entry : Entry) (last : Option ℕ) → ((before : Option (List Event × ℕ)) → plan_after before entry ≡ before)
    → IsLastEntry history last → IsLastEntry (history ++ entry ∷ []) last
last_stays history entry None same is = plan_more history entry ∙ same (last_plan history) ∙ is
last_stays history entry (Some place) same is = record {
  edition = is.edition;
  plan = is.plan;
  cost = is.cost;
  there = get_kept history (entry ∷ []) _ place is.there;
  last = plan_more history entry ∙ same (last_plan history) ∙ is.last;
}

-- so the best cost is that of the last plan before, under the fixings behind
pub best_behind : (problem : Problem) (history : List Entry) (entry : Entry) (fixings : List Fixing) (best : Option ℕ) → ((before : Option (List Event × ℕ)) → plan_after before entry ≡ before)
    → edition_of (history ++ entry ∷ []) ≡ fixings → IsCostUnder problem fixings (last_plan history) best → IsBestCost problem (history ++ entry ∷ []) best
best_behind problem history entry fixings best same edition is =
    subst (λ (o : Option (List Event × ℕ)). IsCostUnder problem (edition_of (history ++ entry ∷ [])) o best) (sym (plan_more history entry ∙ same (last_plan history)))
    (subst (λ (fs : List Fixing). IsCostUnder problem fs (last_plan history) best) (sym edition) is)

module _ (core : Core) (edition : Edition) (best : Option ℕ) (mark : Mark) (spent : ℕ) (last : Option ℕ) (kept : AreCountsKept core edition best mark spent last) where
  -- behind a silent entry all is as it was
  pub kept_silent : (entry : Entry) → IsSilent entry → AreCountsKept (entered core entry) edition best mark spent last
  kept_silent entry silent =
      let changes : changes_of (core.history ++ entry ∷ []) ≡ changes_of core.history =
      changes_more core.history entry ∙ ap (λ (l : List Change). changes_of core.history ++ l) silent.change ∙ append-nil (changes_of core.history) in
      let number : newest (core.history ++ entry ∷ []) ≡ newest core.history = ap (λ (l : List Change). length l) changes in
      record {
        problem = kept.problem;
        changes = kept.changes ∙ sym changes;
        best_is = best_behind core.problem core.history entry (edition_of core.history) best silent.plan (ap standing_of changes) kept.best_is;
        mark_is = kept.mark_is ∙ sym (ap (λ (n : ℕ). mark_of n (core.history ++ entry ∷ [])) number ∙ mark_more (newest core.history) core.history entry
            ∙ silent.mark (newest core.history) (mark_of (newest core.history) core.history));
        spent_is = kept.spent_is ∙ sym (ap (λ (n : ℕ). spent_on n (core.history ++ entry ∷ [])) number
            ∙ (omega (arith, spent_more (newest core.history) core.history entry, silent.splits (newest core.history))));
        last_is = last_stays core.history entry last silent.plan kept.last_is;
      }

  -- with other flags too
  pub kept_flagged : (ended left : List Bool)
      → AreCountsKept (record { problem = core.problem; settings = core.settings; history = core.history; nodes = core.nodes; ended = ended; left = left }) edition best mark spent last
  kept_flagged ended left = record { problem = kept.problem; changes = kept.changes; best_is = kept.best_is; mark_is = kept.mark_is; spent_is = kept.spent_is; last_is = kept.last_is }

  -- behind an accepted change the edition is new, and nothing is spent on it
  pub kept_accepted : (feed line : ℕ) (change : Change) (number : ℕ) (nodes : State) (later : Edition) (cost : Option ℕ) → IsLegal core.problem core.settings core.history
      → later ≡ with_changes edition (edition.changes ++ change ∷ []) → IsCostUnder core.problem (standing_of (changes_of core.history ++ change ∷ [])) (last_plan core.history) cost
      → AreCountsKept (with_nodes (entered core (Asked feed line change (Accepted number))) nodes) later cost Working 0 last
  kept_accepted feed line change number nodes later cost legal later_is cost_is =
      let asked : Entry = Asked feed line change (Accepted number) in
      let changes : changes_of (core.history ++ asked ∷ []) ≡ changes_of core.history ++ change ∷ [] = changes_more core.history asked in
      let behind : newest (core.history ++ asked ∷ []) ≡ newest core.history + 1 = omega (arith, ap (λ (l : List Change). length l) changes, length_push (changes_of core.history) change) in
      let fresh = new_number core.problem core.settings core.history (newest (core.history ++ asked ∷ [])) legal (omega (arith, behind)) in
      record {
        problem = ap (λ (e : Edition). e.problem) later_is ∙ kept.problem;
        changes = ap (λ (e : Edition). e.changes) later_is ∙ ap (λ (l : List Change). l ++ change ∷ []) kept.changes ∙ sym changes;
        best_is = best_behind core.problem core.history asked (standing_of (changes_of core.history ++ change ∷ [])) cost (λ before. refl) (ap standing_of changes) cost_is;
        mark_is = sym (mark_more (newest (core.history ++ asked ∷ [])) core.history asked ∙ fresh.working);
        spent_is = omega (arith, spent_more (newest (core.history ++ asked ∷ [])) core.history asked, fresh.unspent);
        last_is = last_stays core.history asked last (λ before. refl) kept.last_is;
      }

-- ---- with what is sound

-- what is kept is right, and the core sound
abbrev pub IsWhole : Core → Edition → Option ℕ → Mark → ℕ → Option ℕ → Type 0
IsWhole core edition best mark spent last = AreCountsKept core edition best mark spent last × IsSound core

abbrev pub with_history : Core → List Entry → Core
with_history core history = record { problem = core.problem; settings = core.settings; history = history; nodes = core.nodes; ended = core.ended; left = core.left }

module _ (core : Core) (edition : Edition) (best : Option ℕ) (mark : Mark) (spent : ℕ) (last : Option ℕ) (whole : IsWhole core edition best mark spent last) where
  -- behind a silent entry that is legal
  pub silent_whole : (later : List Entry) (entry : Entry) → IsSilent entry → IsSound (entered core entry) → later ≡ core.history ++ entry ∷ [] → IsWhole (with_history core later) edition best mark spent last
  silent_whole later entry silent sound is = subst (λ (h : List Entry). IsWhole (with_history core h) edition best mark spent last) (sym is)
      (kept_silent core edition best mark spent last whole.0 entry silent, sound)

  -- with other flags
  pub flagged_whole : (ended left : List Bool)
      → IsWhole (record { problem = core.problem; settings = core.settings; history = core.history; nodes = core.nodes; ended = ended; left = left }) edition best mark spent last
  flagged_whole ended left = (kept_flagged core edition best mark spent last whole.0 ended left, flagged_sound core ended left whole.1)
