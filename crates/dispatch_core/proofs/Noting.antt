-- A sound core with one more entry that takes no change and grows nothing, or with other flags; and its errands at a later entry.
use Rattle.std.proofs.Common.{◌≡◌, ◌∙◌, ℕ, Bool, List, [], ◌∷◌, ◌++◌, length, take, Option, sym, ap, subst, arith}
use Rattle.std.specs.Prelude.{IsSome}
use Rattle.std.proofs.lemmas.List.{append-nil, length_push}
use Rattle.disp_model.specs.declared.entry.Entry.{Entry}
use Rattle.disp_model.specs.declared.fixing.Change.{Change}
use Rattle.disp_model.specs.declared.plan.Event.{Event}
use Rattle.disp_model.specs.declared.problem.Problem.{Problem}
use Rattle.disp_model.specs.Changes.{standing_of}
use Rattle.disp_model.specs.Node.{node_at}
use Rattle.disp_model.specs.History.{change_of, changes_of, newest, plan_after, last_plan, IsBestCost}
use Rattle.disp_model.specs.Legal.{IsLegalEntry}
use Rattle.disp_model.specs.Replay.{Growth, after_entry, grown_by, above_leaf, splits_of}
use Rattle.open_nodes.specs.declared.place.Errand.{Errand}
use Rattle.open_nodes.specs.declared.place.Place.{Place}
use Rattle.open_nodes.specs.States.{State, decisions_of}
use Rattle.tree_growth.specs.Keeping.{AllKeep}
use Rattle.tree_replay.specs.Replayed.{IsReplayed}
use Rattle.history_laws.proofs.Appended.{changes_more, grown_more, spent_more, plan_more, front_stays}
use Rattle.history_laws.proofs.Legality.{legal_more}
use Rattle.dispatch_core.specs.States.{Core, entered, with_nodes, IsErrand, IsExamined, HasFittingCost, IsSound}

-- ---- errands

-- an errand stays one at a later entry, of a place that keeps its bound unless the edition is newer
pub errand_stays : (core : Core) (entry : Entry) (nodes : State) (n : ℕ) (place now : Place) (errand : Errand) → IsErrand core n place errand
    → (errand.edition ≡ newest (core.history ++ entry ∷ []) → now.bound ≡ errand.bound) → IsErrand (with_nodes (entered core entry) nodes) n now errand
errand_stays core entry nodes n place now errand is bound =
    let front : take errand.seen (core.history ++ entry ∷ []) ≡ take errand.seen core.history = front_stays core.history entry errand.seen is.seen in
    record {
      seen = omega (arith, is.seen, length_push core.history entry);
      edition = ap newest front ∙ is.edition;
      best = subst (λ (h : List Entry). IsBestCost core.problem h errand.best) (sym front) is.best;
      leaf = subst (λ (h : List Entry). IsSome (above_leaf n (grown_by core.problem h).places)) (sym front) is.leaf;
      bound = bound;
    }

-- ---- one more entry

-- an entry that takes no change and grows nothing
pub record IsQuiet (problem : Problem) (entry : Entry) : Type 0 where
  pub change : change_of entry ≡ []
  pub growth : (growth : Growth) → after_entry problem growth entry ≡ growth
  pub splits : (number : ℕ) → splits_of number entry ≡ 0

-- where an entry publishes nothing, the last plan's cost fits as it did
pub cost_stays : (history : List Entry) (entry : Entry) → ((before : Option (List Event × ℕ)) → plan_after before entry ≡ before)
    → HasFittingCost history → HasFittingCost (history ++ entry ∷ [])
cost_stays history entry same fits plan cost is = fits plan cost (sym (same (last_plan history)) ∙ sym (plan_more history entry) ∙ is)

module _ (core : Core) (entry : Entry) (quiet : IsQuiet core.problem entry) where
  same_changes : changes_of (core.history ++ entry ∷ []) ≡ changes_of core.history
  same_changes = changes_more core.history entry ∙ ap (λ (l : List Change). changes_of core.history ++ l) quiet.change ∙ append-nil (changes_of core.history)

  same_newest : newest (core.history ++ entry ∷ []) ≡ newest core.history
  same_newest = ap (λ (l : List Change). length l) same_changes

  -- with it the core is as sound as before
  pub entered_sound : IsSound core → IsLegalEntry core.problem core.settings core.history entry → HasFittingCost (core.history ++ entry ∷ []) → IsSound (entered core entry)
  entered_sound sound legal cost = record {
    legal = legal_more core.problem core.settings core.history entry sound.legal legal;
    tree = sound.tree;
    replayed = subst (λ (g : Growth). IsReplayed g core.nodes) (sym (grown_more core.problem core.history entry ∙ quiet.growth (grown_by core.problem core.history))) sound.replayed;
    keep = subst (λ (cs : List Change). AllKeep core.settings.rule core.problem (standing_of cs) core.nodes) (sym same_changes) sound.keep;
    fits = sound.fits;
    edition = sound.edition ∙ sym same_newest;
    covered = λ edition. omega (arith, sound.covered edition, spent_more edition core.history entry, quiet.splits edition);
    cost = cost;
    errands = λ n place errand at out.
        let is = sound.errands n place errand at out in
        errand_stays core entry core.nodes n place place errand is (λ newest_is. is.bound (newest_is ∙ same_newest));
    marks = λ n place edition at examined.
        let is = sound.marks n place edition at examined in
        record {
          within = omega (arith, is.within, same_newest);
          examined = λ newest_is. subst (λ (cs : List Change). IsExamined core.settings.rule (node_at core.problem (standing_of cs) (decisions_of core.nodes.places n)) place.bound)
              (sym same_changes) (is.examined (newest_is ∙ same_newest));
        };
  }

-- ---- flags

-- nothing that is sound speaks of which feeds have ended and which searchers have left
pub flagged_sound : (core : Core) (ended left : List Bool) → IsSound core
    → IsSound (record { problem = core.problem; settings = core.settings; history = core.history; nodes = core.nodes; ended = ended; left = left })
flagged_sound core ended left sound = record {
  legal = sound.legal;
  tree = sound.tree;
  replayed = sound.replayed;
  keep = sound.keep;
  fits = sound.fits;
  edition = sound.edition;
  covered = sound.covered;
  cost = sound.cost;
  errands = λ n place errand at out.
      let is = sound.errands n place errand at out in
      record { seen = is.seen; edition = is.edition; best = is.best; leaf = is.leaf; bound = is.bound };
  marks = λ n place edition at examined.
      let is = sound.marks n place edition at examined in
      record { within = is.within; examined = is.examined };
}
