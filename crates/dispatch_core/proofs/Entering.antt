-- One more entry that changes no edition: errands and marks stay what they were.
use Rattle.std.proofs.Common.{◌≡◌, ◌∙◌, ℕ, List, [], ◌∷◌, ◌++◌, length, sym, ap, subst, arith}
use Rattle.std.specs.Prelude.{IsSome}
use Rattle.std.proofs.lemmas.List.{append-nil, length-append}
use Rattle.disp_model.specs.declared.decision.Decision.{Decision}
use Rattle.disp_model.specs.declared.entry.Entry.{Entry}
use Rattle.disp_model.specs.declared.fixing.Change.{Change}
use Rattle.disp_model.specs.declared.fixing.Fixing.{Fixing}
use Rattle.disp_model.specs.Changes.{standing_of}
use Rattle.disp_model.specs.History.{change_of, changes_of, newest, edition_of, IsBestCost}
use Rattle.disp_model.specs.Node.{node_at}
use Rattle.disp_model.specs.Replay.{grown_by, above_leaf}
use Rattle.open_nodes.specs.declared.place.Place.{Place}
use Rattle.open_nodes.specs.declared.place.Errand.{Errand}
use Rattle.open_nodes.specs.States.{State, decisions_of}
use Rattle.history_laws.proofs.Appended.{changes_more, front_stays}
use Rattle.dispatch_core.specs.States.{Core, entered, with_nodes, IsErrand, IsExamined, IsPlaceMarked}

-- the accepted changes are the same
pub same_changes : (history : List Entry) (entry : Entry) → change_of entry ≡ [] → changes_of (history ++ entry ∷ []) ≡ changes_of history
same_changes history entry none = changes_more history entry ∙ ap (λ (l : List Change). changes_of history ++ l) none ∙ append-nil (changes_of history)

module _ (core : Core) (entry : Entry) (nodes : State) (none : change_of entry ≡ []) where
  pub same_newest : newest (core.history ++ entry ∷ []) ≡ newest core.history
  same_newest = ap (λ (l : List Change). length l) (same_changes core.history entry none)

  pub same_fixings : edition_of (core.history ++ entry ∷ []) ≡ edition_of core.history
  same_fixings = ap standing_of (same_changes core.history entry none)

  pub errand_behind : (n : ℕ) (place : Place) (errand : Errand) → IsErrand core n place errand → IsErrand (with_nodes (entered core entry) nodes) n place errand
  errand_behind n place errand is =
      let front = front_stays core.history entry errand.seen is.seen in
      record {
        seen = omega (arith, is.seen, length-append core.history (entry ∷ []));
        edition = ap (λ (h : List Entry). newest h) front ∙ is.edition;
        best = subst (λ (h : List Entry). IsBestCost core.problem h errand.best) (sym front) is.best;
        leaf = subst (λ (h : List Entry). IsSome (above_leaf n (grown_by core.problem h).places)) (sym front) is.leaf;
        bound = λ newest_one. is.bound (newest_one ∙ same_newest);
      }

  pub mark_behind : (n : ℕ) (place : Place) (edition : ℕ) → decisions_of nodes.places n ≡ decisions_of core.nodes.places n
      → IsPlaceMarked core n place edition → IsPlaceMarked (with_nodes (entered core entry) nodes) n place edition
  mark_behind n place edition same is = record {
    within = omega (arith, is.within, same_newest);
    examined = λ newest_one. subst (λ (ds : List Decision). IsExamined core.settings.rule (node_at core.problem (edition_of (core.history ++ entry ∷ [])) ds) place.bound) (sym same)
        (subst (λ (fs : List Fixing). IsExamined core.settings.rule (node_at core.problem fs (decisions_of core.nodes.places n)) place.bound) (sym same_fixings)
        (is.examined (newest_one ∙ same_newest)));
  }
