-- What is settled keeps the core sound.
use Rattle.std.proofs.Common.{◌≡◌, ℕ, ◌≤◌, inl, inr, List, [], ◌∷◌, refl, sym, ap, subst}
use Rattle.std.specs.Prelude.{All, Option, Some, None, MatchOption, ◌⊎◌, slice_get, option_to_list}
use Rattle.std.proofs.lemmas.List.Elements.{All-nil, All-append, All-from_recursion}
use Rattle.std.proofs.lemmas.Option.{none-some, same_Some, slice_get_within, get_or_from_slice_get}
use Rattle.disp_model.specs.declared.entry.Entry.{Entry}
use Rattle.disp_model.specs.declared.entry.Entry.TheVariants.{Settled}
use Rattle.disp_model.specs.declared.fixing.Fixing.{Fixing}
use Rattle.disp_model.specs.declared.limits.TheConstants.{GREATEST_COST}
use Rattle.disp_model.specs.declared.plan.Event.{Event}
use Rattle.disp_model.specs.declared.problem.Problem.{Problem}
use Rattle.disp_model.specs.declared.tree.TreeNode.{TreeNode}
use Rattle.disp_model.specs.declared.tree.Verdict.{Verdict}
use Rattle.disp_model.specs.declared.tree.Verdict.TheVariants.{Optimal, Infeasible}
use Rattle.disp_model.specs.Trees.{Accepts, FitsNode, FitsVerdict}
use Rattle.disp_model.specs.Valid.{IsValid}
use Rattle.disp_model.specs.History.{edition_of, last_plan, IsBestCost}
use Rattle.disp_model.specs.Legal.{IsVerdictOf, IsLegalVerdict}
use Rattle.disp_model.specs.Replay.{grown_by}
use Rattle.open_nodes.specs.declared.place.Place.{Place}
use Rattle.open_nodes.specs.Filled.{AllHold, verdict_for}
use Rattle.open_nodes.specs.Preorder.{preorder}
use Rattle.open_nodes.specs.Shown.{shown_at, shown_by, all_shown, tree_of}
use Rattle.open_nodes.proofs.Accepting.{tree_accepted}
use Rattle.open_nodes.proofs.TheFirst.{none_wanted}
use Rattle.tree_replay.proofs.Telling.{tells_branches}
use Rattle.dispatch_core.specs.declared.event.CoreReply.{CoreReply}
use Rattle.dispatch_core.specs.declared.event.CoreReply.TheVariants as reply
use Rattle.dispatch_core.specs.Replies.{IsCurrent, IsRipe, IsSettle}
use Rattle.dispatch_core.specs.States.{Core, entered, HasFittingCost, IsSound}
use Rattle.dispatch_core.proofs.Noting.{cost_stays, entered_sound}
use Rattle.dispatch_core.proofs.Publishing.{current_works}

-- ---- what is shown can be written

shown_fits : (kept : List TreeNode) (place : Option Place) → All FitsNode kept → All FitsNode (option_to_list (shown_by kept place))
shown_fits kept None fits = All-nil FitsNode
shown_fits kept (Some place) fits = by (slice_get kept place.shows) refl
  where
    by : (found : Option TreeNode) → slice_get kept place.shows ≡ found → All FitsNode (option_to_list found)
    by None e = All-nil FitsNode
    by (Some node) e =
        let here : FitsNode node = subst FitsNode (get_or_from_slice_get kept place.shows node node e) (fits place.shows node (slice_get_within kept place.shows node e)) in
        All-from_recursion FitsNode (node ∷ []) (here, tt)

-- so can all that places show
all_fit : (places : List Place) (kept : List TreeNode) (numbers : List ℕ) → All FitsNode kept → All FitsNode (all_shown places kept numbers)
all_fit places kept [] fits = All-nil FitsNode
all_fit places kept (n ∷ numbers) fits =
    All-append FitsNode (option_to_list (shown_at places kept n)) (all_shown places kept numbers) (shown_fits kept (slice_get places n) fits) (all_fit places kept numbers fits)

-- ---- the verdict

-- the best cost is that of the last plan
best_fits : (problem : Problem) (history : List Entry) (cost : ℕ) → HasFittingCost history → IsBestCost problem history (Some cost) → cost ≤ GREATEST_COST
best_fits problem history cost fits is = by (last_plan history) refl is
  where
    by : (last : Option (List Event × ℕ)) → last_plan history ≡ last
        → MatchOption last (Some cost ≡ None) (λ p. (IsValid problem (edition_of history) p.0 × (Some cost ≡ Some p.1)) ⊎ ((IsValid problem (edition_of history) p.0 → ⊥) × (Some cost ≡ None)))
        → cost ≤ GREATEST_COST
    by None e found = absurd (none-some cost (sym found))
    by (Some p) e (inl (valid, same)) = subst (λ (n : ℕ). n ≤ GREATEST_COST) (sym (same_Some cost p.1 same)) (fits p.0 p.1 e)
    by (Some p) e (inr (not, none)) = absurd (none-some cost (sym none))

verdict_fits : (problem : Problem) (history : List Entry) (best : Option ℕ) (verdict : Verdict) → HasFittingCost history → IsBestCost problem history best → IsVerdictOf best verdict
    → FitsVerdict verdict
verdict_fits problem history best (Optimal cost) fits best_is is = best_fits problem history cost fits (subst (IsBestCost problem history) is best_is)
verdict_fits problem history best Infeasible fits best_is is = tt

same_verdict : (best : Option ℕ) (verdict : Verdict) → IsVerdictOf best verdict → verdict_for best ≡ verdict
same_verdict best (Optimal cost) is = ap verdict_for is
same_verdict best Infeasible is = ap verdict_for is

-- ---- settling

settled_sound : (core : Core) (edition : ℕ) (verdict : Verdict) → IsSound core → IsCurrent core edition → IsRipe core verdict
    → IsSound (entered core (Settled edition verdict (tree_of core.nodes)))
settled_sound core edition verdict sound current ripe =
    let fixings : List Fixing = edition_of core.history in
    let hold : AllHold core.problem fixings core.nodes.places core.nodes.kept = λ n place leaf at shown. (sound.keep n place leaf at shown).holds in
    let none = (none_wanted core.problem core.nodes ripe.best sound.tree).0 ripe.none in
    let legal : IsLegalVerdict core.problem core.history edition verdict (tree_of core.nodes) = record {
      working = current_works core edition current;
      accepted = subst (λ (v : Verdict). Accepts core.problem fixings v (tree_of core.nodes)) (same_verdict ripe.best verdict ripe.verdict_is)
          (tree_accepted core.problem fixings core.nodes ripe.best sound.tree hold none);
      verdict_fits = verdict_fits core.problem core.history ripe.best verdict sound.cost ripe.best_is ripe.verdict_is;
      tree_fits = all_fit core.nodes.places core.nodes.kept (preorder core.nodes.places) sound.fits;
      branches = tells_branches core.problem (grown_by core.problem core.history) core.nodes sound.tree sound.replayed;
      best = ripe.best;
      best_is = ripe.best_is;
      verdict_is = ripe.verdict_is;
    } in
    entered_sound core (Settled edition verdict (tree_of core.nodes)) (record { change = refl; growth = λ g. refl; splits = λ n. refl }) sound legal
    (cost_stays core.history (Settled edition verdict (tree_of core.nodes)) (λ b. refl) sound.cost)

pub settles_sound : (core : Core) (edition : ℕ) (told : CoreReply) (after : Core) → IsSound core → IsSettle core edition told after → IsSound after
settles_sound core edition (reply.StillOpen node bound) after sound is = subst IsSound (sym is.2) sound
settles_sound core edition (reply.Settled verdict) after sound is = subst IsSound (sym is.2) (settled_sound core edition verdict sound is.0 is.1)
settles_sound core edition _ after sound is = subst IsSound (sym is.1) sound
