-- What the core keeps beside its state, where there is one more entry that takes no change and publishes nothing; and what a stop needs.
use Rattle.std.proofs.Common.{◌≡◌, ◌∙◌, ℕ, zero, suc, ◌<◌, ◌≤◌, Bool, true, false, List, [], ◌∷◌, ◌++◌, length, Option, Some, None, refl, sym, ap, subst, inl, inr, arith}
use Rattle.std.specs.Prelude.{◌⊎◌, ◌==◌, slice_get, MatchOption, if◌then◌else◌}
use Rattle.std.proofs.lemmas.Option.{none-some, same_Some}
use Rattle.std.proofs.lemmas.Bool.{eqb-false}
use Rattle.disp_model.specs.declared.fixing.Fixing.{Fixing}
use Rattle.disp_model.specs.declared.plan.Event.{Event}
use Rattle.disp_model.specs.declared.problem.Problem.{Problem}
use Rattle.disp_model.specs.declared.entry.Entry.{Entry}
use Rattle.disp_model.specs.declared.entry.Entry.TheVariants.{Published, Settled, Stopped}
use Rattle.disp_model.specs.declared.entry.Mark.{Mark}
use Rattle.disp_model.specs.declared.entry.Mark.TheVariants as mark
use Rattle.disp_model.specs.declared.tree.TreeNode.{TreeNode}
use Rattle.disp_model.specs.declared.tree.Verdict.{Verdict}
use Rattle.disp_model.specs.Cost.{cost_of}
use Rattle.disp_model.specs.Valid.{IsValid}
use Rattle.disp_model.specs.Legal.{IsVerdictOf}
use Rattle.disp_model.specs.Replay.{splits_of, spent_on, IsBelowBest}
use Rattle.disp_model.specs.History.{change_of, edition_of, newest, plan_after, last_plan, mark_of_verdict, mark_after, mark_of, IsBestCost}
use Rattle.fixing_editions.specs.Edition.{Edition}
use Rattle.train_orders.proofs.Places.{get_kept, get_last}
use Rattle.history_laws.proofs.Appended.{spent_more, mark_more, plan_more}
use Rattle.open_nodes.specs.declared.place.Place.{Place}
use Rattle.open_nodes.specs.declared.place.Kind.TheVariants.{Open}
use Rattle.open_nodes.specs.States.{IsBoundBelow, IsWanted, AreNotOpen, IsLeastBound}
use Rattle.open_nodes.specs.Preorder.{IsFirstSought, preorder}
use Rattle.open_nodes.specs.Filled.{verdict_for}
use Rattle.dispatch_core.specs.States.{Core, IsSound, entered}
use Rattle.dispatch_core.specs.Replies.{IsBetter, IsRipe, IsStopBound}
use Rattle.dispatch_core.specs.Kept.{IsLastEntry, AreCountsKept}
use Rattle.dispatch_core.proofs.Entering.{same_changes, same_newest, same_fixings}
use Rattle.dispatch_core.proofs.Stopping.{have_bounds}

last_stays : (history : List Entry) (entry : Entry) (last : Option ℕ) → last_plan (history ++ entry ∷ []) ≡ last_plan history → IsLastEntry history last → IsLastEntry (history ++ entry ∷ []) last
last_stays history entry None same is = same ∙ is
last_stays history entry (Some place) same is = record {
  edition = is.edition;
  plan = is.plan;
  cost = is.cost;
  there = get_kept history (entry ∷ []) (Published is.edition is.plan is.cost) place is.there;
  last = same ∙ is.last;
}

-- the best cost, by the last plan and the fixings
abbrev BestBy : Problem → Option ℕ → List Fixing → Option (List Event × ℕ) → Type 0
BestBy problem best fixings last =
    MatchOption last (best ≡ None) (λ p. (IsValid problem fixings p.0 × (best ≡ Some p.1)) ⊎ ((IsValid problem fixings p.0 → ⊥) × (best ≡ None)))

best_stays : (problem : Problem) (history longer : List Entry) (best : Option ℕ) → edition_of longer ≡ edition_of history → last_plan longer ≡ last_plan history → IsBestCost problem history best → IsBestCost problem longer best
best_stays problem history longer best fixings plan is =
    subst (λ (f : List Fixing). BestBy problem best f (last_plan longer)) (sym fixings) (subst (BestBy problem best (edition_of history)) (sym plan) is)

pub quiet_kept : (core : Core) (edition : Edition) (best : Option ℕ) (before later : Mark) (spent : ℕ) (last : Option ℕ) (entry : Entry)
    → change_of entry ≡ [] → ((plan : Option (List Event × ℕ)) → plan_after plan entry ≡ plan) → ((n : ℕ) → splits_of n entry ≡ 0)
    → later ≡ mark_after (newest core.history) before entry → AreCountsKept core edition best before spent last → AreCountsKept (entered core entry) edition best later spent last
quiet_kept core edition best before later spent last entry none same splits marked kept =
    let plan : last_plan (core.history ++ entry ∷ []) ≡ last_plan core.history = plan_more core.history entry ∙ same (last_plan core.history) in
    let number : newest (core.history ++ entry ∷ []) ≡ newest core.history = same_newest core entry core.nodes none in
    record {
      problem = kept.problem;
      changes = kept.changes ∙ sym (same_changes core.history entry none);
      best_is = best_stays core.problem core.history (core.history ++ entry ∷ []) best (same_fixings core entry core.nodes none) plan kept.best_is;
      mark_is = marked ∙ ap (λ m. mark_after (newest core.history) m entry) kept.mark_is ∙ sym (mark_more (newest core.history) core.history entry) ∙ ap (λ n. mark_of n (core.history ++ entry ∷ [])) (sym number);
      spent_is = rw number (omega (arith, kept.spent_is, spent_more (newest core.history) core.history entry, splits (newest core.history)));
      last_is = last_stays core.history entry last plan kept.last_is;
    }

-- of the edition of its own number
own : {X : Type 0} (n : ℕ) (x y : X) → (if n == n then x else y) ≡ x
own n x y = by (n == n) refl
  where
    by : (b : Bool) → (n == n) ≡ b → (if b then x else y) ≡ x
    by true is = refl
    by false is = absurd (eqb-false n n is refl)

pub settled_kept : (core : Core) (edition : Edition) (best : Option ℕ) (before : Mark) (spent : ℕ) (last : Option ℕ) (named : ℕ) (verdict : Verdict) (tree : List TreeNode)
    → named ≡ newest core.history → AreCountsKept core edition best before spent last → AreCountsKept (entered core (Settled named verdict tree)) edition best (mark_of_verdict verdict) spent last
settled_kept core edition best before spent last named verdict tree is kept =
    quiet_kept core edition best before (mark_of_verdict verdict) spent last (Settled named verdict tree) refl (λ plan. refl) (λ n. refl) (rw is (sym (own (newest core.history) (mark_of_verdict verdict) before))) kept

pub stopped_kept : (core : Core) (edition : Edition) (best : Option ℕ) (before : Mark) (spent : ℕ) (last : Option ℕ) (named all bound : ℕ)
    → named ≡ newest core.history → AreCountsKept core edition best before spent last → AreCountsKept (entered core (Stopped named all bound)) edition best (mark.Stopped all bound) spent last
stopped_kept core edition best before spent last named all bound is kept =
    quiet_kept core edition best before (mark.Stopped all bound) spent last (Stopped named all bound) refl (λ plan. refl) (λ n. refl) (rw is (sym (own (newest core.history) (mark.Stopped all bound) before))) kept

-- a valid plan is the last one published, and its cost the best
pub published_kept : (core : Core) (edition : Edition) (best : Option ℕ) (before : Mark) (spent : ℕ) (last : Option ℕ) (named : ℕ) (plan : List Event) (cost : ℕ)
    → IsValid core.problem (edition_of core.history) plan → AreCountsKept core edition best before spent last
    → AreCountsKept (entered core (Published named plan cost)) edition (Some cost) before spent (Some (length core.history))
published_kept core edition best before spent last named plan cost valid kept =
    let entry : Entry = Published named plan cost in
    let now : last_plan (core.history ++ entry ∷ []) ≡ Some (plan, cost) = plan_more core.history entry in
    let number : newest (core.history ++ entry ∷ []) ≡ newest core.history = same_newest core entry core.nodes refl in
    record {
      problem = kept.problem;
      changes = kept.changes ∙ sym (same_changes core.history entry refl);
      best_is = subst (BestBy core.problem (Some cost) (edition_of (core.history ++ entry ∷ []))) (sym now) (inl (subst (λ (f : List Fixing). IsValid core.problem f plan) (sym (same_fixings core entry core.nodes refl)) valid, refl));
      mark_is = kept.mark_is ∙ sym (mark_more (newest core.history) core.history entry) ∙ ap (λ n. mark_of n (core.history ++ entry ∷ [])) (sym number);
      spent_is = rw number (omega (arith, kept.spent_is, spent_more (newest core.history) core.history entry));
      last_is = record { edition = named; plan = plan; cost = cost; there = get_last core.history entry; last = now };
    }

-- a valid plan whose cost is below the best is better
pub better_at : (core : Core) (plan : List Event) (cost : ℕ) → IsValid core.problem (edition_of core.history) plan → cost ≡ cost_of core.problem.components plan → IsBelowBest core.problem core.history cost → IsBetter core plan cost
better_at core plan cost valid is (best, best_is, below) = record { valid = valid; cost_is = is; best = best; best_is = best_is; below = under best below }
  where
    under : (best : Option ℕ) → MatchOption best (Unit {0}) (λ other. cost < other) → (other : ℕ) → best ≡ Some other → cost < other
    under None below other is = absurd (none-some other is)
    under (Some known) below other is = omega (arith, below, same_Some known other is)

-- ---- what is wanted

pub verdict_is : (best : Option ℕ) → IsVerdictOf best (verdict_for best)
verdict_is None = refl
verdict_is (Some cost) = refl

-- what is found is wanted
pub found_wanted : (places : List Place) (best : Option ℕ) (numbers : List ℕ) (found : ℕ × ℕ) → IsFirstSought places best None numbers (Some found) → (k : ℕ) × (place : Place) × (slice_get places k ≡ Some place) × IsWanted best place
found_wanted places best [] found first = absurd (none-some found (sym first))
found_wanted places best (x ∷ numbers) found (inl at) = (x, at.place, at.there, at.sought)
found_wanted places best (x ∷ numbers) found (inr (not, rest)) = found_wanted places best numbers found rest

-- none is open where all are not
pub none_open_at : (places : List Place) (n : ℕ) (place : Place) → AreNotOpen places → slice_get places n ≡ Some place → place.kind ≡ Open → ⊥
none_open_at [] n place none there kind = none-some place there
none_open_at (p ∷ places) zero place none there kind = none.0 (ap (λ (q : Place). q.kind) (same_Some p place there) ∙ kind)
none_open_at (p ∷ places) (suc n) place none there kind = none_open_at places n place none.1 there kind

-- a least bound is below each cost above that of a wanted leaf
pub below_wanted : (best : Option ℕ) (bound kept other : ℕ) → bound ≤ kept → IsBoundBelow kept best → best ≡ Some other → bound < other
below_wanted None bound kept other low below is = absurd (none-some other is)
below_wanted (Some cost) bound kept other low below is = omega (arith, low, below, same_Some cost other is)

module _ (core : Core) (sound : IsSound core) (best : Option ℕ) (spent : ℕ) (best_is : IsBestCost core.problem core.history best) (spent_is : spent ≡ spent_on (newest core.history) core.history)
    (past : core.settings.budget ≤ spent) where
  -- the whole budget is spent
  pub all_spent : spent_on (newest core.history) core.history ≡ core.settings.budget
  all_spent = omega (arith, spent_is, past, sound.covered (newest core.history))

  pub ripe_at : IsFirstSought core.nodes.places best None (preorder core.nodes.places) None → (verdict : Verdict) × IsRipe core verdict
  ripe_at none = (verdict_for best, record { best = best; best_is = best_is; none = none; verdict_is = verdict_is best })

  module _ (found : ℕ × ℕ) (sought : IsFirstSought core.nodes.places best None (preorder core.nodes.places) (Some found)) where
    -- some leaf is open
    pub some_open : AreNotOpen core.nodes.places → ⊥
    some_open none = let (n, place, there, wanted) = found_wanted core.nodes.places best (preorder core.nodes.places) found sought in none_open_at core.nodes.places n place none there wanted.0

    pub stop_at : (bound : ℕ) → IsFirstSought core.nodes.places best (Some core.nodes.edition) (preorder core.nodes.places) None → IsLeastBound core.nodes.places (Some bound) → IsStopBound core bound
    stop_at bound marked least =
        let (n, place, there, wanted) = found_wanted core.nodes.places best (preorder core.nodes.places) found sought in
        record {
          spent = all_spent;
          best = best;
          best_is = best_is;
          marked = subst (λ (e : ℕ). IsFirstSought core.nodes.places best (Some e) (preorder core.nodes.places) None) sound.edition marked;
          least = least;
          below = λ other is. below_wanted best bound place.bound other (have_bounds bound core.nodes.places least.0 n place there wanted.0) wanted.1 is;
        }
