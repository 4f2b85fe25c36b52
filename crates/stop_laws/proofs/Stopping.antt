-- The bound of a stop is one of the costs of all valid plans.
use Rattle.std.proofs.Common.{◌≡◌, ◌∙◌, take, drop, slice_get, length, ap, sym, subst, ℕ, ◌<◌, ◌≤◌, List, inl, inr, arith}
use Rattle.std.proofs.lemmas.Bool.{cases_lt}
use Rattle.std.proofs.lemmas.List.{length-take, take_all, take-append-drop, take-take}
use Rattle.std.proofs.lemmas.Option.{slice_get_within}
use Rattle.std.specs.Prelude.{Option, Some, None, MatchOption}
use Rattle.disp_model.specs.declared.decision.Decision.{Decision}
use Rattle.disp_model.specs.declared.entry.Entry.{Entry}
use Rattle.disp_model.specs.declared.entry.Entry.TheVariants.{Stopped}
use Rattle.disp_model.specs.declared.fixing.Fixing.{Fixing}
use Rattle.disp_model.specs.declared.plan.Event.{Event}
use Rattle.disp_model.specs.declared.problem.Problem.{Problem}
use Rattle.disp_model.specs.declared.settings.Settings.{Settings}
use Rattle.disp_model.specs.Changes.{standing_of}
use Rattle.disp_model.specs.Cost.{cost_of}
use Rattle.disp_model.specs.Follows.{Follows}
use Rattle.disp_model.specs.History.{changes_of, newest, fixings_after, edition_of, IsBestCost}
use Rattle.disp_model.specs.Legal.{IsLegal, IsLegalEntry, IsLegalStop, HasLive}
use Rattle.disp_model.specs.Node.{node_at}
use Rattle.disp_model.specs.Replay.{grown_by, above_leaf, IsBelowBest}
use Rattle.disp_model.specs.Shares.{IsBound}
use Rattle.disp_model.specs.Valid.{IsValid}
use Rattle.disp_laws.proofs.Bounds.{bound_some, each_bound_holds}
use Rattle.disp_laws.proofs.WalksHold.{not_dead}
use Rattle.train_orders.proofs.Places.{get_kept}
use Rattle.history_laws.proofs.Appended.{fixings_then}
use Rattle.stop_laws.specs.Bounded.{CostsAtLeast}
use Rattle.stop_laws.proofs.Covering.{tree_covers}

module _ (problem : Problem) (settings : Settings) (history : List Entry)
    (edition spent bound : ℕ)
    (stop : IsLegalStop problem settings history edition spent bound) (plan : List Event)
    (valid : IsValid problem (edition_of history) plan) (n : ℕ) (above : List Decision)
    (there : above_leaf n (grown_by problem history).places ≡ Some above)
    (follows : Follows plan above) where
  lives : (own : ℕ) → IsBound (node_at problem (edition_of history) above) settings.rule own
      → IsBelowBest problem history own → HasLive problem settings history n above own
  lives own is below = record {
    there = there;
    live = record {
      alive = not_dead (node_at problem (edition_of history) above) plan valid follows;
      bound_is = is;
      below = below;
    };
  }

  -- the leaf that the plan follows is live, and the stop's bound is at most its own; or the best cost is at
  -- most its bound, and the stop's bound is below that cost
  by_best : (own : ℕ) → IsBound (node_at problem (edition_of history) above) settings.rule own
      → own ≤ cost_of problem.components plan → (best : Option ℕ)
      → IsBestCost problem history best → MatchOption best (Unit {0}) (λ cost. bound < cost)
      → bound ≤ cost_of problem.components plan
  by_best own is fits None best_is below =
      let least = stop.least n above own (lives own is (None, best_is, tt)) in
      omega (arith, least, fits)
  by_best own is fits (Some cost) best_is below = elim (cases_lt own cost) [
    | inl lt ↦
        let least = stop.least n above own (lives own is (Some cost, best_is, lt)) in
        omega (arith, least, fits)
    | inr le ↦ omega (arith, le, below, fits)
  ]

  plan_costs : bound ≤ cost_of problem.components plan
  plan_costs =
      let node = node_at problem (edition_of history) above in
      let own = bound_some node settings.rule in
      let best = stop.some_live.2.live.below in
      by_best own.0 own.1 (each_bound_holds node settings.rule plan own.0 valid follows own.1)
      best.0 best.1 best.2

pub stop_bounds : (problem : Problem) (settings : Settings) (history : List Entry)
    (edition spent bound : ℕ) → IsLegal problem settings history
    → IsLegalStop problem settings history edition spent bound
    → CostsAtLeast problem (edition_of history) bound
stop_bounds problem settings history edition spent bound legal stop plan valid =
    let leaf = tree_covers problem settings history (edition_of history) plan legal valid in
    plan_costs problem settings history edition spent bound stop plan valid leaf.0 leaf.1 leaf.2 leaf.3

-- ---- each stop of a history

front_legal : (problem : Problem) (settings : Settings) (history : List Entry) (i : ℕ)
    → IsLegal problem settings history → IsLegal problem settings (take i history)
front_legal problem settings history i legal j entry there =
    let within = slice_get_within (take i history) j entry there in
    let short : length (take i history) ≤ i = simp length-take (omega arith) in
    let kept : slice_get history j ≡ Some entry =
    subst (λ (h : List Entry). slice_get h j ≡ Some entry) (take-append-drop i history)
    (get_kept (take i history) (drop i history) entry j there) in
    subst (λ (h : List Entry). IsLegalEntry problem settings h entry)
    (sym (take-take j i history (omega (arith, within, short)))) (legal j entry kept)

-- the fixings of the newest edition of a front
fixings_are : (history : List Entry) (i edition : ℕ) → edition ≡ newest (take i history)
    → edition_of (take i history) ≡ fixings_after edition history
fixings_are history i edition is =
    let front : List Entry = take i history in
    ap standing_of (sym (take_all (newest front) (changes_of front) (omega arith)))
    ∙ sym (fixings_then history i) ∙ ap (λ (n : ℕ). fixings_after n history) (sym is)

pub each_stop_bounds : (problem : Problem) (settings : Settings) (history : List Entry)
    (i edition spent bound : ℕ) → IsLegal problem settings history
    → slice_get history i ≡ Some (Stopped edition spent bound)
    → CostsAtLeast problem (fixings_after edition history) bound
each_stop_bounds problem settings history i edition spent bound legal there =
    let stop : IsLegalStop problem settings (take i history) edition spent bound =
    legal i (Stopped edition spent bound) there in
    subst (λ (fixings : List Fixing). CostsAtLeast problem fixings bound)
    (fixings_are history i edition stop.working.newest_is)
    (stop_bounds problem settings (take i history) edition spent bound
    (front_legal problem settings history i legal) stop)
