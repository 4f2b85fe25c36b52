-- What is stopped keeps the core sound.
use Rattle.std.proofs.Common.{◌≡◌, ◌∙◌, ℕ, zero, suc, ◌<◌, ◌≤◌, inl, inr, List, [], ◌∷◌, refl, sym, ap, subst, arith}
use Rattle.std.specs.Prelude.{Option, Some, None, MatchOption, ◌⊎◌, slice_get}
use Rattle.std.proofs.lemmas.Option.{none-some, same_Some}
use Rattle.disp_model.specs.declared.decision.Decision.{Decision}
use Rattle.disp_model.specs.declared.entry.Entry.{Entry}
use Rattle.disp_model.specs.declared.entry.Entry.TheVariants.{Stopped}
use Rattle.disp_model.specs.declared.plan.Event.{Event}
use Rattle.disp_model.specs.declared.problem.Problem.{Problem}
use Rattle.disp_model.specs.declared.tree.Leaf.{Leaf as TreeLeaf}
use Rattle.disp_model.specs.declared.tree.Leaf.TheVariants.{NoRoute, Cycle, Late, Costs, Shares}
use Rattle.disp_model.specs.declared.tree.Verdict.TheVariants.{Optimal}
use Rattle.disp_model.specs.Node.{Node, node_at}
use Rattle.disp_model.specs.Nodes.{IsDead}
use Rattle.disp_model.specs.Shares.{IsBound}
use Rattle.disp_model.specs.Trees.{LeafHolds}
use Rattle.disp_model.specs.Valid.{IsValid}
use Rattle.disp_model.specs.Earliest.{IsPicked}
use Rattle.disp_model.specs.History.{edition_of, newest, last_plan, IsBestCost}
use Rattle.disp_model.specs.Legal.{HasLive, IsLegalStop}
use Rattle.disp_model.specs.Replay.{grown_by, above_leaf, spent_on}
use Rattle.disp_laws.proofs.OpenChoices.{picked_not_none}
use Rattle.disp_laws.proofs.RouteSearch.{same_option}
use Rattle.open_nodes.specs.declared.place.Kind.TheVariants.{Open}
use Rattle.open_nodes.specs.declared.place.Place.{Place}
use Rattle.open_nodes.specs.Grafts.{kind_of}
use Rattle.open_nodes.specs.Preorder.{preorder, IsNotAt, IsFirstSought}
use Rattle.open_nodes.specs.Shown.{leaf_in}
use Rattle.open_nodes.specs.States.{decisions_of, IsBoundBelow, IsWanted, HaveBounds, HasBound}
use Rattle.open_nodes.proofs.Joining.{IsIn}
use Rattle.open_nodes.proofs.Touching.{open_no_branch}
use Rattle.tree_growth.specs.Grown.{KeepsBound}
use Rattle.tree_growth.proofs.Low.{kept_low}
use Rattle.tree_growth.proofs.Walked.{late_is_dead}
use Rattle.tree_replay.proofs.Showing.{on_links, numbers_are, shows_one, leaf_or_branch}
use Rattle.tree_replay.proofs.Telling.{tells_leaves, tells_back}
use Rattle.dispatch_core.specs.declared.event.CoreReply.{CoreReply}
use Rattle.dispatch_core.specs.declared.event.CoreReply.TheVariants as reply
use Rattle.dispatch_core.specs.Replies.{IsCurrent, IsStopBound, IsStopReply}
use Rattle.dispatch_core.specs.States.{Core, entered, IsExamined, IsSound}
use Rattle.dispatch_core.proofs.Noting.{cost_stays, entered_sound}
use Rattle.dispatch_core.proofs.Publishing.{current_works}

-- ---- the best cost

-- the best cost, by the last plan
abbrev IsBestOf : Problem → List Entry → Option (List Event × ℕ) → Option ℕ → Type 0
IsBestOf problem history last best = MatchOption last (best ≡ None)
    (λ p. (IsValid problem (edition_of history) p.0 × (best ≡ Some p.1)) ⊎ ((IsValid problem (edition_of history) p.0 → ⊥) × (best ≡ None)))

same_best_of : (problem : Problem) (history : List Entry) (last : Option (List Event × ℕ)) (best other : Option ℕ) → IsBestOf problem history last best → IsBestOf problem history last other → best ≡ other
same_best_of problem history None best other one two = one ∙ sym two
same_best_of problem history (Some p) best other (inl (valid, one)) (inl (too, two)) = one ∙ sym two
same_best_of problem history (Some p) best other (inl (valid, one)) (inr (not, two)) = absurd (not valid)
same_best_of problem history (Some p) best other (inr (not, one)) (inl (valid, two)) = absurd (not valid)
same_best_of problem history (Some p) best other (inr (not, one)) (inr (neither, two)) = one ∙ sym two

-- there is one best cost
same_best : (problem : Problem) (history : List Entry) (best other : Option ℕ) → IsBestCost problem history best → IsBestCost problem history other → best ≡ other
same_best problem history best other is are = same_best_of problem history (last_plan history) best other is are

-- what is below the best, said by its cases
below_best : (best : Option ℕ) (bound : ℕ) → ((other : ℕ) → best ≡ Some other → bound < other) → MatchOption best (Unit {0}) (λ cost. bound < cost)
below_best None bound less = tt
below_best (Some cost) bound less = less cost refl

is_below : (best : Option ℕ) (bound less : ℕ) → less ≤ bound → MatchOption best (Unit {0}) (λ cost. bound < cost) → IsBoundBelow less best
is_below None bound less le below = tt
is_below (Some cost) bound less le below = omega (arith, le, below)

-- ---- leaves

-- at a node that is not dead a leaf that holds is known as open
alive_open : (node : Node) (bound : ℕ) (leaf : TreeLeaf) → (IsDead node → ⊥) → LeafHolds node (Optimal bound) leaf → kind_of leaf ≡ Open
alive_open node bound leaf alive (inl none) = absurd (alive (inl none))
alive_open node bound NoRoute alive (inr shows) = absurd shows
alive_open node bound (Cycle nodes) alive (inr shows) = absurd (alive (inr (inl (nodes, shows))))
alive_open node bound (Late walk) alive (inr shows) = absurd (alive (inr (inr (late_is_dead node (λ cycle. alive (inr (inl cycle))) walk shows))))
alive_open node bound (Costs walks) alive (inr shows) = refl
alive_open node bound (Shares walks trains) alive (inr shows) = refl

-- where none is sought none stands at any of the numbers
none_sought : (places : List Place) (best edition : Option ℕ) (numbers : List ℕ) → IsFirstSought places best edition numbers None → (n : ℕ) → IsIn n numbers → IsNotAt places best edition n
none_sought places best edition [] first n h = absurd h
none_sought places best edition (x ∷ numbers) (inl found) n h = absurd (none-some (x, found.place.bound) found.found_is)
none_sought places best edition (x ∷ numbers) (inr (not, rest)) n (inl e) = subst (λ (k : ℕ). IsNotAt places best edition k) e not
none_sought places best edition (x ∷ numbers) (inr (not, rest)) n (inr h) = none_sought places best edition numbers rest n h

-- the least bound is that of a place, and each open one has at least it
has_bound : (bound : ℕ) (places : List Place) → HasBound bound places → (n : ℕ) × (place : Place) × (slice_get places n ≡ Some place) × (place.kind ≡ Open) × (place.bound ≡ bound)
has_bound bound [] has = absurd has
has_bound bound (p ∷ places) (inl has) = (0, p, refl, has.0, has.1)
has_bound bound (p ∷ places) (inr has) = let (n, q, there, kind, is) = has_bound bound places has in (suc n, q, there, kind, is)

pub have_bounds : (bound : ℕ) (places : List Place) → HaveBounds bound places → (n : ℕ) (place : Place) → slice_get places n ≡ Some place → place.kind ≡ Open → bound ≤ place.bound
have_bounds bound [] have n place there kind = absurd (none-some place there)
have_bounds bound (p ∷ places) have zero place there kind =
    let same : p ≡ place = same_Some p place there in
    subst (λ (q : Place). bound ≤ q.bound) same (have.0 (subst (λ (q : Place). q.kind ≡ Open) (sym same) kind))
have_bounds bound (p ∷ places) have (suc n) place there kind = have_bounds bound places have.1 n place there kind

-- ---- stopping

module _ (core : Core) (sound : IsSound core) (bound : ℕ) (stop : IsStopBound core bound) where
  abbrev node_of : List Decision → Node
  node_of above = node_at core.problem (edition_of core.history) above

  -- a wanted leaf is examined for the newest edition
  examined : (n : ℕ) (place : Place) → slice_get core.nodes.places n ≡ Some place → IsWanted stop.best place
      → IsExamined core.settings.rule (node_of (decisions_of core.nodes.places n)) place.bound
  examined n place there wanted =
      let last = newest core.history in
      let not : IsNotAt core.nodes.places stop.best (Some last) n =
      none_sought core.nodes.places stop.best (Some last) (preorder core.nodes.places) stop.marked n
      (subst (λ (ns : List ℕ). IsIn n ns) (sym (numbers_are core.problem core.nodes sound.tree)) (on_links core.problem core.nodes sound.tree n place there)) in
      let marked : place.examined ≡ Some last = elim (same_option place.examined (Some last)) [
        | inl is ↦ is
        | inr other ↦ absurd (not place there (wanted, other))
      ] in
      (sound.marks n place last there marked).examined refl

  -- a live leaf of the grown tree, with its place
  record LiveAt (n : ℕ) (above : List Decision) (other : ℕ) : Type 0 where
    place : Place
    there : slice_get core.nodes.places n ≡ Some place
    above_is : above ≡ decisions_of core.nodes.places n
    kind : place.kind ≡ Open
    low : place.bound ≤ other
    wanted : IsWanted stop.best place

  live_at : (n : ℕ) (above : List Decision) (other : ℕ) → HasLive core.problem core.settings core.history n above other → LiveAt n above other
  live_at n above other live =
      let (place, leaf, there, shown, above_is) = tells_back core.problem (grown_by core.problem core.history) core.nodes n above sound.tree sound.replayed live.there in
      let keeps : KeepsBound core.settings.rule (node_of above) leaf place.bound =
      subst (λ (ds : List Decision). KeepsBound core.settings.rule (node_of ds) leaf place.bound) (sym above_is) (sound.keep n place leaf there shown) in
      let low : place.bound ≤ other = kept_low (node_of above) live.live.alive core.settings.rule leaf place.bound other keeps.holds keeps.counts live.live.bound_is in
      let kind : place.kind ≡ Open = elim (shows_one core.problem core.nodes sound.tree n place there) [
        | inl (listed, shows) ↦
            let same : listed ≡ leaf = same_Some listed leaf (ap leaf_in (sym shows.shown ∙ shown)) in
            shows.kind_is ∙ ap kind_of same ∙ alive_open (node_of above) place.bound leaf live.live.alive keeps.holds
        | inr (choice, first, shows) ↦ absurd (leaf_or_branch core.nodes.kept place.shows leaf choice shows.children shown shows.shown)
      ] in
      let best : live.live.below.0 ≡ stop.best = same_best core.problem core.history live.live.below.0 stop.best live.live.below.1 stop.best_is in
      let below : MatchOption stop.best (Unit {0}) (λ cost. other < cost) = subst (λ (b : Option ℕ). MatchOption b (Unit {0}) (λ cost. other < cost)) best live.live.below.2 in
      record { place = place; there = there; above_is = above_is; kind = kind; low = low; wanted = (kind, is_below stop.best other place.bound low below) }

  -- the leaf of the least bound is live
  least_live : (n : ℕ) × (above : List Decision) × HasLive core.problem core.settings core.history n above bound
  least_live =
      let (n, place, there, kind, bound_is) = has_bound bound core.nodes.places stop.least.1 in
      let below : MatchOption stop.best (Unit {0}) (λ cost. bound < cost) = below_best stop.best bound stop.below in
      let is = examined n place there (kind, is_below stop.best bound place.bound (omega (arith, bound_is)) below) in
      let above = decisions_of core.nodes.places n in
      let told : above_leaf n (grown_by core.problem core.history).places ≡ Some above = elim (shows_one core.problem core.nodes sound.tree n place there) [
        | inl (listed, shows) ↦ tells_leaves core.problem (grown_by core.problem core.history) core.nodes n place listed sound.tree sound.replayed there shows.shown
        | inr (choice, first, shows) ↦ absurd (open_no_branch place.kind kind shows.kind_is)
      ] in (
        n,
        above,
        record {
          there = told;
          live = record { alive = is.alive; bound_is = subst (λ (b : ℕ). IsBound (node_of above) core.settings.rule b) bound_is is.bound_is; below = (stop.best, stop.best_is, below) };
        },
      )

  stop_legal : (edition : ℕ) → IsCurrent core edition → IsLegalStop core.problem core.settings core.history edition (spent_on (newest core.history) core.history) bound
  stop_legal edition current = record {
    working = current_works core edition current;
    spent_is = ap (λ (n : ℕ). spent_on n core.history) (sym current.newest_is);
    budget_is = stop.spent;
    some_live = least_live;
    least = λ n above other live.
        let at = live_at n above other live in
        let up = have_bounds bound core.nodes.places stop.least.0 n at.place at.there at.kind in
        omega (arith, up, at.low);
    none_ready = λ n above other live picked.
        let at = live_at n above other live in
        let is = examined n at.place at.there at.wanted in
        picked_not_none (node_of above) core.settings.rule is.choice
        (subst (λ (ds : List Decision). IsPicked (node_of ds) core.settings.rule (Some is.choice)) (sym at.above_is) is.picked) picked;
  }

  pub stopped_sound : (edition : ℕ) → IsCurrent core edition → IsSound (entered core (Stopped edition (spent_on (newest core.history) core.history) bound))
  stopped_sound edition current =
      let stopped : Entry = Stopped edition (spent_on (newest core.history) core.history) bound in
      entered_sound core stopped (record { change = refl; growth = λ g. refl; splits = λ n. refl }) sound (stop_legal edition current)
      (cost_stays core.history stopped (λ b. refl) sound.cost)

pub stops_sound : (core : Core) (edition : ℕ) (told : CoreReply) (after : Core) → IsSound core → IsStopReply core edition told after → IsSound after
stops_sound core edition (reply.NotSpent spent) after sound is = subst IsSound (sym is.3) sound
stops_sound core edition reply.Ripe after sound is = subst IsSound (sym is.3) sound
stops_sound core edition (reply.Unexamined node) after sound is = subst IsSound (sym is.3) sound
stops_sound core edition (reply.Stopped bound) after sound is = subst IsSound (sym is.2) (stopped_sound core sound bound is.1 edition is.0)
stops_sound core edition _ after sound is = subst IsSound (sym is.1) sound
