-- What the core replies to a fragment, and what is kept beside the state then.
use Rattle.std.proofs.Common.{◌≡◌, ◌∙◌, ℕ, ◌+◌, ◌≤◌, List, [], ◌∷◌, ◌++◌, length, refl, sym, ap, subst, eq-eqb, arith}
use Rattle.std.specs.Prelude.{Option, Some, None, MatchOption, ◌⊎◌, ◌==◌, if◌then◌else◌}
use Rattle.disp_model.specs.declared.entry.Entry.{Entry}
use Rattle.disp_model.specs.declared.entry.Entry.TheVariants.{Grown}
use Rattle.disp_model.specs.declared.entry.Mark.{Mark}
use Rattle.disp_model.specs.declared.entry.Split.{Split}
use Rattle.disp_model.specs.declared.fixing.Fixing.{Fixing}
use Rattle.disp_model.specs.declared.plan.Event.{Event}
use Rattle.disp_model.specs.declared.problem.Problem.{Problem}
use Rattle.disp_model.specs.declared.tree.TreeNode.{TreeNode}
use Rattle.disp_model.specs.History.{newest, edition_of, change_of, last_plan, plan_after, mark_of, mark_after, IsBestCost}
use Rattle.disp_model.specs.Replay.{spent_on, splits_of}
use Rattle.disp_model.specs.Valid.{IsValid}
use Rattle.fixing_editions.specs.Edition.{Edition}
use Rattle.train_orders.proofs.Places.{get_kept}
use Rattle.history_laws.proofs.Appended.{spent_more, mark_more, plan_more}
use Rattle.open_nodes.specs.declared.work.Fragment.{Fragment}
use Rattle.open_nodes.specs.declared.work.Work.{Work}
use Rattle.open_nodes.specs.declared.work.Growth.{Growth}
use Rattle.open_nodes.specs.declared.work.Growth.TheVariants as growth
use Rattle.open_nodes.specs.Grafts.{GrowsBy}
use Rattle.open_nodes.specs.States.{State, IsGone}
use Rattle.tree_growth.specs.Left.{IsLeft}
use Rattle.dispatch_core.specs.declared.event.CoreReply.TheVariants as reply
use Rattle.dispatch_core.specs.Asked.{IsGrowth}
use Rattle.dispatch_core.specs.Kept.{IsLastEntry, AreCountsKept}
use Rattle.dispatch_core.specs.Remaining.{with_tree}
use Rattle.dispatch_core.specs.Replies.{IsGrow}
use Rattle.dispatch_core.specs.States.{Core, IsSound, entered, with_nodes}
use Rattle.dispatch_core.proofs.Entering.{same_changes, same_newest, same_fixings}
use Rattle.dispatch_core.proofs.Growing.{grow_sound}
use Rattle.dispatch_core.proofs.Onward.{IsLeftIn, either_grows}

-- an entry behind those for which there was room
pub pushed : (before reserved after : List Entry) (entry : Entry) → after ≡ reserved ++ entry ∷ [] → reserved ≡ before → after ≡ before ++ entry ∷ []
pushed before reserved after entry is same = is ∙ ap (λ (h : List Entry). h ++ entry ∷ []) same

-- ---- with one more entry that changes no edition, no plan and no mark

module _ (core : Core) (entry : Entry) (nodes : State) (none : change_of entry ≡ []) (no_plan : (before : Option (List Event × ℕ)) → plan_after before entry ≡ before)
    (no_mark : (number : ℕ) (before : Mark) → mark_after number before entry ≡ before) where
  abbrev longer : List Entry
  longer = core.history ++ entry ∷ []

  same_plan : last_plan longer ≡ last_plan core.history
  same_plan = plan_more core.history entry ∙ no_plan (last_plan core.history)

  same_best : (best : Option ℕ) → IsBestCost core.problem core.history best → IsBestCost core.problem longer best
  same_best best is =
      subst (λ (fs : List Fixing). MatchOption (last_plan longer) (best ≡ None) (λ p. (IsValid core.problem fs p.0 × (best ≡ Some p.1)) ⊎ ((IsValid core.problem fs p.0 → ⊥) × (best ≡ None))))
      (sym (same_fixings core entry nodes none))
      (subst (λ (l : Option (List Event × ℕ)). MatchOption l (best ≡ None)
      (λ p. (IsValid core.problem (edition_of core.history) p.0 × (best ≡ Some p.1)) ⊎ ((IsValid core.problem (edition_of core.history) p.0 → ⊥) × (best ≡ None))))
      (sym same_plan) is)

  same_last : (last : Option ℕ) → IsLastEntry core.history last → IsLastEntry longer last
  same_last None is = same_plan ∙ is
  same_last (Some place) is =
      record { edition = is.edition; plan = is.plan; cost = is.cost; there = get_kept core.history (entry ∷ []) _ place is.there; last = same_plan ∙ is.last }

  pub kept_with : (editions : Edition) (best : Option ℕ) (mark : Mark) (spent later : ℕ) (last : Option ℕ) → AreCountsKept core editions best mark spent last
      → later ≡ spent + splits_of (newest core.history) entry → AreCountsKept (with_nodes (entered core entry) nodes) editions best mark later last
  kept_with editions best mark spent later last kept later_is = record {
    problem = kept.problem;
    changes = kept.changes ∙ sym (same_changes core.history entry none);
    best_is = same_best best kept.best_is;
    mark_is = kept.mark_is ∙ sym (no_mark (newest core.history) (mark_of (newest core.history) core.history)) ∙ sym (mark_more (newest core.history) core.history entry)
        ∙ ap (λ (n : ℕ). mark_of n longer) (sym (same_newest core entry nodes none));
    spent_is = omega (arith, kept.spent_is, later_is, spent_more (newest core.history) core.history entry) ∙ ap (λ (n : ℕ). spent_on n longer) (sym (same_newest core entry nodes none));
    last_is = same_last last kept.last_is;
  }

-- ---- a fragment

module _ (core : Core) (searcher : ℕ) (fragment part : Fragment) (left : IsLeft core.problem (edition_of core.history) fragment part) (nodes : State) where
  -- where its work is gone nothing has changed
  pub gone_grown : (node : ℕ) → GrowsBy core.problem core.nodes part (growth.Gone node) nodes → IsGrow core searcher fragment (reply.Gone node) (with_nodes core nodes)
  gone_grown node (gone, node_is, same) =
      ((subst (λ (w : Work). IsGone core.nodes w) left.work gone, node_is ∙ ap (λ (w : Work). w.node) left.work, same), ap (λ (s : State). with_nodes core s) same)

  module _ (splits : List Split) (grows : GrowsBy core.problem core.nodes part (growth.Grown splits) nodes) where
    abbrev grown : Entry
    grown = Grown searcher fragment.work.edition fragment.work.seen fragment.work.node splits

    abbrev pub after_grown : Core
    after_grown = with_nodes (entered core grown) nodes

    pub told_grown : IsGrow core searcher fragment (reply.Grown (length splits)) after_grown
    told_grown = (splits, record { left = part; left_is = left; nodes = nodes; grows = grows; after_is = refl }, refl)

    module _ (sound : IsSound core) (is_growth : IsGrowth core fragment) where
      pub sound_grown : IsSound after_grown
      sound_grown = grow_sound core sound searcher fragment is_growth (reply.Grown (length splits)) after_grown told_grown

      -- the splits are within the budget
      pub few_grown : length splits ≤ core.settings.budget
      few_grown =
          let counted : splits_of fragment.work.edition grown ≡ length splits = rw (eq-eqb fragment.work.edition fragment.work.edition refl) refl in
          omega (arith, counted, spent_more fragment.work.edition core.history grown, sound_grown.covered fragment.work.edition)

      pub spent_grown : (editions : Edition) (best : Option ℕ) (mark : Mark) (spent : ℕ) (last : Option ℕ) → AreCountsKept core editions best mark spent last
          → spent + splits_of (newest core.history) grown ≤ core.settings.budget
      spent_grown editions best mark spent last kept =
          omega (arith, kept.spent_is, spent_more (newest core.history) core.history grown, sound_grown.covered (newest core.history))

      pub kept_grown : (editions : Edition) (best : Option ℕ) (mark : Mark) (spent : ℕ) (last : Option ℕ) → AreCountsKept core editions best mark spent last
          → (later : ℕ) → later ≡ spent + splits_of (newest core.history) grown → AreCountsKept after_grown editions best mark later last
      kept_grown editions best mark spent last kept later later_is =
          kept_with core grown nodes refl (λ before. refl) (λ number before. refl) editions best mark spent later last kept later_is

-- ---- the same, of the core and of the one that equals it

abbrev pub core_with : Core → List Entry → State → Core
core_with core history nodes = record { problem = core.problem; settings = core.settings; history = history; nodes = nodes; ended = core.ended; left = core.left }

module _ {L : Type 0} (nodes_in : L → List TreeNode) (bounds_in : L → List ℕ) (core now : Core) (same : core ≡ now) (searcher : ℕ) (fragment : Fragment)
    (left : Option L) (is : IsLeftIn nodes_in bounds_in now fragment left) (problem : Problem) (problem_is : problem ≡ core.problem) (answer : Growth) (nodes : State)
    (grows : MatchOption left (GrowsBy problem core.nodes fragment answer nodes) (λ l. GrowsBy problem core.nodes (with_tree fragment (nodes_in l) (bounds_in l)) answer nodes)) where
  part_of : (found : Growth) → answer ≡ found → (part : Fragment) × IsLeft core.problem (edition_of core.history) fragment part × GrowsBy core.problem core.nodes part found nodes
  part_of found found_is =
      either_grows nodes_in bounds_in core fragment left (subst (λ (s : Core). IsLeftIn nodes_in bounds_in s fragment left) (sym same) is) found nodes
      (subst (λ (a : Growth). MatchOption left (GrowsBy core.problem core.nodes fragment a nodes) (λ l. GrowsBy core.problem core.nodes (with_tree fragment (nodes_in l) (bounds_in l)) a nodes)) found_is
      (subst (λ (p : Problem). MatchOption left (GrowsBy p core.nodes fragment answer nodes) (λ l. GrowsBy p core.nodes (with_tree fragment (nodes_in l) (bounds_in l)) answer nodes)) problem_is grows))

  pub gone_returned : (node : ℕ) → answer ≡ growth.Gone node → (history : List Entry) → history ≡ core.history → IsGrow now searcher fragment (reply.Gone node) (core_with core history nodes)
  gone_returned node found history history_is =
      let part = part_of (growth.Gone node) found in
      subst (λ (s : Core). IsGrow s searcher fragment (reply.Gone node) (core_with core history nodes)) same
      (subst (λ (h : List Entry). IsGrow core searcher fragment (reply.Gone node) (core_with core h nodes)) (sym history_is)
      (gone_grown core searcher fragment part.0 part.1 nodes node part.2))

  module _ (splits : List Split) (found : answer ≡ growth.Grown splits) where
    abbrev grown_entry : Entry
    grown_entry = Grown searcher fragment.work.edition fragment.work.seen fragment.work.node splits

    pub grown_returned : (count : ℕ) → count ≡ length splits → (history : List Entry) → history ≡ core.history ++ grown_entry ∷ []
        → IsGrow now searcher fragment (reply.Grown count) (core_with core history nodes)
    grown_returned count count_is history history_is =
        let part = part_of (growth.Grown splits) found in
        subst (λ (s : Core). IsGrow s searcher fragment (reply.Grown count) (core_with core history nodes)) same
        (subst (λ (k : ℕ). IsGrow core searcher fragment (reply.Grown k) (core_with core history nodes)) (sym count_is)
        (subst (λ (h : List Entry). IsGrow core searcher fragment (reply.Grown (length splits)) (core_with core h nodes)) (sym history_is)
        (told_grown core searcher fragment part.0 part.1 nodes splits part.2)))

    module _ (sound : IsSound core) (is_growth : IsGrowth now fragment) where
      of_core : IsGrowth core fragment
      of_core = subst (λ (s : Core). IsGrowth s fragment) (sym same) is_growth

      pub few_returned : length splits ≤ core.settings.budget
      few_returned = let part = part_of (growth.Grown splits) found in few_grown core searcher fragment part.0 part.1 nodes splits part.2 sound of_core

      module _ (editions : Edition) (best : Option ℕ) (mark : Mark) (spent : ℕ) (last : Option ℕ) (kept : AreCountsKept core editions best mark spent last)
          (edition : ℕ) (newest_is : edition ≡ newest now.history) (count : ℕ) (count_is : count ≡ length splits) where
        counted : (if fragment.work.edition == edition then count else 0) ≡ splits_of (newest core.history) grown_entry
        counted =
            ap (λ (n : ℕ). if fragment.work.edition == n then count else 0) (newest_is ∙ ap (λ (s : Core). newest s.history) (sym same))
            ∙ ap (λ (k : ℕ). if fragment.work.edition == newest core.history then k else 0) count_is

        pub spent_returned : spent + (if fragment.work.edition == edition then count else 0) ≤ core.settings.budget
        spent_returned =
            let part = part_of (growth.Grown splits) found in
            omega (arith, counted, spent_grown core searcher fragment part.0 part.1 nodes splits part.2 sound of_core editions best mark spent last kept)

        pub both_returned : (later : ℕ) → later ≡ spent + (if fragment.work.edition == edition then count else 0) → (history : List Entry) → history ≡ core.history ++ grown_entry ∷ []
            → AreCountsKept (core_with core history nodes) editions best mark later last × IsSound (core_with core history nodes)
        both_returned later later_is history history_is =
            let part = part_of (growth.Grown splits) found in
            subst (λ (h : List Entry). AreCountsKept (core_with core h nodes) editions best mark later last × IsSound (core_with core h nodes)) (sym history_is) (
              kept_grown core searcher fragment part.0 part.1 nodes splits part.2 sound of_core editions best mark spent last kept later (later_is ∙ ap (λ (k : ℕ). spent + k) counted),
              sound_grown core searcher fragment part.0 part.1 nodes splits part.2 sound of_core,
            )
