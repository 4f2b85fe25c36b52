-- What searchers grow keeps the core sound.
use Rattle.std.proofs.Common.{◌≡◌, ◌∙◌, ℕ, ◌+◌, ◌-◌, ◌≤◌, ◌<◌, inl, inr, List, [], ◌∷◌, ◌++◌, length, refl, sym, ap, subst, eq-eqb, ne_eqb, arith}
use Rattle.std.specs.Prelude.{Some, All, ◌⊎◌, slice_get, sum_by}
use Rattle.std.proofs.lemmas.Bool.{cases_eq}
use Rattle.std.proofs.lemmas.List.Elements.{All-append}
use Rattle.std.proofs.lemmas.Option.{slice_get_within}
use Rattle.disp_model.specs.declared.entry.Entry.{Entry}
use Rattle.disp_model.specs.declared.entry.Entry.TheVariants.{Grown}
use Rattle.disp_model.specs.declared.entry.Split.{Split}
use Rattle.disp_model.specs.declared.fixing.Fixing.{Fixing}
use Rattle.disp_model.specs.declared.settings.Rule.{Rule}
use Rattle.disp_model.specs.declared.tree.TreeNode.{TreeNode}
use Rattle.disp_model.specs.History.{fixings_after, edition_of}
use Rattle.disp_model.specs.Legal.{IsLegalGrowth}
use Rattle.disp_model.specs.Node.{Node, node_at}
use Rattle.disp_model.specs.Replay.{Growth, grown_by, splits_of, spent_on}
use Rattle.disp_model.specs.Trees.{FitsNode}
use Rattle.open_nodes.specs.declared.place.Place.{Place}
use Rattle.open_nodes.specs.declared.work.Fragment.{Fragment}
use Rattle.open_nodes.specs.declared.work.Work.{Work}
use Rattle.open_nodes.specs.States.{State, allowance_for, errand_of}
use Rattle.open_nodes.specs.Grafts.{AllStand, grown_at, Grows as GrowsTo}
use Rattle.open_nodes.proofs.Growing.{made_stand, made_some}
use Rattle.open_nodes.proofs.Keeping.{same_edition}
use Rattle.open_nodes.proofs.Paths.{no_some}
use Rattle.open_nodes.proofs.Planting.{tree_grows}
use Rattle.tree_growth.specs.Grown.{AreHelpful, KeepBounds, branches}
use Rattle.tree_growth.specs.Keeping.{AllKeep}
use Rattle.tree_growth.proofs.Filling.{Filled, keeps_fill}
use Rattle.tree_growth.proofs.Helping.{grows_helps, grows_keeps}
use Rattle.tree_growth.proofs.Holding.{grown_holds, grown_keep}
use Rattle.tree_growth.proofs.Leaving.{left_helps, left_keeps, left_count}
use Rattle.tree_replay.specs.Replayed.{IsReplayed}
use Rattle.tree_replay.proofs.Helping.{grown_helps}
use Rattle.tree_replay.proofs.Replaying.{grown_replayed}
use Rattle.history_laws.proofs.Appended.{grown_more, spent_more, plan_more}
use Rattle.history_laws.proofs.Legality.{legal_more}
use Rattle.dispatch_core.specs.declared.event.CoreReply.{CoreReply}
use Rattle.dispatch_core.specs.declared.event.CoreReply.TheVariants as reply
use Rattle.dispatch_core.specs.States.{Core, entered, with_nodes, IsErrand, IsSound}
use Rattle.dispatch_core.specs.Asked.{IsGrowth}
use Rattle.dispatch_core.specs.Replies.{GrowsIn, IsGrow}
use Rattle.dispatch_core.proofs.Entering.{same_newest, same_fixings, errand_behind, mark_behind}
use Rattle.dispatch_core.proofs.NewPlaces.{NoneMarked, made_unmarked, Stays, IsNew, old_or_new, allowed_less}
use Rattle.dispatch_core.proofs.Taking.{leaf_grown}

-- what fills a place has a node
some_nodes : (rule : Rule) (node : Node) (tree : List TreeNode) (bounds : List ℕ) → KeepBounds rule (node ∷ []) tree bounds → 0 < length tree
some_nodes rule node [] bounds keeps = absurd keeps
some_nodes rule node (top ∷ tree) bounds keeps = omega arith

-- a fragment grows that helps under the fixings of its work's edition, and keeps its bounds under those of the newest
module _ (core : Core) (sound : IsSound core) (searcher : ℕ) (fragment : Fragment) (splits : List Split) (nodes : State) (grows : GrowsTo core.problem core.nodes fragment splits nodes)
    (helps : AreHelpful core.settings.rule fragment.work.best (node_at core.problem (fixings_after fragment.work.edition core.history) fragment.work.decisions ∷ []) fragment.subtree fragment.bounds)
    (keeps : KeepBounds core.settings.rule (node_at core.problem (edition_of core.history) fragment.work.decisions ∷ []) fragment.subtree fragment.bounds)
    (few : branches fragment.subtree ≤ fragment.work.allowance) where
  abbrev work : Work
  work = fragment.work

  abbrev x : Place
  x = grows.place

  abbrev entry : Entry
  entry = Grown searcher work.edition work.seen work.node splits

  errand : IsErrand core work.node x (errand_of work)
  errand = sound.errands work.node x (errand_of work) grows.out.there grows.out.out

  fill : Filled core.problem 1 fragment.subtree fragment.bounds
  fill = keeps_fill core.problem core.settings.rule fragment.subtree (node_at core.problem (edition_of core.history) work.decisions ∷ []) fragment.bounds (refl, tt) keeps

  -- ---- the places

  abbrev grown : List Place
  grown = (grown_at core.problem core.nodes work.node x fragment.subtree fragment.bounds).grown

  some : 0 < length grown
  some = made_some core.problem (length core.nodes.places - 1) (length core.nodes.kept) work.node x fragment.subtree fragment.bounds

  stand : AllStand (length core.nodes.places - 1) x.above grown
  stand = made_stand core.problem (length core.nodes.places - 1) (length core.nodes.kept) work.node x fragment.subtree fragment.bounds

  unmarked : NoneMarked grown
  unmarked = made_unmarked core.problem (length core.nodes.places - 1) (length core.nodes.kept) work.node x fragment.subtree fragment.bounds
      (omega (arith, slice_get_within core.nodes.places work.node x grows.out.there))
      (some_nodes core.settings.rule (node_at core.problem (edition_of core.history) work.decisions) fragment.subtree fragment.bounds keeps)

  each_place : (m : ℕ) (p : Place) → slice_get nodes.places m ≡ Some p → Stays core.nodes.places nodes.places m p ⊎ IsNew p
  each_place = subst (λ (s : State). (m : ℕ) (p : Place) → slice_get s.places m ≡ Some p → Stays core.nodes.places s.places m p ⊎ IsNew p) (sym grows.after_is)
      (old_or_new core.problem core.nodes sound.tree work.node x grows.out.there grown some stand unmarked)

  -- ---- the budget

  few_splits : length splits ≤ work.allowance
  few_splits = omega (arith, few, (grown_holds core.problem (edition_of core.history) core.settings.rule core.nodes fragment splits nodes sound.tree grows keeps).splits_are)

  allowed : (edition : ℕ) → sum_by (λ (r : Place). allowance_for edition r.out) nodes.places + allowance_for edition x.out
      ≡ sum_by (λ (r : Place). allowance_for edition r.out) core.nodes.places
  allowed edition = subst (λ (s : State). sum_by (λ (r : Place). allowance_for edition r.out) s.places + allowance_for edition x.out
      ≡ sum_by (λ (r : Place). allowance_for edition r.out) core.nodes.places) (sym grows.after_is)
      (allowed_less core.problem core.nodes sound.tree work.node x grows.out.there edition grown some stand)

  was_allowed : (edition : ℕ) → work.edition ≡ edition → allowance_for edition x.out ≡ work.allowance
  was_allowed edition same = ap (allowance_for edition) grows.out.out ∙ same_edition edition (errand_of work) same

  -- the splits take no more than what the leaf was allowed
  covered : (edition : ℕ) → spent_on edition (core.history ++ entry ∷ []) + sum_by (λ (r : Place). allowance_for edition r.out) nodes.places ≤ core.settings.budget
  covered edition = elim (cases_eq work.edition edition) [
    | inl same ↦
        let more : splits_of edition entry ≡ length splits = rw (eq-eqb work.edition edition same) refl in
        omega (arith, sound.covered edition, allowed edition, was_allowed edition same, few_splits, more, spent_more edition core.history entry)
    | inr other ↦
        let more : splits_of edition entry ≡ 0 = rw (ne_eqb work.edition edition other) refl in
        omega (arith, sound.covered edition, allowed edition, more, spent_more edition core.history entry)
  ]

  -- ---- the whole

  legal_growth : IsLegalGrowth core.problem core.settings core.history work.edition work.seen work.node splits
  legal_growth = record {
    taken_before = errand.seen;
    edition_then = errand.edition;
    leaf_then = errand.leaf;
    leaf_now = leaf_grown core sound work.node x grows.out.there (sound.tree.leaves work.node x (errand_of work) grows.out.there grows.out.out);
    useful = grown_helps core.problem core.settings core.history work.edition work.seen work.best (grown_by core.problem core.history) core.nodes fragment splits nodes sound.tree sound.replayed
        grows fill.fill fill.choices errand.best helps;
    within_budget = omega (arith, sound.covered work.edition, allowed work.edition, was_allowed work.edition refl, few_splits);
  }

  pub grown_sound : IsSound (with_nodes (entered core entry) nodes)
  grown_sound = record {
    legal = legal_more core.problem core.settings core.history entry sound.legal legal_growth;
    tree = tree_grows core.problem core.nodes fragment splits nodes sound.tree grows fill.fill fill.choices;
    replayed = subst (λ (g : Growth). IsReplayed g nodes) (sym (grown_more core.problem core.history entry))
        (grown_replayed core.problem (grown_by core.problem core.history) core.nodes fragment splits nodes sound.tree sound.replayed grows fill.fill fill.choices);
    keep = subst (λ (fs : List Fixing). AllKeep core.settings.rule core.problem fs nodes) (sym (same_fixings core entry nodes refl))
        (grown_keep core.problem (edition_of core.history) core.settings.rule core.nodes fragment splits nodes sound.tree grows keeps sound.keep);
    fits = subst (λ (s : State). All FitsNode s.kept) (sym grows.after_is) (All-append FitsNode core.nodes.kept fragment.subtree sound.fits fill.fits);
    edition = ap (λ (s : State). s.edition) grows.after_is ∙ sound.edition ∙ sym (same_newest core entry nodes refl);
    covered = covered;
    cost = λ plan cost is. sound.cost plan cost (sym (plan_more core.history entry) ∙ is);
    errands = λ m p f at out. elim (each_place m p at) [
      | inl stays ↦ errand_behind core entry nodes refl m p f (sound.errands m p f stays.there out)
      | inr new ↦ absurd (no_some f (sym new.inside ∙ out))
    ];
    marks = λ m p k at marked. elim (each_place m p at) [
      | inl stays ↦ mark_behind core entry nodes refl m p k stays.decisions (sound.marks m p k stays.there marked)
      | inr new ↦ absurd (no_some k (sym new.unmarked ∙ marked))
    ];
  }

module _ (core : Core) (sound : IsSound core) (searcher : ℕ) (fragment : Fragment) (growth : IsGrowth core fragment) where
  -- what is left of a fragment has its branches, which help as they did, and its leaves keep their bounds
  left_sound : (splits : List Split) (after : Core) → GrowsIn core searcher fragment splits after → IsSound after
  left_sound splits after from =
      let left = from.left in
      let then : List Fixing = fixings_after fragment.work.edition core.history in
      let now : List Fixing = edition_of core.history in
      let rule = core.settings.rule in
      let best = fragment.work.best in
      let ds = fragment.work.decisions in
      let node : Node = node_at core.problem then ds in
      let helps : AreHelpful rule left.work.best (node_at core.problem (fixings_after left.work.edition core.history) left.work.decisions ∷ []) left.subtree left.bounds =
      subst (λ (w : Work). AreHelpful rule w.best (node_at core.problem (fixings_after w.edition core.history) w.decisions ∷ []) left.subtree left.bounds) (sym from.left_is.work)
      (left_helps core.problem then now rule best fragment.subtree (ds ∷ []) fragment.bounds left.subtree left.bounds
      (grows_helps rule best fragment.subtree (node ∷ []) fragment.bounds growth.grows) from.left_is.nodes) in
      let keeps : KeepBounds rule (node_at core.problem now left.work.decisions ∷ []) left.subtree left.bounds =
      subst (λ (w : Work). KeepBounds rule (node_at core.problem now w.decisions ∷ []) left.subtree left.bounds) (sym from.left_is.work)
      (left_keeps core.problem then now rule fragment.subtree (ds ∷ []) fragment.bounds left.subtree left.bounds
      (grows_keeps rule best fragment.subtree (node ∷ []) fragment.bounds growth.grows) from.left_is.nodes) in
      let few : branches left.subtree ≤ left.work.allowance = omega (
        arith,
        growth.few,
        left_count fragment.subtree (node_at core.problem now ds ∷ []) fragment.bounds left.subtree left.bounds from.left_is.nodes,
        ap (λ (w : Work). w.allowance) from.left_is.work,
      ) in
      subst IsSound (ap (λ (w : Work). with_nodes (entered core (Grown searcher w.edition w.seen w.node splits)) from.nodes) from.left_is.work ∙ sym from.after_is)
      (grown_sound core sound searcher left splits from.nodes from.grows helps keeps few)

  -- what is answered of a fragment keeps the core sound
  pub grow_sound : (told : CoreReply) (after : Core) → IsGrow core searcher fragment told after → IsSound after
  grow_sound (reply.Grown count) after from = left_sound from.0 after from.1
  grow_sound (reply.Gone node) after is = subst IsSound (sym is.1) sound
  grow_sound told after is = absurd is
