-- A core goes on: entries of a search come behind the others.
use Rattle.std.proofs.Common.{◌≡◌, ◌∙◌, ℕ, Bool, List, [], ◌∷◌, ◌++◌, length, refl, sym, ap, subst}
use Rattle.std.specs.Prelude.{All}
use Rattle.std.proofs.lemmas.List.{append_assoc, append-nil}
use Rattle.std.proofs.lemmas.List.Elements.{All-append, All-cons, All-head, All-nil, All-tail}
use Rattle.disp_model.specs.declared.entry.Entry.{Entry}
use Rattle.disp_model.specs.declared.entry.Entry.TheVariants as entry
use Rattle.disp_model.specs.declared.fixing.Change.{Change}
use Rattle.disp_model.specs.declared.fixing.Fixing.{Fixing}
use Rattle.disp_model.specs.declared.plan.Event.{Event}
use Rattle.disp_model.specs.declared.problem.Problem.{Problem}
use Rattle.disp_model.specs.declared.tree.Leaf.{Leaf as TreeLeaf}
use Rattle.disp_model.specs.Changes.{standing_of}
use Rattle.disp_model.specs.History.{change_of, changes_of, newest, edition_of}
use Rattle.disp_model.specs.Node.{Node, node_at}
use Rattle.disp_model.specs.Replies.{IsEdition}
use Rattle.event_graph.specs.Joined.{IsOfEdition}
use Rattle.history_laws.proofs.Appended.{changes_append}
use Rattle.node_leaves.specs.Shown.{IsDeadLeaf}
use Rattle.open_nodes.specs.declared.work.Fragment.{Fragment}
use Rattle.open_nodes.specs.declared.work.Work.{Work}
use Rattle.open_nodes.specs.States.{State}
use Rattle.dispatch_core.specs.declared.event.CoreEvent.{CoreEvent}
use Rattle.dispatch_core.specs.declared.event.CoreEvent.TheVariants as event
use Rattle.dispatch_core.specs.declared.event.CoreReply.{CoreReply}
use Rattle.dispatch_core.specs.declared.event.CoreReply.TheVariants as reply
use Rattle.dispatch_core.specs.Replies.{IsTake, IsGrow, IsGiveBack, IsPublish, IsSettle, IsStopReply, Steps}
use Rattle.dispatch_core.specs.States.{Core, entered, with_nodes}
use Rattle.search_workers.specs.Searched.{IsOfSearch, CoreGoesOn, IsOfNewest, IsSearchEvent}
use Rattle.near_plans.specs.Plans.{IsBeside}

-- ---- one step after the other

-- another tree alone
on_nodes : (core : Core) (nodes : State) (after : Core) → after ≡ with_nodes core nodes → CoreGoesOn core after
on_nodes core nodes after is =
    subst (CoreGoesOn core) (sym is) (record { problem = refl; settings = refl; more = []; history = sym (append-nil core.history); of_search = All-nil IsOfSearch; ended = refl; left = refl })

-- nothing at all
pub on_same : (core after : Core) → after ≡ core → CoreGoesOn core after
on_same core after is =
    subst (CoreGoesOn core) (sym is) (record { problem = refl; settings = refl; more = []; history = sym (append-nil core.history); of_search = All-nil IsOfSearch; ended = refl; left = refl })

-- an entry, and maybe another tree
on_entry : (core : Core) (one : Entry) (nodes : State) (after : Core) → IsOfSearch one → after ≡ with_nodes (entered core one) nodes → CoreGoesOn core after
on_entry core one nodes after of_search is =
    subst (CoreGoesOn core) (sym is) (record { problem = refl; settings = refl; more = one ∷ []; history = refl; of_search = All-cons IsOfSearch one [] of_search (All-nil IsOfSearch); ended = refl; left = refl })

pub on_on : (one two three : Core) → CoreGoesOn one two → CoreGoesOn two three → CoreGoesOn one three
on_on one two three first second = record {
  problem = second.problem ∙ first.problem;
  settings = second.settings ∙ first.settings;
  more = first.more ++ second.more;
  history = second.history ∙ ap (λ (l : List Entry). l ++ second.more) first.history ∙ append_assoc one.history first.more second.more;
  of_search = All-append IsOfSearch first.more second.more first.of_search second.of_search;
  ended = second.ended ∙ first.ended;
  left = second.left ∙ first.left;
}

-- ---- the core goes on with what a searcher asks

module _ (core : Core) (after : Core) where
  take_on : (edition want : ℕ) (told : CoreReply) → IsTake core edition want told after → CoreGoesOn core after
  take_on edition want reply.Ripe from = on_nodes core from.nodes after from.after_is
  take_on edition want (reply.Taken work) from = on_nodes core from.nodes after from.after_is
  take_on edition want (reply.AllOut count) from = on_nodes core from.nodes after from.after_is
  take_on edition want (reply.Dry spent) (from, spent_is, all) = on_nodes core from.nodes after from.after_is
  take_on edition want told is = on_same core after is.1

  grow_on : (searcher : ℕ) (fragment : Fragment) (told : CoreReply) → IsGrow core searcher fragment told after → CoreGoesOn core after
  grow_on searcher fragment (reply.Grown count) (splits, from, counted) =
      on_entry core (entry.Grown searcher fragment.work.edition fragment.work.seen fragment.work.node splits) from.nodes after tt from.after_is
  grow_on searcher fragment (reply.Gone node) is = on_same core after is.1
  grow_on searcher fragment told is = absurd is

  back_on : (work : Work) (examined : Bool) (told : CoreReply) → IsGiveBack core work examined told after → CoreGoesOn core after
  back_on work examined reply.Noted from = on_nodes core from.nodes after from.after_is
  back_on work examined (reply.Gone node) is = on_same core after is.1
  back_on work examined told is = absurd is

  publish_on : (edition : ℕ) (plan : List Event) (told : CoreReply) → IsPublish core edition plan told after → CoreGoesOn core after
  publish_on edition plan (reply.Invalid fault) is = on_same core after is.2
  publish_on edition plan (reply.NotBetter best) is = on_same core after is.2
  publish_on edition plan (reply.Published cost) is = on_entry core (entry.Published edition plan cost) core.nodes after tt is.2
  publish_on edition plan told is = on_same core after is.1

  settle_on : (edition : ℕ) (told : CoreReply) → IsSettle core edition told after → CoreGoesOn core after
  settle_on edition (reply.StillOpen node bound) is = on_same core after is.2
  settle_on edition (reply.Settled verdict) is = on_entry core _ core.nodes after tt is.2
  settle_on edition told is = on_same core after is.1

  stop_on : (edition : ℕ) (told : CoreReply) → IsStopReply core edition told after → CoreGoesOn core after
  stop_on edition (reply.NotSpent spent) is = on_same core after is.3
  stop_on edition reply.Ripe is = on_same core after is.3
  stop_on edition (reply.Unexamined node) is = on_same core after is.3
  stop_on edition (reply.Stopped bound) is = on_entry core _ core.nodes after tt is.2
  stop_on edition told is = on_same core after is.1

  pub steps_on : (asked : CoreEvent) (told : CoreReply) → IsSearchEvent asked → Steps core asked told after → CoreGoesOn core after
  steps_on (event.Ask feed line change) told search is = absurd search
  steps_on (event.Unread feed line why) told search is = absurd search
  steps_on (event.Show feed line) told search is = absurd search
  steps_on (event.FeedEnd feed) told search is = absurd search
  steps_on (event.Leave searcher) told search is = absurd search
  steps_on event.Next told search is = on_same core after is.1
  steps_on (event.Take searcher edition want) told search is = take_on edition want told is
  steps_on (event.Grow searcher fragment) told search is = grow_on searcher fragment told is
  steps_on (event.GiveBack work examined) told search is = back_on work examined told is
  steps_on (event.Publish edition plan) told search is = publish_on edition plan told is
  steps_on (event.Settle edition) told search is = settle_on edition told is
  steps_on (event.Stop edition) told search is = stop_on edition told is

-- ---- the newest edition stays

no_change : (one : Entry) → IsOfSearch one → change_of one ≡ []
no_change (entry.Asked feed line change told) is = absurd is
no_change (entry.Unread feed line why) is = absurd is
no_change (entry.Shown feed line standing) is = absurd is
no_change (entry.Grown searcher edition seen node splits) is = refl
no_change (entry.Published edition plan cost) is = refl
no_change (entry.Settled edition verdict tree) is = refl
no_change (entry.Stopped edition spent bound) is = refl

no_changes : (more : List Entry) → All IsOfSearch more → changes_of more ≡ []
no_changes [] all = refl
no_changes (one ∷ more) all =
    ap (λ (l : List Change). l ++ changes_of more) (no_change one (All-head IsOfSearch one more all)) ∙ no_changes more (All-tail IsOfSearch one more all)

module _ (before after : Core) (on : CoreGoesOn before after) where
  pub same_changes : changes_of after.history ≡ changes_of before.history
  same_changes =
      ap changes_of on.history ∙ changes_append before.history on.more ∙ ap (λ (l : List Change). changes_of before.history ++ l) (no_changes on.more on.of_search) ∙ append-nil (changes_of before.history)

  pub same_newest : newest after.history ≡ newest before.history
  same_newest = ap (λ (l : List Change). length l) same_changes

  pub same_edition : edition_of after.history ≡ edition_of before.history
  same_edition = ap standing_of same_changes

  pub newest_on : (node : Node) → IsOfNewest before node → IsOfNewest after node
  newest_on node is = record {
    problem = is.problem ∙ sym on.problem;
    fixings = is.fixings ∙ sym same_edition;
    edition = subst (λ (p : Problem). IsEdition p (changes_of after.history)) (sym on.problem) (subst (IsEdition before.problem) (sym same_changes) is.edition);
  }

  -- a leaf that shows that the root is dead still shows it
  pub dead_on : (leaf : TreeLeaf) → IsDeadLeaf (node_at before.problem (edition_of before.history) []) leaf → IsDeadLeaf (node_at after.problem (edition_of after.history) []) leaf
  dead_on leaf is =
      subst (λ (p : Problem). IsDeadLeaf (node_at p (edition_of after.history) []) leaf) (sym on.problem)
      (subst (λ (f : List Fixing). IsDeadLeaf (node_at before.problem f []) leaf) (sym same_edition) is)

pub newest_beside : (core : Core) (before after : Node) → IsBeside before after → IsOfNewest core before → IsOfNewest core after
newest_beside core before after beside is = record { problem = beside.problem ∙ is.problem; fixings = beside.fixings ∙ is.fixings; edition = is.edition }

pub newest_is_edition : (core : Core) (node : Node) → IsOfNewest core node → IsOfEdition node
newest_is_edition core node is = (changes_of core.history, subst (λ (p : Problem). IsEdition p (changes_of core.history)) (sym is.problem) is.edition, is.fixings)
