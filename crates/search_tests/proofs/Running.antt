-- A run by the fixed rule stays one, and what may be handed in.
use Rattle.std.proofs.Common.{◌≡◌, ◌∙◌, ℕ, Bool, true, ◌<◌, length, List, [], ◌∷◌, ◌++◌, sym, ap, subst, arith}
use Rattle.std.proofs.lemmas.List.{length-set}
use Rattle.disp_model.specs.declared.fixing.Fixing.{Fixing}
use Rattle.disp_model.specs.declared.settings.Rule.{Rule}
use Rattle.disp_model.specs.declared.settings.Rule.TheVariants.{Fixed}
use Rattle.disp_model.specs.declared.settings.Settings.{Settings}
use Rattle.disp_model.specs.declared.entry.Entry.{Entry}
use Rattle.disp_model.specs.declared.entry.Entry.TheVariants as entry
use Rattle.disp_model.specs.declared.fixing.Change.{Change}
use Rattle.disp_model.specs.History.{newest, edition_of, fixings_after}
use Rattle.disp_model.specs.Node.{node_at}
use Rattle.dispatch_core.specs.Asked.{IsGrowth}
use Rattle.dispatch_core.specs.Replies.{Steps}
use Rattle.dispatch_core.proofs.Replacing.{newest_fixings}
use Rattle.dispatch_core.specs.States.{Core, entered, with_nodes}
use Rattle.history_laws.proofs.Appended.{fixings_stay}
use Rattle.dispatch_core.specs.declared.event.CoreEvent.{CoreEvent}
use Rattle.dispatch_core.specs.declared.event.CoreEvent.TheVariants as event
use Rattle.dispatch_core.specs.declared.event.CoreReply.{CoreReply}
use Rattle.dispatch_core.specs.declared.event.CoreReply.TheVariants as reply
use Rattle.open_nodes.specs.declared.work.Fragment.{Fragment}
use Rattle.search_tests.specs.Scripts.{IsGrownAt, IsRun}
use Rattle.search_workers.proofs.GoingOn.{steps_on}
use Rattle.search_workers.specs.Searched.{IsSearchEvent}
use Rattle.tree_growth.specs.Grown.{GrowsBelow}

module _ (core after : Core) (run : IsRun core) where
  -- a searcher's event
  searched : (asked : CoreEvent) (told : CoreReply) → IsSearchEvent asked → Steps core asked told after → IsRun after
  searched asked told search is =
      let on = steps_on core after asked told search is in
      record { rule = ap (λ (s : Settings). s.rule) on.settings ∙ run.rule; feeds = subst (λ (l : List Bool). 0 < length l) (sym on.ended) run.feeds }

  pub run_on : (asked : CoreEvent) (told : CoreReply) → Steps core asked told after → IsRun after
  run_on (event.Ask feed line change) (reply.Asked told) is = subst IsRun (sym is.after_is) (record { rule = run.rule; feeds = run.feeds })
  run_on (event.Ask feed line change) told is = absurd is
  run_on (event.Unread feed line why) told is = subst IsRun (sym is.1) (record { rule = run.rule; feeds = run.feeds })
  run_on (event.Show feed line) (reply.Shown standing) is = subst IsRun (sym is.after_is) (record { rule = run.rule; feeds = run.feeds })
  run_on (event.Show feed line) told is = absurd is
  run_on (event.FeedEnd feed) told is = subst IsRun (sym is.1) (record { rule = run.rule; feeds = subst (λ (n : ℕ). 0 < n) (sym (length-set core.ended feed true)) run.feeds })
  run_on (event.Leave searcher) told is = subst IsRun (sym is.1) (record { rule = run.rule; feeds = run.feeds })
  run_on event.Next told is = searched event.Next told tt is
  run_on (event.Take searcher edition want) told is = searched (event.Take searcher edition want) told tt is
  run_on (event.Grow searcher fragment) told is = searched (event.Grow searcher fragment) told tt is
  run_on (event.GiveBack work examined) told is = searched (event.GiveBack work examined) told tt is
  run_on (event.Publish edition plan) told is = searched (event.Publish edition plan) told tt is
  run_on (event.Settle edition) told is = searched (event.Settle edition) told tt is
  run_on (event.Stop edition) told is = searched (event.Stop edition) told tt is

-- what grows where these fixings stand may be handed in, where the work's edition has them
pub may_hand_in : (core : Core) (fixings : List Fixing) (fragment : Fragment) → IsRun core
    → fixings ≡ fixings_after fragment.work.edition core.history → IsGrownAt core.problem fixings fragment.work fragment.subtree fragment.bounds → IsGrowth core fragment
may_hand_in core fixings fragment run are grown =
    let Wanted : Rule → List Fixing → Type 0 = λ rule f. GrowsBelow rule fragment.work.best (node_at core.problem f fragment.work.decisions ∷ []) fragment.subtree fragment.bounds in
    record {
      grows = subst (λ (rule : Rule). Wanted rule (fixings_after fragment.work.edition core.history)) (sym run.rule) (subst (λ (f : List Fixing). Wanted Fixed f) are grown.grows);
      few = grown.few;
    }

-- what grew under the newest edition may be handed in behind one more line of a feed
pub stale : (core after : Core) (feed line : ℕ) (change : Change) (told : CoreReply) (fixings : List Fixing) (fragment : Fragment) → IsRun after
    → Steps core (event.Ask feed line change) told after → fragment.work.edition ≡ newest core.history → fixings ≡ edition_of core.history
    → IsGrownAt core.problem fixings fragment.work fragment.subtree fragment.bounds → IsGrowth after fragment
stale core after feed line change (reply.Asked told) fixings fragment run is edition are grown =
    let one : Entry = entry.Asked feed line change told in
    let then : Core = with_nodes (entered core one) is.nodes in
    let here : fixings_after fragment.work.edition (core.history ++ one ∷ []) ≡ edition_of core.history =
    ap (λ (n : ℕ). fixings_after n (core.history ++ one ∷ [])) edition ∙ fixings_stay core.history one (newest core.history) (omega arith) ∙ newest_fixings core.history in
    subst (λ (c : Core). IsGrowth c fragment) (sym is.after_is) (may_hand_in then fixings fragment (subst IsRun is.after_is run) (are ∙ sym here) grown)
stale core after feed line change told fixings fragment run is edition are grown = absurd is
