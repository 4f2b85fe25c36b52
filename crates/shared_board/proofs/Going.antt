-- What one step changes of the core: an entry at most, of its caller, and none of its terms.
use Rattle.std.proofs.Common.{◌≡◌, ◌∙◌, ℕ, ◌+◌, ◌==◌, inl, inr, Bool, true, List, length, refl, sym, ap, subst, arith, length-set}
use Rattle.std.specs.Prelude.{Some, if◌then◌else◌}
use Rattle.std.proofs.lemmas.Bool.{eq-eqb}
use Rattle.disp_model.specs.declared.entry.Entry.{Entry}
use Rattle.disp_model.specs.declared.entry.Entry.TheVariants as entry
use Rattle.disp_model.specs.declared.fixing.Change.{Change}
use Rattle.disp_model.specs.declared.plan.Event.{Event}
use Rattle.open_nodes.specs.declared.work.Fragment.{Fragment}
use Rattle.open_nodes.specs.declared.work.Work.{Work}
use Rattle.open_nodes.specs.States.{State}
use Rattle.dispatch_core.specs.declared.event.CoreEvent.{CoreEvent}
use Rattle.dispatch_core.specs.declared.event.CoreEvent.TheVariants as event
use Rattle.dispatch_core.specs.declared.event.CoreReply.{CoreReply}
use Rattle.dispatch_core.specs.declared.event.CoreReply.TheVariants as reply
use Rattle.dispatch_core.specs.Replies.{with_ended, with_left, IsTake, IsGrow, IsGiveBack, IsPublish, IsSettle, IsStopReply, IsAsk, IsShow, Steps}
use Rattle.dispatch_core.specs.States.{Core, entered, with_nodes}
use Rattle.turn_lock.specs.Section.{IsOf, AddsOne}
use Rattle.shared_board.specs.Callers.{terms_of, caller_of, lines_of}
use Rattle.shared_board.specs.Calls.{IsBy, lines_in}
use Rattle.shared_board.proofs.LineCounts.{lines_at, lines_more}

pub record Goes (caller more : ℕ) (before after : Core) : Type 0 where
  pub agrees : terms_of after ≡ terms_of before
  pub adds : AddsOne caller_of caller before.history after.history
  pub lines : lines_of caller after.history ≡ lines_of caller before.history + more

module _ (caller : ℕ) (core after : Core) where
  stays : (other : Core) → terms_of other ≡ terms_of core → other.history ≡ core.history → after ≡ other → Goes caller 0 core after
  stays other agrees same is = subst (Goes caller 0 core) (sym is) (record { agrees = agrees; adds = inl same; lines = ap (lines_of caller) same ∙ omega arith })

  on_same : after ≡ core → Goes caller 0 core after
  on_same is = stays core refl refl is

  on_nodes : (nodes : State) → after ≡ with_nodes core nodes → Goes caller 0 core after
  on_nodes nodes is = stays (with_nodes core nodes) refl refl is

  on_entry : (more : ℕ) (one : Entry) (nodes : State) → IsOf caller_of caller one → lines_at caller one ≡ more → after ≡ with_nodes (entered core one) nodes → Goes caller more core after
  on_entry more one nodes of counts is = subst (Goes caller more core) (sym is) (record {
    agrees = refl;
    adds = inr (one, refl, of);
    lines = lines_more caller core.history one ∙ ap (λ (n : ℕ). lines_of caller core.history + n) counts;
  })

  own_line : (feed : ℕ) → feed ≡ caller → ◌≡◌ {A = ℕ} (if feed == caller then 1 else 0) 1
  own_line feed by = ap (λ (b : Bool). if b then 1 else 0) (eq-eqb feed caller by)

  take_goes : (edition want : ℕ) (told : CoreReply) → IsTake core edition want told after → Goes caller 0 core after
  take_goes edition want reply.Ripe from = on_nodes from.nodes from.after_is
  take_goes edition want (reply.Taken work) from = on_nodes from.nodes from.after_is
  take_goes edition want (reply.AllOut count) from = on_nodes from.nodes from.after_is
  take_goes edition want (reply.Dry spent) (from, spent_is, all) = on_nodes from.nodes from.after_is
  take_goes edition want told is = on_same is.1

  grow_goes : (searcher : ℕ) (fragment : Fragment) (told : CoreReply) → IsBy caller (event.Grow searcher fragment) → IsGrow core searcher fragment told after → Goes caller 0 core after
  grow_goes searcher fragment (reply.Grown count) by (splits, from, counted) =
      on_entry 0 (entry.Grown searcher fragment.work.edition fragment.work.seen fragment.work.node splits) from.nodes (inr (ap Some by)) refl from.after_is
  grow_goes searcher fragment (reply.Gone node) by is = on_same is.1
  grow_goes searcher fragment told by is = absurd is

  back_goes : (work : Work) (examined : Bool) (told : CoreReply) → IsGiveBack core work examined told after → Goes caller 0 core after
  back_goes work examined reply.Noted from = on_nodes from.nodes from.after_is
  back_goes work examined (reply.Gone node) is = on_same is.1
  back_goes work examined told is = absurd is

  publish_goes : (edition : ℕ) (plan : List Event) (told : CoreReply) → IsPublish core edition plan told after → Goes caller 0 core after
  publish_goes edition plan (reply.Invalid fault) is = on_same is.2
  publish_goes edition plan (reply.NotBetter best) is = on_same is.2
  publish_goes edition plan (reply.Published cost) is = on_entry 0 (entry.Published edition plan cost) core.nodes (inl refl) refl is.2
  publish_goes edition plan told is = on_same is.1

  settle_goes : (edition : ℕ) (told : CoreReply) → IsSettle core edition told after → Goes caller 0 core after
  settle_goes edition (reply.StillOpen node bound) is = on_same is.2
  settle_goes edition (reply.Settled verdict) is = on_entry 0 _ core.nodes (inl refl) refl is.2
  settle_goes edition told is = on_same is.1

  stop_goes : (edition : ℕ) (told : CoreReply) → IsStopReply core edition told after → Goes caller 0 core after
  stop_goes edition (reply.NotSpent spent) is = on_same is.3
  stop_goes edition reply.Ripe is = on_same is.3
  stop_goes edition (reply.Unexamined node) is = on_same is.3
  stop_goes edition (reply.Stopped bound) is = on_entry 0 _ core.nodes (inl refl) refl is.2
  stop_goes edition told is = on_same is.1

  ask_goes : (feed line : ℕ) (change : Change) (told : CoreReply) → feed ≡ caller → IsAsk core feed line change told after → Goes caller 1 core after
  ask_goes feed line change (reply.Asked answer) by is = on_entry 1 (entry.Asked feed line change answer) is.nodes (inr (ap Some by)) (own_line feed by) is.after_is
  ask_goes feed line change told by is = absurd is

  show_goes : (feed line : ℕ) (told : CoreReply) → feed ≡ caller → IsShow core feed line told after → Goes caller 1 core after
  show_goes feed line (reply.Shown standing) by is = on_entry 1 (entry.Shown feed line standing) core.nodes (inr (ap Some by)) (own_line feed by) is.after_is
  show_goes feed line told by is = absurd is

  pub steps_go : (asked : CoreEvent) (told : CoreReply) → IsBy caller asked → Steps core asked told after → Goes caller (lines_in asked) core after
  steps_go (event.Ask feed line change) told by is = ask_goes feed line change told by is
  steps_go (event.Unread feed line why) told by is = on_entry 1 (entry.Unread feed line why) core.nodes (inr (ap Some by)) (own_line feed by) is.1
  steps_go (event.Show feed line) told by is = show_goes feed line told by is
  steps_go (event.FeedEnd feed) told by is = stays (with_ended core feed) (ap (λ (n : ℕ). record { problem = core.problem; settings = core.settings; feeds = n; searchers = length core.left }) (length-set core.ended feed true)) refl is.1
  steps_go (event.Leave searcher) told by is = stays (with_left core searcher) (ap (λ (n : ℕ). record { problem = core.problem; settings = core.settings; feeds = length core.ended; searchers = n }) (length-set core.left searcher true)) refl is.1
  steps_go event.Next told by is = on_same is.1
  steps_go (event.Take searcher edition want) told by is = take_goes edition want told is
  steps_go (event.Grow searcher fragment) told by is = grow_goes searcher fragment told by is
  steps_go (event.GiveBack work examined) told by is = back_goes work examined told is
  steps_go (event.Publish edition plan) told by is = publish_goes edition plan told is
  steps_go (event.Settle edition) told by is = settle_goes edition told is
  steps_go (event.Stop edition) told by is = stop_goes edition told is
