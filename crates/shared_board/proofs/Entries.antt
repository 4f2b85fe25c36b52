-- The entry of a call stands where its pass says.
use Rattle.std.proofs.Common.{◌≡◌, ◌∙◌, ℕ, inl, inr, Bool, List, [], ◌∷◌, ◌++◌, length, ap, arith}
use Rattle.std.proofs.lemmas.List.{length-append}
use Rattle.disp_model.specs.declared.entry.Entry.{Entry}
use Rattle.disp_model.specs.declared.entry.Entry.TheVariants as entry
use Rattle.disp_model.specs.declared.entry.Unasked.{Unasked}
use Rattle.disp_model.specs.declared.fixing.Change.{Change}
use Rattle.disp_model.specs.declared.plan.Event.{Event}
use Rattle.open_nodes.specs.declared.work.Fragment.{Fragment}
use Rattle.open_nodes.specs.declared.work.Work.{Work}
use Rattle.dispatch_core.specs.declared.event.CoreEvent.{CoreEvent}
use Rattle.dispatch_core.specs.declared.event.CoreEvent.TheVariants as event
use Rattle.dispatch_core.specs.declared.event.CoreReply.{CoreReply}
use Rattle.dispatch_core.specs.declared.event.CoreReply.TheVariants as reply
use Rattle.dispatch_core.specs.Replies.{IsAsk, IsShow, IsTake, IsGrow, IsGiveBack, IsPublish, IsSettle, IsStopReply, Steps}
use Rattle.dispatch_core.specs.States.{Core}
use Rattle.turn_lock.specs.Known.{Known, StartsWith}
use Rattle.turn_lock.specs.Section.{Knows}
use Rattle.shared_board.specs.declared.terms.Terms.{Terms}
use Rattle.shared_board.specs.Callers.{caller_of}
use Rattle.shared_board.specs.Calls.{Enters, Looks}
use Rattle.shared_board.specs.Standing.{SameRole, StandsEntered, EntersAs}
use Rattle.shared_board.proofs.Running.{seen_after}

same_role : (v w : Known Entry Terms) (before after : List Entry) → Knows caller_of v before after w → SameRole v w
same_role v w before after (inl k) = record { first = ap (λ (z : Known Entry Terms). z.first) k.1; caller = ap (λ (z : Known Entry Terms). z.caller) k.1; terms = ap (λ (z : Known Entry Terms). z.terms) k.1; given = ap (λ (z : Known Entry Terms). z.given) k.1; back = ap (λ (z : Known Entry Terms). z.back) k.1 }
same_role v w before after (inr k) = record { first = ap (λ (z : Known Entry Terms). z.first) k.1; caller = ap (λ (z : Known Entry Terms). z.caller) k.1; terms = ap (λ (z : Known Entry Terms). z.terms) k.1; given = ap (λ (z : Known Entry Terms). z.given) k.1; back = ap (λ (z : Known Entry Terms). z.back) k.1 }

pub role_entered : (v : Known Entry Terms) (asked : CoreEvent) (told : CoreReply) (w : Known Entry Terms) → Enters v asked told w → SameRole v w
role_entered v asked told w enters = same_role v w enters.before.history enters.after.history enters.ran.knows

pub role_looked : (v : Known Entry Terms) (core : Core) (w : Known Entry Terms) → Looks v core w → SameRole v w
role_looked v core w looks = let k = looks.knows in record { first = ap (λ (z : Known Entry Terms). z.first) k; caller = ap (λ (z : Known Entry Terms). z.caller) k; terms = ap (λ (z : Known Entry Terms). z.terms) k; given = ap (λ (z : Known Entry Terms). z.given) k; back = ap (λ (z : Known Entry Terms). z.back) k }

-- one entry more is not none
longer : (before after : List Entry) (one : Entry) → after ≡ before ++ one ∷ [] → after ≡ before → ⊥
longer before after one is same = let l = length-append before (one ∷ []) in let m : length after ≡ length (before ++ one ∷ []) = ap length is in let n : length after ≡ length before = ap length same in omega arith

module _ (v w : Known Entry Terms) (core after : Core) (knows : Knows caller_of v core.history after.history w) (starts : StartsWith core.history v.seen) where
  stands : (one : Entry) → after.history ≡ core.history ++ one ∷ [] → StandsEntered v one w
  stands one is = by_knows knows
    where
      by_knows : Knows caller_of v core.history after.history w → StandsEntered v one w
      by_knows (inl k) = absurd (longer core.history after.history one is k.0)
      by_knows (inr k) = record { front = core.history; starts = starts; seen = seen_after v w core.history after.history knows ∙ is; mine = ap (λ (z : Known Entry Terms). z.mine) k.1 }

  none : after.history ≡ core.history → w.mine ≡ v.mine
  none same = by_knows knows
    where
      by_knows : Knows caller_of v core.history after.history w → w.mine ≡ v.mine
      by_knows (inl k) = ap (λ (z : Known Entry Terms). z.mine) k.1
      by_knows (inr (added, k)) = absurd (longer core.history after.history added.0 added.1 same)

  unmoved : (other : Core) → other.history ≡ core.history → after ≡ other → w.mine ≡ v.mine
  unmoved other same is = none (ap (λ (c : Core). c.history) is ∙ same)

  ask_as : (feed line : ℕ) (change : Change) (told : CoreReply) → IsAsk core feed line change told after → EntersAs (event.Ask feed line change) told v w
  ask_as feed line change (reply.Asked answer) is = stands (entry.Asked feed line change answer) (ap (λ (c : Core). c.history) is.after_is)
  ask_as feed line change told is = absurd is

  unread_as : (feed line : ℕ) (why : Unasked) (told : CoreReply) → Steps core (event.Unread feed line why) told after → EntersAs (event.Unread feed line why) told v w
  unread_as feed line why reply.Noted is = stands (entry.Unread feed line why) (ap (λ (c : Core). c.history) is.1)
  unread_as feed line why told is = absurd is.0

  show_as : (feed line : ℕ) (told : CoreReply) → IsShow core feed line told after → EntersAs (event.Show feed line) told v w
  show_as feed line (reply.Shown standing) is = stands (entry.Shown feed line standing) (ap (λ (c : Core). c.history) is.after_is)
  show_as feed line told is = absurd is

  take_as : (searcher edition want : ℕ) (told : CoreReply) → IsTake core edition want told after → EntersAs (event.Take searcher edition want) told v w
  take_as searcher edition want reply.Ripe from = none (ap (λ (c : Core). c.history) from.after_is)
  take_as searcher edition want (reply.Taken work) from = none (ap (λ (c : Core). c.history) from.after_is)
  take_as searcher edition want (reply.AllOut count) from = none (ap (λ (c : Core). c.history) from.after_is)
  take_as searcher edition want (reply.Dry spent) (from, spent_is, all) = none (ap (λ (c : Core). c.history) from.after_is)
  take_as searcher edition want told is = none (ap (λ (c : Core). c.history) is.1)

  grow_as : (searcher : ℕ) (fragment : Fragment) (told : CoreReply) → IsGrow core searcher fragment told after → EntersAs (event.Grow searcher fragment) told v w
  grow_as searcher fragment (reply.Grown count) (splits, from, counted) =
      (splits, stands (entry.Grown searcher fragment.work.edition fragment.work.seen fragment.work.node splits) (ap (λ (c : Core). c.history) from.after_is), counted)
  grow_as searcher fragment (reply.Gone node) is = none (ap (λ (c : Core). c.history) is.1)
  grow_as searcher fragment told is = absurd is

  back_as : (work : Work) (examined : Bool) (told : CoreReply) → IsGiveBack core work examined told after → EntersAs (event.GiveBack work examined) told v w
  back_as work examined reply.Noted from = none (ap (λ (c : Core). c.history) from.after_is)
  back_as work examined (reply.Gone node) is = none (ap (λ (c : Core). c.history) is.1)
  back_as work examined told is = absurd is

  publish_as : (edition : ℕ) (plan : List Event) (told : CoreReply) → IsPublish core edition plan told after → EntersAs (event.Publish edition plan) told v w
  publish_as edition plan (reply.Invalid fault) is = none (ap (λ (c : Core). c.history) is.2)
  publish_as edition plan (reply.NotBetter best) is = none (ap (λ (c : Core). c.history) is.2)
  publish_as edition plan (reply.Published cost) is = stands (entry.Published edition plan cost) (ap (λ (c : Core). c.history) is.2)
  publish_as edition plan told is = none (ap (λ (c : Core). c.history) is.1)

  settle_as : (edition : ℕ) (told : CoreReply) → IsSettle core edition told after → EntersAs (event.Settle edition) told v w
  settle_as edition (reply.StillOpen node bound) is = none (ap (λ (c : Core). c.history) is.2)
  settle_as edition (reply.Settled verdict) is = (_, stands _ (ap (λ (c : Core). c.history) is.2))
  settle_as edition told is = none (ap (λ (c : Core). c.history) is.1)

  stop_as : (edition : ℕ) (told : CoreReply) → IsStopReply core edition told after → EntersAs (event.Stop edition) told v w
  stop_as edition (reply.NotSpent spent) is = none (ap (λ (c : Core). c.history) is.3)
  stop_as edition reply.Ripe is = none (ap (λ (c : Core). c.history) is.3)
  stop_as edition (reply.Unexamined node) is = none (ap (λ (c : Core). c.history) is.3)
  stop_as edition (reply.Stopped bound) is = (_, stands _ (ap (λ (c : Core). c.history) is.2))
  stop_as edition told is = none (ap (λ (c : Core). c.history) is.1)

  end_as : (feed : ℕ) (told : CoreReply) → after.history ≡ core.history → EntersAs (event.FeedEnd feed) told v w
  end_as feed told same = none same

  leave_as : (searcher : ℕ) (told : CoreReply) → after.history ≡ core.history → EntersAs (event.Leave searcher) told v w
  leave_as searcher told same = none same

  next_as : (told : CoreReply) → after.history ≡ core.history → EntersAs event.Next told v w
  next_as told same = none same

  steps_as : (asked : CoreEvent) (told : CoreReply) → Steps core asked told after → EntersAs asked told v w
  steps_as (event.Ask feed line change) told is = ask_as feed line change told is
  steps_as (event.Unread feed line why) told is = unread_as feed line why told is
  steps_as (event.Show feed line) told is = show_as feed line told is
  steps_as (event.FeedEnd feed) told is = end_as feed told (ap (λ (c : Core). c.history) is.1)
  steps_as (event.Leave searcher) told is = leave_as searcher told (ap (λ (c : Core). c.history) is.1)
  steps_as event.Next told is = next_as told (ap (λ (c : Core). c.history) is.1)
  steps_as (event.Take searcher edition want) told is = take_as searcher edition want told is
  steps_as (event.Grow searcher fragment) told is = grow_as searcher fragment told is
  steps_as (event.GiveBack work examined) told is = back_as work examined told is
  steps_as (event.Publish edition plan) told is = publish_as edition plan told is
  steps_as (event.Settle edition) told is = settle_as edition told is
  steps_as (event.Stop edition) told is = stop_as edition told is

pub enters_as : (v : Known Entry Terms) (asked : CoreEvent) (told : CoreReply) (w : Known Entry Terms) → Enters v asked told w → EntersAs asked told v w
enters_as v asked told w enters = steps_as v w enters.before enters.after enters.ran.knows enters.ran.found.begins.starts asked told enters.steps
