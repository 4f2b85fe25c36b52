-- Where the entry of a call stands.
use Rattle.std.specs.Prelude.{◌≡◌, ℕ, List, [], ◌∷◌, ◌++◌, length}
use Rattle.disp_model.specs.declared.entry.Entry.{Entry}
use Rattle.disp_model.specs.declared.entry.Entry.TheVariants as entry
use Rattle.disp_model.specs.declared.entry.Split.{Split}
use Rattle.disp_model.specs.declared.tree.TreeNode.{TreeNode}
use Rattle.dispatch_core.specs.declared.event.CoreEvent.{CoreEvent}
use Rattle.dispatch_core.specs.declared.event.CoreEvent.TheVariants as event
use Rattle.dispatch_core.specs.declared.event.CoreReply.{CoreReply}
use Rattle.dispatch_core.specs.declared.event.CoreReply.TheVariants as reply
use Rattle.turn_lock.specs.Known.{Known, StartsWith}
use Rattle.shared_board.specs.declared.terms.Terms.{Terms}

-- whose pass it is, and what it gave and has back, are as before
pub record SameRole (v w : Known Entry Terms) : Type 0 where
  pub first : w.first ≡ v.first
  pub caller : w.caller ≡ v.caller
  pub terms : w.terms ≡ v.terms
  pub given : w.given ≡ v.given
  pub back : w.back ≡ v.back

-- the entry stands last in what is seen, behind all that was seen before, and its place is the
-- pass's last
pub record StandsEntered (v : Known Entry Terms) (one : Entry) (w : Known Entry Terms)
    : Type 0 where
  pub front : List Entry
  pub starts : StartsWith front v.seen
  pub seen : w.seen ≡ front ++ one ∷ []
  pub mine : w.mine ≡ v.mine ++ length front ∷ []

-- the call's entry stands there, where its reply has one
abbrev pub EntersAs : CoreEvent → CoreReply → Known Entry Terms → Known Entry Terms → Type 0
EntersAs (event.Ask feed line change) (reply.Asked told) v w =
    StandsEntered v (entry.Asked feed line change told) w
EntersAs (event.Unread feed line why) reply.Noted v w =
    StandsEntered v (entry.Unread feed line why) w
EntersAs (event.Show feed line) (reply.Shown standing) v w =
    StandsEntered v (entry.Shown feed line standing) w
EntersAs (event.Grow searcher fragment) (reply.Grown count) v w =
    (splits : List Split) × StandsEntered v
    (entry.Grown searcher fragment.work.edition fragment.work.seen fragment.work.node splits) w
    × (count ≡ length splits)
EntersAs (event.Publish edition plan) (reply.Published cost) v w =
    StandsEntered v (entry.Published edition plan cost) w
EntersAs (event.Settle edition) (reply.Settled verdict) v w = (tree : List TreeNode)
    × StandsEntered v (entry.Settled edition verdict tree) w
EntersAs (event.Stop edition) (reply.Stopped bound) v w = (spent : ℕ)
    × StandsEntered v (entry.Stopped edition spent bound) w
EntersAs asked told v w = w.mine ≡ v.mine
