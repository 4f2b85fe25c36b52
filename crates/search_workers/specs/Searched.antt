-- What a search of the newest edition leaves of the core.
use Rattle.std.specs.Prelude.{◌≡◌, ◌≢◌, List, ◌++◌, All}
use Rattle.disp_model.specs.declared.entry.Entry.{Entry}
use Rattle.disp_model.specs.declared.entry.Entry.TheVariants.{Asked, Unread, Shown, Grown, Published, Settled, Stopped}
use Rattle.disp_model.specs.declared.entry.Mark.TheVariants.{Working}
use Rattle.disp_model.specs.Node.{Node, node_at}
use Rattle.disp_model.specs.History.{changes_of, edition_of, newest, mark_of}
use Rattle.disp_model.specs.Replies.{IsEdition}
use Rattle.open_nodes.specs.declared.work.Work.{Work}
use Rattle.dispatch_core.specs.declared.event.CoreEvent.{CoreEvent}
use Rattle.dispatch_core.specs.declared.event.CoreEvent.TheVariants as event
use Rattle.dispatch_core.specs.States.{Core}
use Rattle.search_workers.specs.declared.turn.Turn.{Turn}
use Rattle.search_workers.specs.declared.turn.Turn.TheVariants as turn

-- an entry of a search
abbrev pub IsOfSearch : Entry → Type 0
IsOfSearch (Asked feed line change told) = ⊥
IsOfSearch (Unread feed line why) = ⊥
IsOfSearch (Shown feed line standing) = ⊥
IsOfSearch (Grown searcher edition seen node splits) = Unit {0}
IsOfSearch (Published edition plan cost) = Unit {0}
IsOfSearch (Settled edition verdict tree) = Unit {0}
IsOfSearch (Stopped edition spent bound) = Unit {0}

-- entries of a search came behind the others, and nothing else has changed but the tree
pub record CoreGoesOn (before after : Core) : Type 0 where
  pub problem : after.problem ≡ before.problem
  pub settings : after.settings ≡ before.settings
  pub more : List Entry
  pub history : after.history ≡ before.history ++ more
  pub of_search : All IsOfSearch more
  pub ended : after.ended ≡ before.ended
  pub left : after.left ≡ before.left

-- the newest edition is settled or stopped
abbrev pub IsClosed : Core → Type 0
IsClosed core = mark_of (newest core.history) core.history ≢ Working

-- what a searcher asks of the core
abbrev pub IsSearchEvent : CoreEvent → Type 0
IsSearchEvent (event.Ask feed line change) = ⊥
IsSearchEvent (event.Unread feed line why) = ⊥
IsSearchEvent (event.Show feed line) = ⊥
IsSearchEvent (event.FeedEnd feed) = ⊥
IsSearchEvent (event.Leave searcher) = ⊥
IsSearchEvent event.Next = Unit {0}
IsSearchEvent (event.Take searcher edition want) = Unit {0}
IsSearchEvent (event.Grow searcher fragment) = Unit {0}
IsSearchEvent (event.GiveBack work examined) = Unit {0}
IsSearchEvent (event.Publish edition plan) = Unit {0}
IsSearchEvent (event.Settle edition) = Unit {0}
IsSearchEvent (event.Stop edition) = Unit {0}

-- a node of the newest edition, whose accepted changes are those of an edition
pub record IsOfNewest (core : Core) (node : Node) : Type 0 where
  pub problem : node.problem ≡ core.problem
  pub fixings : node.fixings ≡ edition_of core.history
  pub edition : IsEdition core.problem (changes_of core.history)

-- the node of a work under the newest edition's fixings
abbrev pub node_of : Core → Work → Node
node_of core work = node_at core.problem (edition_of core.history) work.decisions

-- the work is one of the newest edition; or that is closed
abbrev pub IsTurn : Core → Turn → Type 0
IsTurn core (turn.Work work) = work.edition ≡ newest core.history
IsTurn core turn.Closed = IsClosed core
IsTurn core turn.On = Unit {0}
