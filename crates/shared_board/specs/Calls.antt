-- What a call asks of its pass, and what it does.
use Rattle.std.specs.Prelude.{◌≡◌, ℕ, ◌<◌, ◌≤◌, ◌⊎◌, true, List, [], ◌∷◌, All, Some}
use Rattle.disp_model.specs.declared.entry.Entry.{Entry}
use Rattle.disp_model.specs.declared.plan.Event.{Event}
use Rattle.disp_model.specs.WellFormed.{horizon}
use Rattle.disp_model.specs.Node.{node_at}
use Rattle.disp_model.specs.Valid.{IsValid}
use Rattle.disp_model.specs.History.{fixings_after, newest}
use Rattle.disp_model.specs.Legal.{IsLegal}
use Rattle.open_nodes.specs.declared.work.Work.{Work}
use Rattle.open_nodes.specs.declared.work.Fragment.{Fragment}
use Rattle.tree_growth.specs.Grown.{GrowsBelow, branches}
use Rattle.dispatch_core.specs.declared.event.CoreEvent.{CoreEvent}
use Rattle.dispatch_core.specs.declared.event.CoreEvent.TheVariants as event
use Rattle.dispatch_core.specs.declared.event.CoreReply.{CoreReply}
use Rattle.dispatch_core.specs.States.{Core, IsSound, IsExamined}
use Rattle.dispatch_core.specs.Asked.{MayStep}
use Rattle.dispatch_core.specs.Replies.{Steps}
use Rattle.turn_lock.specs.Known.{Known, with_miss}
use Rattle.turn_lock.specs.Section.{MayFindAt, Ran, OwnsPlaces}
use Rattle.shared_board.specs.declared.errors.TryNo.{TryNo}
use Rattle.shared_board.specs.declared.errors.TryNo.TheVariants.{Busy, Memory}
use Rattle.shared_board.specs.declared.stored.Stored.{Stored}
use Rattle.shared_board.specs.declared.terms.Terms.{Terms}
use Rattle.shared_board.specs.Callers.{terms_of, searcher_caller, caller_of}

-- ---- what a pass tells of the stored core

-- the core may be behind the lock when the pass gets the turn: it has the pass's terms, is sound,
-- and its history begins with what the pass has seen, past which it names the pass's caller nowhere
abbrev pub FindsCore : Known Entry Terms → Core → Type 0
FindsCore v core = MayFindAt (λ (s : Stored). s.core.history) caller_of
    (λ (s : Stored). terms_of s.core) (λ (s : Stored). IsSound s.core) v.caller v.terms v.seen
    v.count (record { core = core })

-- what was seen is a legal history for the pass's terms
abbrev pub IsLegalSeen : Known Entry Terms → Type 0
IsLegalSeen v = (terms : Terms) → v.terms ≡ Some terms → IsLegal terms.problem terms.settings v.seen

-- the pass is of a feed of the board
pub record IsFeed (v : Known Entry Terms) : Type 0 where
  pub terms : Terms
  pub terms_are : v.terms ≡ Some terms
  pub within : v.caller < terms.feeds

-- the pass is of a searcher of the board
pub record IsSearcher (v : Known Entry Terms) : Type 0 where
  pub terms : Terms
  pub terms_are : v.terms ≡ Some terms
  pub above : searcher_caller 0 ≤ v.caller
  pub within : v.caller < searcher_caller terms.searchers

-- the pass is of a feed of the board, or the first
abbrev pub HasLines : Known Entry Terms → Type 0
HasLines v = IsFeed v ⊎ (v.first ≡ true)

-- the caller is a feed or a searcher of the pass's board
pub record HasCaller (v : Known Entry Terms) (caller : ℕ) : Type 0 where
  pub terms : Terms
  pub terms_are : v.terms ≡ Some terms
  pub there : (caller < terms.feeds) ⊎ ((searcher_caller 0 ≤ caller)
      × (caller < searcher_caller terms.searchers))

-- ---- what searchers owe

-- under the fixings of its work's edition, which the pass has seen, the fragment grows at the
-- work's node, by no more branches than were allowed
pub record IsGrowthOf (v : Known Entry Terms) (fragment : Fragment) : Type 0 where
  pub terms : Terms
  pub terms_are : v.terms ≡ Some terms
  pub edition : fragment.work.edition ≤ newest v.seen
  pub grows : GrowsBelow terms.settings.rule fragment.work.best
      (node_at terms.problem (fixings_after fragment.work.edition v.seen) fragment.work.decisions
      ∷ []) fragment.subtree fragment.bounds
  pub few : branches fragment.subtree ≤ fragment.work.allowance

-- under the fixings of its edition, which the pass has seen, the work's node is examined
pub record IsExaminedFor (v : Known Entry Terms) (work : Work) : Type 0 where
  pub terms : Terms
  pub terms_are : v.terms ≡ Some terms
  pub edition : work.edition ≤ newest v.seen
  pub examined : IsExamined terms.settings.rule
      (node_at terms.problem (fixings_after work.edition v.seen) work.decisions) work.bound

-- the plan is valid under the fixings of an edition, which the pass has seen, and no time of it is
-- above the horizon
pub record IsPlanFor (v : Known Entry Terms) (number : ℕ) (plan : List Event) : Type 0 where
  pub terms : Terms
  pub terms_are : v.terms ≡ Some terms
  pub edition : number ≤ newest v.seen
  pub valid : IsValid terms.problem (fixings_after number v.seen) plan
  pub within : All (λ e. e.time ≤ horizon terms.problem.trains) plan

-- the entry of the event, if there is one, names this caller or none
abbrev pub IsBy : ℕ → CoreEvent → Type 0
IsBy caller (event.Ask feed line change) = feed ≡ caller
IsBy caller (event.Unread feed line why) = feed ≡ caller
IsBy caller (event.Show feed line) = feed ≡ caller
IsBy caller (event.FeedEnd feed) = Unit {0}
IsBy caller (event.Leave searcher) = Unit {0}
IsBy caller event.Next = Unit {0}
IsBy caller (event.Take searcher edition want) = Unit {0}
IsBy caller (event.Grow searcher fragment) = searcher_caller searcher ≡ caller
IsBy caller (event.GiveBack work examined) = Unit {0}
IsBy caller (event.Publish edition plan) = Unit {0}
IsBy caller (event.Settle edition) = Unit {0}
IsBy caller (event.Stop edition) = Unit {0}

-- how many lines the event answers
abbrev pub lines_in : CoreEvent → ℕ
lines_in (event.Ask feed line change) = 1
lines_in (event.Unread feed line why) = 1
lines_in (event.Show feed line) = 1
lines_in (event.FeedEnd feed) = 0
lines_in (event.Leave searcher) = 0
lines_in event.Next = 0
lines_in (event.Take searcher edition want) = 0
lines_in (event.Grow searcher fragment) = 0
lines_in (event.GiveBack work examined) = 0
lines_in (event.Publish edition plan) = 0
lines_in (event.Settle edition) = 0
lines_in (event.Stop edition) = 0

-- each core that the pass may find takes the event
pub record MayEnter (v : Known Entry Terms) (event : CoreEvent) : Type 0 where
  pub by : IsBy v.caller event
  pub may : (core : Core) → FindsCore v core → MayStep core event

-- ---- what a call does

-- the event was one step of the stored core, alone, with this reply
pub record Enters (v : Known Entry Terms) (event : CoreEvent) (told : CoreReply)
    (w : Known Entry Terms) : Type 0 where
  pub before : Core
  pub after : Core
  pub steps : Steps before event told after
  pub ran : Ran (λ (s : Stored). s.core.history) caller_of (λ (s : Stored). terms_of s.core)
      (λ (s : Stored). IsSound s.core) v (record { core = before }) (record { core = after }) w

-- this core was found, and all its history is seen; nothing else has changed
pub record Looks (v : Known Entry Terms) (core : Core) (w : Known Entry Terms) : Type 0 where
  pub found : FindsCore v core
  pub knows : w ≡ record v { seen = core.history; count = w.count; tries = w.tries }
  pub count : v.count ≤ w.count
  pub tries : v.tries ≤ w.tries
  pub owns : OwnsPlaces caller_of w

-- some core was found
abbrev pub Looked : Known Entry Terms → Known Entry Terms → Type 0
Looked v w = (core : Core) × Looks v core w

-- at most what was seen has grown
abbrev pub SeesOnly : Known Entry Terms → Known Entry Terms → Type 0
SeesOnly v w = (w ≡ v) ⊎ Looked v w

-- the try found the turn taken, or memory ran out
abbrev pub ShowsNot : TryNo → Known Entry Terms → Known Entry Terms → Type 0
ShowsNot Busy v w = w ≡ with_miss v
ShowsNot Memory v w = SeesOnly v w
