-- What the core replies to an event, and what its state is then.
use Rattle.std.specs.Prelude.{◌≡◌, ◌≢◌, ℕ, ◌<◌, ◌≤◌, Bool, true, false, List, [], ◌∷◌, ◌++◌, count_by, length, Option, Some, None, slice_set, if◌then◌else◌}
use Rattle.disp_model.specs.declared.fixing.Change.{Change}
use Rattle.disp_model.specs.declared.reply.Reply.{Reply}
use Rattle.disp_model.specs.declared.reply.Reply.TheVariants.{Accepted, Known, Refused}
use Rattle.disp_model.specs.declared.plan.Event.{Event}
use Rattle.disp_model.specs.declared.entry.Entry.TheVariants as entry
use Rattle.disp_model.specs.declared.entry.Mark.TheVariants.{Working}
use Rattle.disp_model.specs.declared.entry.Split.{Split}
use Rattle.disp_model.specs.declared.entry.Standing.{Standing}
use Rattle.disp_model.specs.declared.tree.Verdict.{Verdict}
use Rattle.disp_model.specs.Cost.{cost_of}
use Rattle.disp_model.specs.Changes.{standing_of}
use Rattle.disp_model.specs.Valid.{IsValid}
use Rattle.disp_model.specs.Replies.{IsReply}
use Rattle.disp_model.specs.Replay.{spent_on}
use Rattle.disp_model.specs.History.{changes_of, edition_of, newest, IsBestCost, mark_of, IsStanding}
use Rattle.disp_model.specs.Legal.{IsVerdictOf}
use Rattle.open_nodes.specs.declared.work.Work.{Work}
use Rattle.open_nodes.specs.declared.work.Fragment.{Fragment}
use Rattle.open_nodes.specs.declared.work.Take.{Take}
use Rattle.open_nodes.specs.declared.work.Take.TheVariants as take
use Rattle.open_nodes.specs.declared.work.Growth.TheVariants as growth
use Rattle.open_nodes.specs.declared.work.GiveBack.TheVariants as giveback
use Rattle.open_nodes.specs.States.{State, Takes, GivesBack, IsLeastBound}
use Rattle.open_nodes.specs.Grafts.{GrowsBy}
use Rattle.open_nodes.specs.Preorder.{IsFirstSought, preorder}
use Rattle.open_nodes.specs.Shown.{tree_of, with_edition}
use Rattle.tree_growth.specs.Left.{IsLeft}
use Rattle.solution_verifier.specs.First.{IsFirstFault}
use Rattle.dispatch_core.specs.declared.event.CoreEvent.{CoreEvent}
use Rattle.dispatch_core.specs.declared.event.CoreEvent.TheVariants as event
use Rattle.dispatch_core.specs.declared.event.CoreReply.{CoreReply}
use Rattle.dispatch_core.specs.declared.event.CoreReply.TheVariants as reply
use Rattle.dispatch_core.specs.States.{Core, entered, with_nodes, free_of, Settles}

-- ---- editions

-- the named edition is the newest, and worked on
pub record IsCurrent (core : Core) (edition : ℕ) : Type 0 where
  pub newest_is : edition ≡ newest core.history
  pub working : mark_of (newest core.history) core.history ≡ Working

-- why nothing is done for a named edition: it is above the newest, below it, or closed
abbrev pub NotCurrent : Core → ℕ → CoreReply → Type 0
NotCurrent core edition (reply.Ahead n) = (n ≡ newest core.history) × (n < edition)
NotCurrent core edition (reply.Newer n) = (n ≡ newest core.history) × (edition < n)
NotCurrent core edition (reply.Closed mark) = (edition ≡ newest core.history)
    × (mark ≡ mark_of (newest core.history) core.history) × (mark ≢ Working)
NotCurrent core edition _ = ⊥

-- ---- feeds

-- the tree after a change: where it is accepted it is that of a newer edition, and leaves that no
-- longer hold have fallen back
abbrev pub IsTreeAfter : Core → Change → Reply → State → Type 0
IsTreeAfter core change (Accepted number) after =
    Settles core.problem (standing_of (changes_of core.history ++ change ∷ []))
    (with_edition core.nodes number) after
IsTreeAfter core change (Known number) after = after ≡ core.nodes
IsTreeAfter core change (Refused why) after = after ≡ core.nodes

pub record Asks (core : Core) (feed line : ℕ) (change : Change) (told : Reply) (after : Core)
    : Type 0 where
  pub told_is : IsReply core.problem (changes_of core.history) change told
  pub nodes : State
  pub tree : IsTreeAfter core change told nodes
  pub after_is : after ≡ with_nodes (entered core (entry.Asked feed line change told)) nodes

pub record ShowsStanding (core : Core) (feed line : ℕ) (standing : Standing) (after : Core)
    : Type 0 where
  pub standing_is : IsStanding core.problem core.history standing
  pub after_is : after ≡ entered core (entry.Shown feed line standing)

abbrev pub with_ended : Core → ℕ → Core
with_ended core feed = record {
  problem = core.problem;
  settings = core.settings;
  history = core.history;
  nodes = core.nodes;
  ended = slice_set core.ended feed true;
  left =
      core.left;
}

abbrev pub with_left : Core → ℕ → Core
with_left core searcher = record {
  problem = core.problem;
  settings = core.settings;
  history = core.history;
  nodes = core.nodes;
  ended = core.ended;
  left =
      slice_set core.left searcher true;
}

-- how many have not ended
abbrev pub open_feed_count : List Bool → ℕ
open_feed_count ended = count_by (λ e. if e then false else true) ended

abbrev pub IsNextReply : Core → CoreReply → Type 0
IsNextReply core (reply.Work edition) = (edition ≡ newest core.history)
    × (mark_of (newest core.history) core.history ≡ Working)
IsNextReply core (reply.FeedsOpen count) = (mark_of (newest core.history) core.history ≢ Working)
    × (count ≡ open_feed_count core.ended) × (1 ≤ count)
IsNextReply core reply.Over = (mark_of (newest core.history) core.history ≢ Working)
    × (open_feed_count core.ended ≡ 0)
IsNextReply core _ = ⊥

-- ---- searchers

-- what a leaf is taken with: the best cost, how much is free, the place in the history
pub record TakesFrom (core : Core) (edition want : ℕ) (answer : Take) (after : Core) : Type 0 where
  pub current : IsCurrent core edition
  pub best : Option ℕ
  pub best_is : IsBestCost core.problem core.history best
  pub nodes : State
  pub takes : Takes core.nodes best (free_of core) want (length core.history) answer nodes
  pub after_is : after ≡ with_nodes core nodes

abbrev pub IsTake : Core → ℕ → ℕ → CoreReply → Core → Type 0
IsTake core edition want reply.Ripe after = TakesFrom core edition want take.Ripe after
IsTake core edition want (reply.Taken work) after =
    TakesFrom core edition want (take.Taken work) after
IsTake core edition want (reply.AllOut count) after =
    TakesFrom core edition want (take.AllOut count) after
IsTake core edition want (reply.Dry spent) after = TakesFrom core edition want take.Dry after
    × (spent ≡ spent_on (newest core.history) core.history) × (spent ≡ core.settings.budget)
IsTake core edition want told after = NotCurrent core edition told × (after ≡ core)

-- what is left of the fragment under the newest edition is in the tree
pub record GrowsIn (core : Core) (searcher : ℕ) (fragment : Fragment) (splits : List Split)
    (after : Core) : Type 0 where
  pub left : Fragment
  pub left_is : IsLeft core.problem (edition_of core.history) fragment left
  pub nodes : State
  pub grows : GrowsBy core.problem core.nodes left (growth.Grown splits) nodes
  pub after_is : after ≡ with_nodes (entered core
      (entry.Grown searcher fragment.work.edition fragment.work.seen fragment.work.node splits))
      nodes

abbrev pub IsGrow : Core → ℕ → Fragment → CoreReply → Core → Type 0
IsGrow core searcher fragment (reply.Grown count) after = (splits : List Split)
    × GrowsIn core searcher fragment splits after × (count ≡ length splits)
IsGrow core searcher fragment (reply.Gone node) after =
    GrowsBy core.problem core.nodes fragment (growth.Gone node) after.nodes × (after ≡ core)
IsGrow core searcher fragment _ after = ⊥

pub record GivesIn (core : Core) (work : Work) (examined : Bool) (after : Core) : Type 0 where
  pub nodes : State
  pub gives : GivesBack core.nodes work examined giveback.Back nodes
  pub after_is : after ≡ with_nodes core nodes

abbrev pub IsGiveBack : Core → Work → Bool → CoreReply → Core → Type 0
IsGiveBack core work examined reply.Noted after = GivesIn core work examined after
IsGiveBack core work examined (reply.Gone node) after =
    GivesBack core.nodes work examined (giveback.Gone node) after.nodes × (after ≡ core)
IsGiveBack core work examined _ after = ⊥

-- ---- verdicts

-- a valid plan's cost is not below the best
pub record IsNoBetter (core : Core) (plan : List Event) (best : ℕ) : Type 0 where
  pub valid : IsValid core.problem (edition_of core.history) plan
  pub best_is : IsBestCost core.problem core.history (Some best)
  pub not_below : best ≤ cost_of core.problem.components plan

-- a valid plan costs less than the best, or there is none
pub record IsBetter (core : Core) (plan : List Event) (cost : ℕ) : Type 0 where
  pub valid : IsValid core.problem (edition_of core.history) plan
  pub cost_is : cost ≡ cost_of core.problem.components plan
  pub best : Option ℕ
  pub best_is : IsBestCost core.problem core.history best
  pub below : (other : ℕ) → best ≡ Some other → cost < other

abbrev pub IsPublish : Core → ℕ → List Event → CoreReply → Core → Type 0
IsPublish core edition plan (reply.Invalid fault) after = IsCurrent core edition
    × IsFirstFault core.problem (edition_of core.history) plan None fault × (after ≡ core)
IsPublish core edition plan (reply.NotBetter best) after = IsCurrent core edition
    × IsNoBetter core plan best × (after ≡ core)
IsPublish core edition plan (reply.Published cost) after = IsCurrent core edition
    × IsBetter core plan cost × (after ≡ entered core (entry.Published edition plan cost))
IsPublish core edition plan told after = NotCurrent core edition told × (after ≡ core)

-- no leaf is wanted, and the verdict is that of the best cost
pub record IsRipe (core : Core) (verdict : Verdict) : Type 0 where
  pub best : Option ℕ
  pub best_is : IsBestCost core.problem core.history best
  pub none : IsFirstSought core.nodes.places best None (preorder core.nodes.places) None
  pub verdict_is : IsVerdictOf best verdict

-- a leaf is wanted, the first one, with this kept bound
pub record IsStillOpen (core : Core) (edition : Option ℕ) (node bound : ℕ) : Type 0 where
  pub best : Option ℕ
  pub best_is : IsBestCost core.problem core.history best
  pub first : IsFirstSought core.nodes.places best edition (preorder core.nodes.places)
      (Some (node, bound))

abbrev pub IsSettle : Core → ℕ → CoreReply → Core → Type 0
IsSettle core edition (reply.StillOpen node bound) after = IsCurrent core edition
    × IsStillOpen core None node bound × (after ≡ core)
IsSettle core edition (reply.Settled verdict) after = IsCurrent core edition × IsRipe core verdict
    × (after ≡ entered core (entry.Settled edition verdict (tree_of core.nodes)))
IsSettle core edition told after = NotCurrent core edition told × (after ≡ core)

-- the budget is spent, and each wanted leaf, of which there are some, is examined; the bound is the
-- least of theirs
pub record IsStopBound (core : Core) (bound : ℕ) : Type 0 where
  pub spent : spent_on (newest core.history) core.history ≡ core.settings.budget
  pub best : Option ℕ
  pub best_is : IsBestCost core.problem core.history best
  pub marked : IsFirstSought core.nodes.places best (Some (newest core.history))
      (preorder core.nodes.places) None
  pub least : IsLeastBound core.nodes.places (Some bound)
  pub below : (other : ℕ) → best ≡ Some other → bound < other

abbrev pub IsStopReply : Core → ℕ → CoreReply → Core → Type 0
IsStopReply core edition (reply.NotSpent spent) after = IsCurrent core edition
    × (spent ≡ spent_on (newest core.history) core.history) × (spent < core.settings.budget)
    × (after ≡ core)
IsStopReply core edition reply.Ripe after = IsCurrent core edition
    × (spent_on (newest core.history) core.history ≡ core.settings.budget)
    × ((verdict : Verdict) × IsRipe core verdict) × (after ≡ core)
IsStopReply core edition (reply.Unexamined node) after = IsCurrent core edition
    × (spent_on (newest core.history) core.history ≡ core.settings.budget)
    × ((bound : ℕ) × IsStillOpen core (Some (newest core.history)) node bound) × (after ≡ core)
IsStopReply core edition (reply.Stopped bound) after = IsCurrent core edition
    × IsStopBound core bound × (after ≡ entered core
    (entry.Stopped edition (spent_on (newest core.history) core.history) bound))
IsStopReply core edition told after = NotCurrent core edition told × (after ≡ core)

-- ---- every event

abbrev pub IsNoted : CoreReply → Type 0
IsNoted reply.Noted = Unit {0}
IsNoted _ = ⊥

abbrev pub IsAsk : Core → ℕ → ℕ → Change → CoreReply → Core → Type 0
IsAsk core feed line change (reply.Asked told) after = Asks core feed line change told after
IsAsk core feed line change _ after = ⊥

abbrev pub IsShow : Core → ℕ → ℕ → CoreReply → Core → Type 0
IsShow core feed line (reply.Shown standing) after = ShowsStanding core feed line standing after
IsShow core feed line _ after = ⊥

-- what is replied to an event, and the state then
abbrev pub Steps : Core → CoreEvent → CoreReply → Core → Type 0
Steps core (event.Ask feed line change) told after = IsAsk core feed line change told after
Steps core (event.Unread feed line why) told after = IsNoted told
    × (after ≡ entered core (entry.Unread feed line why))
Steps core (event.Show feed line) told after = IsShow core feed line told after
Steps core (event.FeedEnd feed) told after = IsNoted told × (after ≡ with_ended core feed)
Steps core (event.Leave searcher) told after = IsNoted told × (after ≡ with_left core searcher)
Steps core event.Next told after = IsNextReply core told × (after ≡ core)
Steps core (event.Take searcher edition want) told after = IsTake core edition want told after
Steps core (event.Grow searcher fragment) told after = IsGrow core searcher fragment told after
Steps core (event.GiveBack work examined) told after = IsGiveBack core work examined told after
Steps core (event.Publish edition plan) told after = IsPublish core edition plan told after
Steps core (event.Settle edition) told after = IsSettle core edition told after
Steps core (event.Stop edition) told after = IsStopReply core edition told after

-- the event may want memory; each other one is answered without
abbrev pub TakesMemory : CoreEvent → Type 0
TakesMemory (event.Ask feed line change) = Unit {0}
TakesMemory (event.Unread feed line why) = Unit {0}
TakesMemory (event.Show feed line) = Unit {0}
TakesMemory (event.FeedEnd feed) = ⊥
TakesMemory (event.Leave searcher) = ⊥
TakesMemory event.Next = ⊥
TakesMemory (event.Take searcher edition want) = Unit {0}
TakesMemory (event.Grow searcher fragment) = Unit {0}
TakesMemory (event.GiveBack work examined) = ⊥
TakesMemory (event.Publish edition plan) = Unit {0}
TakesMemory (event.Settle edition) = Unit {0}
TakesMemory (event.Stop edition) = Unit {0}
