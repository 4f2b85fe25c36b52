-- What the core asks of those who step it.
use Rattle.std.specs.Prelude.{◌≡◌, ◌<◌, ◌≤◌, Bool, true, [], ◌∷◌, All, length}
use Rattle.disp_model.specs.WellFormed.{horizon}
use Rattle.disp_model.specs.Node.{node_at}
use Rattle.disp_model.specs.History.{fixings_after}
use Rattle.open_nodes.specs.declared.work.Work.{Work}
use Rattle.open_nodes.specs.declared.work.Fragment.{Fragment}
use Rattle.tree_growth.specs.Grown.{GrowsBelow, branches}
use Rattle.dispatch_core.specs.declared.event.CoreEvent.{CoreEvent}
use Rattle.dispatch_core.specs.declared.event.CoreEvent.TheVariants as event
use Rattle.dispatch_core.specs.States.{Core, IsExamined}

-- under the fixings of its work's edition the fragment grows at the work's node, by no more
-- branches than were allowed
pub record IsGrowth (core : Core) (fragment : Fragment) : Type 0 where
  pub grows : GrowsBelow core.settings.rule fragment.work.best
      (node_at core.problem (fixings_after fragment.work.edition core.history)
      fragment.work.decisions ∷ []) fragment.subtree fragment.bounds
  pub few : branches fragment.subtree ≤ fragment.work.allowance

-- a work comes back as examined only where it is
abbrev pub MayGiveBack : Core → Work → Bool → Type 0
MayGiveBack core work examined =
    examined ≡ true → IsExamined core.settings.rule
    (node_at core.problem (fixings_after work.edition core.history) work.decisions) work.bound

abbrev pub MayStep : Core → CoreEvent → Type 0
MayStep core (event.Ask feed line change) = Unit {0}
MayStep core (event.Unread feed line why) = Unit {0}
MayStep core (event.Show feed line) = Unit {0}
MayStep core (event.FeedEnd feed) = feed < length core.ended
MayStep core (event.Leave searcher) = searcher < length core.left
MayStep core event.Next = Unit {0}
MayStep core (event.Take searcher edition want) = Unit {0}
MayStep core (event.Grow searcher fragment) = IsGrowth core fragment
MayStep core (event.GiveBack work examined) = MayGiveBack core work examined
MayStep core (event.Publish edition plan) = All (λ e. e.time ≤ horizon core.problem.trains) plan
MayStep core (event.Settle edition) = Unit {0}
MayStep core (event.Stop edition) = Unit {0}
