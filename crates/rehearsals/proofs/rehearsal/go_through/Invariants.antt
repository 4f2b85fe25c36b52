use Rattle.std.specs.Prelude.{◌≡◌, IfSome}
use Rattle.near_plans.specs.Plans.{IsBeside, IsFoundBeside}
use Rattle.share_bound.specs.Known.{HoldFor}
use Rattle.tree_dives.specs.Guides.{GuidesIn}
use Rattle.rehearsals.proofs.rehearsal.go_through.Given as goal

abbrev pub invariant-loop : goal.invariant-loop
invariant-loop l = IsBeside l.initial.graph l.graph
    × HoldFor l.graph l.known × GuidesIn l.problem l.guide
    × IfSome l.rehearsal.plan (IsFoundBeside l.initial.graph)
