-- the lines before this one are taken, and the others are left
use Rattle.std.proofs.Common.{◌≡◌, ◌≤◌, ◌-◌, false}
use Rattle.fixing_files.specs.Files.{HasRead, HasNoted}
use Rattle.fixing_files.proofs.take.take_fixings.Given as goal

abbrev pub invariant-loop-number : goal.invariant-loop-number
invariant-loop-number g l = record {
  first : 1 ≤ l.number;
  problem : l.editions.problem ≡ l.fn.editions.problem;
  open_ : g.F.Feed.has_ended l.feed ≡ false;
  faults : g.F.Feed.faults l.feed ≡ g.F.Feed.faults l.fn.feed;
  named : g.F.Feed.name l.feed ≡ g.F.Feed.name l.fn.feed;
  noted : HasNoted l.fn.editions.problem (g.F.Feed.lines l.fn.feed) (l.number - 1) l.asked.items
      l.editions.changes;
  lines : HasRead l.fn.editions.problem (g.F.Feed.lines l.fn.feed) (g.F.Feed.lines l.feed) (l.number - 1) l.editions.changes;
}
