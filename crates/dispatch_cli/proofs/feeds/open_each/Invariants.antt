-- the feeds of the names so far are open, and no count has risen
use Rattle.std.proofs.Common.{◌≡◌, ◌+◌, ℕ, List, All, length, take}
use Rattle.dispatch_cli.specs.Feeds.{AreOpened}
use Rattle.dispatch_cli.proofs.feeds.open_each.Given as goal

abbrev pub invariant-loop-name : goal.invariant-loop-name
invariant-loop-name g l = record {
  number : l.number ≡ l.name-index;
  opened : AreOpened g.S.Feed.Feed.name g.S.Feed.Feed.lines g.S.Feed.Feed.has_ended g.S.Feed.Feed.faults (g.S.Shelf.state l.fn.shelf).holds (take l.name-index l.names) l.feeds.items;
  known : All (λ feed. g.S.Shelf.knows l.shelf (g.S.Feed.Feed.name feed)) l.feeds.items;
  quiet : (name : List ℕ) → (g.S.Shelf.state l.shelf).reading name ≡ (g.S.Shelf.state l.fn.shelf).reading name;
  puttings : (name : List ℕ) → (g.S.Shelf.state l.shelf).putting name ≡ (g.S.Shelf.state l.fn.shelf).putting name;
  are_open : g.S.Shelf.open_feeds l.shelf ≡ g.S.Shelf.open_feeds l.fn.shelf + length l.feeds.items;
  held : (name : List ℕ) → (g.S.Shelf.state l.shelf).holds name ≡ (g.S.Shelf.state l.fn.shelf).holds name;
}
