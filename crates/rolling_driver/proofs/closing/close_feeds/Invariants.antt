-- no count has risen, and the feeds so far are closed
use Rattle.std.proofs.Common.{◌≡◌, ◌↔◌, ◌-◌, ℕ, List, length}
use Rattle.rolling_driver.proofs.closing.close_feeds.Given as goal

abbrev pub invariant-loop-feed : goal.invariant-loop-feed
invariant-loop-feed g l = record {
  knows : (name : List ℕ) → g.S.Shelf.knows l.shelf name ↔ g.S.Shelf.knows l.fn.shelf name;
  counts : (name : List ℕ) → (g.S.Shelf.state l.shelf).reading name ≡ (g.S.Shelf.state l.fn.shelf).reading name;
  puttings : (name : List ℕ) → (g.S.Shelf.state l.shelf).putting name ≡ (g.S.Shelf.state l.fn.shelf).putting name;
  held : (name : List ℕ) → (g.S.Shelf.state l.shelf).holds name ≡ (g.S.Shelf.state l.fn.shelf).holds name;
  closed : g.S.Shelf.open_feeds l.shelf ≡ g.S.Shelf.open_feeds l.fn.shelf - length l.yielded;
}
