-- the texts so far were put, and no putting failed
use Rattle.std.proofs.Common.{◌≡◌, ℕ, List, take}
use Rattle.text_puts.specs.Puts.{StandsAfter}
use Rattle.text_puts.proofs.putting.put_all.Given as goal

abbrev pub invariant-loop-due : goal.invariant-loop-due
invariant-loop-due g l = record {
  stands : StandsAfter (take l.due-index l.puts) (g.S.Shelf.state l.fn.shelf).holds
      (g.S.Shelf.state l.shelf).holds;
  counts : (name : List ℕ) → (g.S.Shelf.state l.shelf).putting name
      ≡ (g.S.Shelf.state l.fn.shelf).putting name;
  readings : (name : List ℕ) → (g.S.Shelf.state l.shelf).reading name
      ≡ (g.S.Shelf.state l.fn.shelf).reading name;
  known : (name : List ℕ) → g.S.Shelf.knows l.fn.shelf name → g.S.Shelf.knows l.shelf name;
  feeds : g.S.Shelf.open_feeds l.shelf ≡ g.S.Shelf.open_feeds l.fn.shelf;
}
