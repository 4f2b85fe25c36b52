use Rattle.std.proofs.Common.{◌≡◌, ◌-◌, false, subst, arith}
use Rattle.std.proofs.lemmas.List.{get_or-map, length-map}
use Rattle.rolling_driver.proofs.opening.close_left.Goals as goal

pub close_readers-requires-clause-feeds : goal.close_readers-requires-clause-feeds
close_readers-requires-clause-feeds g c = λ lifetimes outlived. λ place d within.
    let new = rw c.in-Readers.is at c.requires.feeds in
    let longer = length-map c.in-Readers.readers.items (λ r. r.feed) in
    subst (λ f. (g.S.Feed.Feed.has_ended f ≡ false) × (g.S.Feed.Feed.faults f ≡ 0)) (get_or-map (λ r. r.feed) c.in-Readers.readers.items place d d.feed within)
    (new place d.feed (omega (arith, within, longer)))

pub close_readers-requires-clause-known : goal.close_readers-requires-clause-known
close_readers-requires-clause-known g c = λ lifetimes outlived. λ place d within.
    let known = rw c.in-Readers.is at c.requires.known in
    let longer = length-map c.in-Readers.readers.items (λ r. r.feed) in
    subst (λ f. g.S.Shelf.knows c.args.shelf.now (g.S.Feed.Feed.name f)) (get_or-map (λ r. r.feed) c.in-Readers.readers.items place d d.feed within)
    (known place d.feed (omega (arith, within, longer)))

pub returns-in-Readers-clause-closed : goal.returns-in-Readers-clause-closed
returns-in-Readers-clause-closed g c =
    let longer = length-map c.in-Readers.readers.items (λ r. r.feed) in
    let closed = c.close_readers.ensures.closed in rw c.in-Readers.is (omega (arith, longer, closed))
