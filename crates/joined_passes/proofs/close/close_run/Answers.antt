use Rattle.shared_board.specs.Board.{known}
use Rattle.joined_passes.proofs.Ending.{last_then, none_behind, places_then}
use Rattle.joined_passes.proofs.close.close_run.Goals as goal

pub close-core-requires-clause-last : goal.close-core-requires-clause-last
close-core-requires-clause-last g c = last_then (known c.args.first) (known c.next.new.pass) c.next.result c.next.ensures.told c.requires.last

pub returns-clause-seen : goal.returns-clause-seen
returns-clause-seen g c =
    none_behind (known c.args.first) (known c.next.new.pass) c.next.result c.next.ensures.told c.close-core.result.history c.close-core.ensures.seen c.close-core.ensures.places c.requires.owns

pub returns-clause-places : goal.returns-clause-places
returns-clause-places g c =
    places_then (known c.args.first) (known c.next.new.pass) c.next.result c.next.ensures.told c.close-core.result.history c.close-core.ensures.seen c.close-core.ensures.places
