-- the texts so far
use Rattle.std.proofs.Common.{take, string_bytes}
use Rattle.std.specs.List.{flat_map}
use Rattle.plain_values.specs.Texts.{Adds}
use Rattle.problem_text.specs.Texts.{behind_comma, written_listing}
use Rattle.problem_text.proofs.operation.push_next_listings.Given as goal

abbrev pub invariant-loop-listing : goal.invariant-loop-listing
invariant-loop-listing l = Adds (string_bytes l.fn.text) (string_bytes l.text)
    (flat_map (behind_comma (written_listing l.names)) (take l.listing-index l.listings))
