use Rattle.std.proofs.Common.{rules}
use Rattle.std.proofs.lemmas.Slice.Eq.{slice_eq-Decides}
use Rattle.event_graph.proofs.known.are_fixings.Goals as goal

pub returns : goal.returns
returns c same = (slice_eq-Decides (λ a b. search rules) _ _ _ c.eq.ensures).0 same
