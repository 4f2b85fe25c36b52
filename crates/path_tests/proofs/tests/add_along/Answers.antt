use Rattle.std.proofs.Common.{ℕ, ◌^◌, ◌<◌, List, ◌∷◌, ◌++◌, [], length, ap, arith}
use Rattle.std.specs.Prelude.{slice_index}
use Rattle.std.proofs.lemmas.List.{length_push}
use Rattle.std.proofs.lemmas.List.Elements.{All-push}
use Rattle.incremental_paths.specs.declared.arc.Arc.{Arc}
use Rattle.incremental_paths.proofs.Bounds.{few_short}
use Rattle.path_tests.proofs.tests.add_along.Goals as goal

pub add_counted-requires-clause-short : goal.add_counted-requires-clause-short
add_counted-requires-clause-short g c none =
    let network = c.args.paths.now.network in
    few_short network.lowers (network.arcs ++ c.args.arc ∷ []) c.requires.lowers (All-push (λ (a : Arc). a.length < 2 ^ 32) network.arcs c.args.arc c.requires.lengths (omega arith)) (omega (arith, length_push network.arcs c.args.arc, ap length c.arcs-kept.ensures.all)) none

pub returns : goal.returns
returns g c = record { steps = c.add_counted.ensures.few (omega (arith, c.place-low.ensures.is, c.place-high.ensures.is, ap (λ (l : List ℕ). slice_index l c.args.arc.from) c.order-order.ensures.is, ap (λ (l : List ℕ). slice_index l c.args.arc.to) c.order-order.ensures.is)) c.length-start.result c.length-end.result c.length-start.ensures.longest c.length-end.ensures.longest (omega arith) }
