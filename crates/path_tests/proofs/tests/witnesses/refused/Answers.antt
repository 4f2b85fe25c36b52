use Rattle.std.proofs.Common.{◌^◌, ◌<◌, ◌∷◌, ◌++◌, [], length, ap, arith}
use Rattle.std.proofs.lemmas.List.{length_push}
use Rattle.std.proofs.lemmas.List.Elements.{All-push}
use Rattle.incremental_paths.specs.declared.arc.Arc.{Arc}
use Rattle.incremental_paths.proofs.Bounds.{few_short}
use Rattle.path_tests.proofs.tests.witnesses.refused.Goals as goal

pub add-added-requires-clause-short : goal.add-added-requires-clause-short
add-added-requires-clause-short g c none =
    let new : Arc = record { from = c.args.from; to = c.args.to; length = 0 } in
    few_short c.args.paths.now.lowers (c.args.paths.now.arcs ++ new ∷ []) c.requires.lowers (All-push (λ (a : Arc). a.length < 2 ^ 32) c.args.paths.now.arcs new c.requires.lengths (omega arith)) (omega (arith, length_push c.args.paths.now.arcs new, ap length c.arcs-kept.ensures.all)) none
