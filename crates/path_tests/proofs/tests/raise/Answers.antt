use Rattle.std.proofs.Common.{◌^◌, ◌<◌, max, length, set, ap, arith}
use Rattle.std.specs.Prelude.{slice_index}
use Rattle.std.proofs.lemmas.List.Elements.{All-set, All-get_or}
use Rattle.incremental_paths.proofs.Bounds.{few_short}
use Rattle.path_tests.proofs.tests.raise.Goals as goal

pub raise-requires-clause-short : goal.raise-requires-clause-short
raise-requires-clause-short g c none =
    let old = c.args.paths.now.lowers in
    let lower = max (slice_index old c.args.node) c.from.result in
    let low : slice_index old c.args.node < 2 ^ 32 = All-get_or (λ l. l < 2 ^ 32) old c.args.node 0 (omega arith) c.requires.lowers in
    few_short (set old c.args.node lower) c.args.paths.now.arcs (All-set (λ l. l < 2 ^ 32) old c.args.node lower (omega (arith, low)) c.requires.lowers) c.requires.lengths (omega (arith, ap length c.arcs-kept.ensures.all)) none
