use Rattle.std.proofs.Common.{◌≡◌, ◌^◌, ◌<◌, ◌∷◌, ◌++◌, [], length, Ok, Err, Result, OnOk, OnErr, ap, arith}
use Rattle.std.specs.Prelude.{All}
use Rattle.std.proofs.lemmas.List.{length_push}
use Rattle.std.proofs.lemmas.List.Elements.{All-push}
use Rattle.incremental_paths.specs.declared.arc.Arc.{Arc}
use Rattle.incremental_paths.specs.Network.{Network, with_arc, unchanged}
use Rattle.incremental_paths.proofs.Bounds.{few_short}
use Rattle.plan_tests.proofs.tests.plans.add.Goals as goal

all_after : {E : Type 0} (r : Result (Unit {0}) E) (old new : Network) (arc : Arc) → OnOk r (new.arcs ≡ (with_arc old arc.from arc.to arc.length).arcs) → OnErr r (new ≡ unchanged old) → All (λ a. a.length < 2 ^ 32) old.arcs → arc.length < 2 ^ 32 → All (λ a. a.length < 2 ^ 32) new.arcs
all_after (Ok x) old new arc ok err all short = rw ok (All-push (λ (a : Arc). a.length < 2 ^ 32) old.arcs arc all short)
all_after (Err x) old new arc ok err all short = rw err all

pub add-requires-clause-short : goal.add-requires-clause-short
add-requires-clause-short g c none =
    let new : Arc = record { from = c.args.from; to = c.args.to; length = c.from.result } in
    few_short c.args.paths.now.lowers (c.args.paths.now.arcs ++ new ∷ []) c.requires.lowers (All-push (λ (a : Arc). a.length < 2 ^ 32) c.args.paths.now.arcs new c.requires.lengths (omega arith))
    (omega (arith, length_push c.args.paths.now.arcs new, ap length c.arcs-kept.ensures.all)) none

pub returns-clause-lengths : goal.returns-clause-lengths
returns-clause-lengths g c = all_after c.add.result c.args.paths.now c.add.new.self (record { from = c.args.from; to = c.args.to; length = c.from.result }) c.add.ensures.ok c.add.ensures.err c.requires.lengths (omega arith)
