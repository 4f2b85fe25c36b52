use Rattle.std.proofs.Common.{◌^◌, ◌<◌, ◌∷◌, [], arith}
use Rattle.std.proofs.lemmas.List.Elements.{All-cons, All-nil}
use Rattle.incremental_paths.specs.declared.arc.Arc.{Arc}
use Rattle.incremental_paths.proofs.Bounds.{few_short}
use Rattle.plan_tests.proofs.tests.timed.reached.Goals as goal

pub add-requires-clause-short : goal.add-requires-clause-short
add-requires-clause-short c none =
    let new : Arc = record { from = 0; to = 1; length = c.from.result } in
    rw c.in_ok-timed.ensures (few_short (2 ∷ 0 ∷ []) (new ∷ [])
    (All-cons (λ n. n < 2 ^ 32) 2 (0 ∷ []) (omega arith) (All-cons (λ n. n < 2 ^ 32) 0 [] (omega arith) (All-nil (λ n. n < 2 ^ 32))))
    (All-cons (λ (a : Arc). a.length < 2 ^ 32) new [] (omega arith) (All-nil (λ (a : Arc). a.length < 2 ^ 32))) (omega arith) (rw c.in_ok-timed.ensures at none))
