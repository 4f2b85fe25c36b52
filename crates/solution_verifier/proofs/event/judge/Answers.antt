use Rattle.std.proofs.Common.{rules, ◌≡◌, ◌+◌, ◌<◌, ◌≤◌, length, get_or, Some, arith, refl}
use Rattle.std.specs.Prelude.{IfSome}
use Rattle.std.proofs.lemmas.Option.{slice_get_read}
use Rattle.disp_model.specs.declared.train.Operation.{Operation}
use Rattle.disp_model.specs.declared.plan.Event.{Event}
use Rattle.disp_model.specs.Train.{IsSuccessor, duration_of}
use Rattle.disp_model.specs.Plan.{run_of}
use Rattle.disp_model.specs.Valid.{operation_of, train_at}
use Rattle.solution_verifier.specs.Rules.{KeepsRule, train_there, operation_there, time_rises, first_is_entry, next_is_successor, from_lower, until_upper, lasts_its_duration}
use Rattle.solution_verifier.proofs.Ends.{of_each_end, of_the_end}
use Rattle.solution_verifier.proofs.Ranks.{none_below, one_more, all_kept}
use Rattle.solution_verifier.proofs.Judging.{broken_at, refuted, entry_kept, entry_broken, of_operation}
use Rattle.solution_verifier.proofs.event.judge.Goals as goal

pub returns-in_default : goal.returns-in_default
returns-in_default c =
    let b0 = none_below (KeepsRule c.args.problem.now c.args.stood.now c.args.event.now) in
    broken_at c.args.problem.now c.args.stood.now c.args.event.now train_there b0 (λ k. let none : length c.args.problem.now.trains ≤ c.args.event.now.train = search rules in omega (arith, none, k))

pub returns-in_default-get : goal.returns-in_default-get
returns-in_default-get c =
    let k0 : c.args.event.now.train < length c.args.problem.now.trains = search rules in
    let same : c.as_slice-train.result.now ≡ (train_at c.args.problem.now c.args.event.now.train) = search rules in
    let b0 = none_below (KeepsRule c.args.problem.now c.args.stood.now c.args.event.now) in
    let b1 = one_more (KeepsRule c.args.problem.now c.args.stood.now c.args.event.now) train_there b0 k0 in
    broken_at c.args.problem.now c.args.stood.now c.args.event.now operation_there b1 (λ k. let none : length (train_at c.args.problem.now c.args.event.now.train) ≤ c.args.event.now.operation = search rules in omega (arith, none, k))

pub returns-then-not-is_in_order : goal.returns-then-not-is_in_order
returns-then-not-is_in_order c =
    let k0 : c.args.event.now.train < length c.args.problem.now.trains = search rules in
    let same : c.as_slice-train.result.now ≡ (train_at c.args.problem.now c.args.event.now.train) = search rules in
    let k1 : c.args.event.now.operation < length (train_at c.args.problem.now c.args.event.now.train) = search rules in
    let b0 = none_below (KeepsRule c.args.problem.now c.args.stood.now c.args.event.now) in
    let b1 = one_more (KeepsRule c.args.problem.now c.args.stood.now c.args.event.now) train_there b0 k0 in
    let b2 = one_more (KeepsRule c.args.problem.now c.args.stood.now c.args.event.now) operation_there b1 k1 in
    broken_at c.args.problem.now c.args.stood.now c.args.event.now time_rises b2 (refuted c.is_in_order.result _ c.is_in_order.ensures (search rules))

pub returns-then-not-starts_well : goal.returns-then-not-starts_well
returns-then-not-starts_well c =
    let k0 : c.args.event.now.train < length c.args.problem.now.trains = search rules in
    let same : c.as_slice-train.result.now ≡ (train_at c.args.problem.now c.args.event.now.train) = search rules in
    let k1 : c.args.event.now.operation < length (train_at c.args.problem.now c.args.event.now.train) = search rules in
    let k2 : (KeepsRule c.args.problem.now c.args.stood.now c.args.event.now) time_rises = c.is_in_order.ensures.0 (search rules) in
    let b0 = none_below (KeepsRule c.args.problem.now c.args.stood.now c.args.event.now) in
    let b1 = one_more (KeepsRule c.args.problem.now c.args.stood.now c.args.event.now) train_there b0 k0 in
    let b2 = one_more (KeepsRule c.args.problem.now c.args.stood.now c.args.event.now) operation_there b1 k1 in
    let b3 = one_more (KeepsRule c.args.problem.now c.args.stood.now c.args.event.now) time_rises b2 k2 in
    broken_at c.args.problem.now c.args.stood.now c.args.event.now first_is_entry b3 (λ k. refuted c.starts_well.result _ c.starts_well.ensures (search rules) (rw same (entry_broken (train_at c.args.problem.now c.args.event.now.train) c.args.event.now.operation (run_of c.args.event.now.train c.args.stood.now) c.last_of-before.result c.last_of-before.ensures k)))

pub returns-then-not-is_successor : goal.returns-then-not-is_successor
returns-then-not-is_successor c =
    let k0 : c.args.event.now.train < length c.args.problem.now.trains = search rules in
    let same : c.as_slice-train.result.now ≡ (train_at c.args.problem.now c.args.event.now.train) = search rules in
    let k1 : c.args.event.now.operation < length (train_at c.args.problem.now c.args.event.now.train) = search rules in
    let k2 : (KeepsRule c.args.problem.now c.args.stood.now c.args.event.now) time_rises = c.is_in_order.ensures.0 (search rules) in
    let k3 : (KeepsRule c.args.problem.now c.args.stood.now c.args.event.now) first_is_entry = entry_kept (train_at c.args.problem.now c.args.event.now.train) c.args.event.now.operation (run_of c.args.event.now.train c.args.stood.now) c.last_of-before.result c.last_of-before.ensures k1 (rw same at (c.starts_well.ensures.0 (search rules))) in
    let b0 = none_below (KeepsRule c.args.problem.now c.args.stood.now c.args.event.now) in
    let b1 = one_more (KeepsRule c.args.problem.now c.args.stood.now c.args.event.now) train_there b0 k0 in
    let b2 = one_more (KeepsRule c.args.problem.now c.args.stood.now c.args.event.now) operation_there b1 k1 in
    let b3 = one_more (KeepsRule c.args.problem.now c.args.stood.now c.args.event.now) time_rises b2 k2 in
    let b4 = one_more (KeepsRule c.args.problem.now c.args.stood.now c.args.event.now) first_is_entry b3 k3 in
    broken_at c.args.problem.now c.args.stood.now c.args.event.now next_is_successor b4 (λ k. refuted c.is_successor.result _ c.is_successor.ensures (search rules) (rw same (of_the_end (λ (d : Event). IsSuccessor (train_at c.args.problem.now c.args.event.now.train) d.operation c.args.event.now.operation) (run_of c.args.event.now.train c.args.stood.now) c.last_of-before.result c.last_of-before.ensures k)))

pub returns-then-event-from : goal.returns-then-event-from
returns-then-event-from c =
    let k0 : c.args.event.now.train < length c.args.problem.now.trains = search rules in
    let same : c.as_slice-train.result.now ≡ (train_at c.args.problem.now c.args.event.now.train) = search rules in
    let k1 : c.args.event.now.operation < length (train_at c.args.problem.now c.args.event.now.train) = search rules in
    let there : c.in-Some-get.operation.now ≡ get_or (train_at c.args.problem.now c.args.event.now.train) c.args.event.now.operation c.in-Some-get.operation.now = search rules in
    let at : operation_of c.args.problem.now c.args.event.now ≡ Some c.in-Some-get.operation.now = slice_get_read (train_at c.args.problem.now c.args.event.now.train) (length (train_at c.args.problem.now c.args.event.now.train)) c.args.event.now.operation c.in-Some-get.operation.now refl k1 there in
    let k2 : (KeepsRule c.args.problem.now c.args.stood.now c.args.event.now) time_rises = c.is_in_order.ensures.0 (search rules) in
    let k3 : (KeepsRule c.args.problem.now c.args.stood.now c.args.event.now) first_is_entry = entry_kept (train_at c.args.problem.now c.args.event.now.train) c.args.event.now.operation (run_of c.args.event.now.train c.args.stood.now) c.last_of-before.result c.last_of-before.ensures k1 (rw same at (c.starts_well.ensures.0 (search rules))) in
    let k4 : (KeepsRule c.args.problem.now c.args.stood.now c.args.event.now) next_is_successor = of_each_end (λ (d : Event). IsSuccessor (train_at c.args.problem.now c.args.event.now.train) d.operation c.args.event.now.operation) (run_of c.args.event.now.train c.args.stood.now) c.last_of-before.result c.last_of-before.ensures (rw same at (c.is_successor.ensures.0 (search rules))) in
    let b0 = none_below (KeepsRule c.args.problem.now c.args.stood.now c.args.event.now) in
    let b1 = one_more (KeepsRule c.args.problem.now c.args.stood.now c.args.event.now) train_there b0 k0 in
    let b2 = one_more (KeepsRule c.args.problem.now c.args.stood.now c.args.event.now) operation_there b1 k1 in
    let b3 = one_more (KeepsRule c.args.problem.now c.args.stood.now c.args.event.now) time_rises b2 k2 in
    let b4 = one_more (KeepsRule c.args.problem.now c.args.stood.now c.args.event.now) first_is_entry b3 k3 in
    let b5 = one_more (KeepsRule c.args.problem.now c.args.stood.now c.args.event.now) next_is_successor b4 k4 in
    broken_at c.args.problem.now c.args.stood.now c.args.event.now from_lower b5 (λ k. let low : c.in-Some-get.operation.now.lower ≤ c.args.event.now.time = k c.in-Some-get.operation.now at in omega (arith, low))

pub returns-then-not-is_within_upper : goal.returns-then-not-is_within_upper
returns-then-not-is_within_upper c =
    let k0 : c.args.event.now.train < length c.args.problem.now.trains = search rules in
    let same : c.as_slice-train.result.now ≡ (train_at c.args.problem.now c.args.event.now.train) = search rules in
    let k1 : c.args.event.now.operation < length (train_at c.args.problem.now c.args.event.now.train) = search rules in
    let there : c.in-Some-get.operation.now ≡ get_or (train_at c.args.problem.now c.args.event.now.train) c.args.event.now.operation c.in-Some-get.operation.now = search rules in
    let at : operation_of c.args.problem.now c.args.event.now ≡ Some c.in-Some-get.operation.now = slice_get_read (train_at c.args.problem.now c.args.event.now.train) (length (train_at c.args.problem.now c.args.event.now.train)) c.args.event.now.operation c.in-Some-get.operation.now refl k1 there in
    let k2 : (KeepsRule c.args.problem.now c.args.stood.now c.args.event.now) time_rises = c.is_in_order.ensures.0 (search rules) in
    let k3 : (KeepsRule c.args.problem.now c.args.stood.now c.args.event.now) first_is_entry = entry_kept (train_at c.args.problem.now c.args.event.now.train) c.args.event.now.operation (run_of c.args.event.now.train c.args.stood.now) c.last_of-before.result c.last_of-before.ensures k1 (rw same at (c.starts_well.ensures.0 (search rules))) in
    let k4 : (KeepsRule c.args.problem.now c.args.stood.now c.args.event.now) next_is_successor = of_each_end (λ (d : Event). IsSuccessor (train_at c.args.problem.now c.args.event.now.train) d.operation c.args.event.now.operation) (run_of c.args.event.now.train c.args.stood.now) c.last_of-before.result c.last_of-before.ensures (rw same at (c.is_successor.ensures.0 (search rules))) in
    let k5 : (KeepsRule c.args.problem.now c.args.stood.now c.args.event.now) from_lower = of_operation (λ (o : Operation). o.lower ≤ c.args.event.now.time) c.args.problem.now c.args.event.now c.in-Some-get.operation.now at (omega arith) in
    let b0 = none_below (KeepsRule c.args.problem.now c.args.stood.now c.args.event.now) in
    let b1 = one_more (KeepsRule c.args.problem.now c.args.stood.now c.args.event.now) train_there b0 k0 in
    let b2 = one_more (KeepsRule c.args.problem.now c.args.stood.now c.args.event.now) operation_there b1 k1 in
    let b3 = one_more (KeepsRule c.args.problem.now c.args.stood.now c.args.event.now) time_rises b2 k2 in
    let b4 = one_more (KeepsRule c.args.problem.now c.args.stood.now c.args.event.now) first_is_entry b3 k3 in
    let b5 = one_more (KeepsRule c.args.problem.now c.args.stood.now c.args.event.now) next_is_successor b4 k4 in
    let b6 = one_more (KeepsRule c.args.problem.now c.args.stood.now c.args.event.now) from_lower b5 k5 in
    broken_at c.args.problem.now c.args.stood.now c.args.event.now until_upper b6 (λ k. refuted c.is_within_upper.result _ c.is_within_upper.ensures (search rules) (k c.in-Some-get.operation.now at))

pub returns-then-not-has_lasted : goal.returns-then-not-has_lasted
returns-then-not-has_lasted c =
    let k0 : c.args.event.now.train < length c.args.problem.now.trains = search rules in
    let same : c.as_slice-train.result.now ≡ (train_at c.args.problem.now c.args.event.now.train) = search rules in
    let k1 : c.args.event.now.operation < length (train_at c.args.problem.now c.args.event.now.train) = search rules in
    let there : c.in-Some-get.operation.now ≡ get_or (train_at c.args.problem.now c.args.event.now.train) c.args.event.now.operation c.in-Some-get.operation.now = search rules in
    let at : operation_of c.args.problem.now c.args.event.now ≡ Some c.in-Some-get.operation.now = slice_get_read (train_at c.args.problem.now c.args.event.now.train) (length (train_at c.args.problem.now c.args.event.now.train)) c.args.event.now.operation c.in-Some-get.operation.now refl k1 there in
    let k2 : (KeepsRule c.args.problem.now c.args.stood.now c.args.event.now) time_rises = c.is_in_order.ensures.0 (search rules) in
    let k3 : (KeepsRule c.args.problem.now c.args.stood.now c.args.event.now) first_is_entry = entry_kept (train_at c.args.problem.now c.args.event.now.train) c.args.event.now.operation (run_of c.args.event.now.train c.args.stood.now) c.last_of-before.result c.last_of-before.ensures k1 (rw same at (c.starts_well.ensures.0 (search rules))) in
    let k4 : (KeepsRule c.args.problem.now c.args.stood.now c.args.event.now) next_is_successor = of_each_end (λ (d : Event). IsSuccessor (train_at c.args.problem.now c.args.event.now.train) d.operation c.args.event.now.operation) (run_of c.args.event.now.train c.args.stood.now) c.last_of-before.result c.last_of-before.ensures (rw same at (c.is_successor.ensures.0 (search rules))) in
    let k5 : (KeepsRule c.args.problem.now c.args.stood.now c.args.event.now) from_lower = of_operation (λ (o : Operation). o.lower ≤ c.args.event.now.time) c.args.problem.now c.args.event.now c.in-Some-get.operation.now at (omega arith) in
    let k6 : (KeepsRule c.args.problem.now c.args.stood.now c.args.event.now) until_upper = of_operation (λ (o : Operation). IfSome o.upper (λ u. c.args.event.now.time ≤ u)) c.args.problem.now c.args.event.now c.in-Some-get.operation.now at (c.is_within_upper.ensures.0 (search rules)) in
    let b0 = none_below (KeepsRule c.args.problem.now c.args.stood.now c.args.event.now) in
    let b1 = one_more (KeepsRule c.args.problem.now c.args.stood.now c.args.event.now) train_there b0 k0 in
    let b2 = one_more (KeepsRule c.args.problem.now c.args.stood.now c.args.event.now) operation_there b1 k1 in
    let b3 = one_more (KeepsRule c.args.problem.now c.args.stood.now c.args.event.now) time_rises b2 k2 in
    let b4 = one_more (KeepsRule c.args.problem.now c.args.stood.now c.args.event.now) first_is_entry b3 k3 in
    let b5 = one_more (KeepsRule c.args.problem.now c.args.stood.now c.args.event.now) next_is_successor b4 k4 in
    let b6 = one_more (KeepsRule c.args.problem.now c.args.stood.now c.args.event.now) from_lower b5 k5 in
    let b7 = one_more (KeepsRule c.args.problem.now c.args.stood.now c.args.event.now) until_upper b6 k6 in
    broken_at c.args.problem.now c.args.stood.now c.args.event.now lasts_its_duration b7 (λ k. refuted c.has_lasted.result _ c.has_lasted.ensures (search rules) (rw same (of_the_end (λ (d : Event). d.time + duration_of (train_at c.args.problem.now c.args.event.now.train) d.operation ≤ c.args.event.now.time) (run_of c.args.event.now.train c.args.stood.now) c.last_of-before.result c.last_of-before.ensures k)))

pub returns : goal.returns
returns c =
    let k0 : c.args.event.now.train < length c.args.problem.now.trains = search rules in
    let same : c.as_slice-train.result.now ≡ (train_at c.args.problem.now c.args.event.now.train) = search rules in
    let k1 : c.args.event.now.operation < length (train_at c.args.problem.now c.args.event.now.train) = search rules in
    let there : c.in-Some-get.operation.now ≡ get_or (train_at c.args.problem.now c.args.event.now.train) c.args.event.now.operation c.in-Some-get.operation.now = search rules in
    let at : operation_of c.args.problem.now c.args.event.now ≡ Some c.in-Some-get.operation.now = slice_get_read (train_at c.args.problem.now c.args.event.now.train) (length (train_at c.args.problem.now c.args.event.now.train)) c.args.event.now.operation c.in-Some-get.operation.now refl k1 there in
    let k2 : (KeepsRule c.args.problem.now c.args.stood.now c.args.event.now) time_rises = c.is_in_order.ensures.0 (search rules) in
    let k3 : (KeepsRule c.args.problem.now c.args.stood.now c.args.event.now) first_is_entry = entry_kept (train_at c.args.problem.now c.args.event.now.train) c.args.event.now.operation (run_of c.args.event.now.train c.args.stood.now) c.last_of-before.result c.last_of-before.ensures k1 (rw same at (c.starts_well.ensures.0 (search rules))) in
    let k4 : (KeepsRule c.args.problem.now c.args.stood.now c.args.event.now) next_is_successor = of_each_end (λ (d : Event). IsSuccessor (train_at c.args.problem.now c.args.event.now.train) d.operation c.args.event.now.operation) (run_of c.args.event.now.train c.args.stood.now) c.last_of-before.result c.last_of-before.ensures (rw same at (c.is_successor.ensures.0 (search rules))) in
    let k5 : (KeepsRule c.args.problem.now c.args.stood.now c.args.event.now) from_lower = of_operation (λ (o : Operation). o.lower ≤ c.args.event.now.time) c.args.problem.now c.args.event.now c.in-Some-get.operation.now at (omega arith) in
    let k6 : (KeepsRule c.args.problem.now c.args.stood.now c.args.event.now) until_upper = of_operation (λ (o : Operation). IfSome o.upper (λ u. c.args.event.now.time ≤ u)) c.args.problem.now c.args.event.now c.in-Some-get.operation.now at (c.is_within_upper.ensures.0 (search rules)) in
    let k7 : (KeepsRule c.args.problem.now c.args.stood.now c.args.event.now) lasts_its_duration = of_each_end (λ (d : Event). d.time + duration_of (train_at c.args.problem.now c.args.event.now.train) d.operation ≤ c.args.event.now.time) (run_of c.args.event.now.train c.args.stood.now) c.last_of-before.result c.last_of-before.ensures (rw same at (c.has_lasted.ensures.0 (search rules))) in
    let b0 = none_below (KeepsRule c.args.problem.now c.args.stood.now c.args.event.now) in
    let b1 = one_more (KeepsRule c.args.problem.now c.args.stood.now c.args.event.now) train_there b0 k0 in
    let b2 = one_more (KeepsRule c.args.problem.now c.args.stood.now c.args.event.now) operation_there b1 k1 in
    let b3 = one_more (KeepsRule c.args.problem.now c.args.stood.now c.args.event.now) time_rises b2 k2 in
    let b4 = one_more (KeepsRule c.args.problem.now c.args.stood.now c.args.event.now) first_is_entry b3 k3 in
    let b5 = one_more (KeepsRule c.args.problem.now c.args.stood.now c.args.event.now) next_is_successor b4 k4 in
    let b6 = one_more (KeepsRule c.args.problem.now c.args.stood.now c.args.event.now) from_lower b5 k5 in
    let b7 = one_more (KeepsRule c.args.problem.now c.args.stood.now c.args.event.now) until_upper b6 k6 in
    let b8 = one_more (KeepsRule c.args.problem.now c.args.stood.now c.args.event.now) lasts_its_duration b7 k7 in
    all_kept (KeepsRule c.args.problem.now c.args.stood.now c.args.event.now) b8
