use Rattle.std.proofs.Common.{◌≡◌, ℕ, ◌<◌, List, [], length, get_or, ap, ◌∙◌, arith, below_more}
use Rattle.std.proofs.lemmas.List.{get_or_read}
use Rattle.disp_model.specs.declared.train.Operation.{Operation}
use Rattle.disp_model.specs.Valid.{train_at}
use Rattle.solution_verifier.specs.First.{IsComplete}
use Rattle.solution_verifier.proofs.Clashes.{complete_at}
use Rattle.solution_verifier.proofs.runs.judge_ends.Goals as goal

pub loop-place-preserved : goal.loop-place-preserved
loop-place-preserved c =
    let problem = c.args.problem.now in
    let events = c.args.events.now in
    let trains = c.as_slice-trains.result.now in
    let there : c.loop-place.place < length trains = omega arith in
    let read : c.index-trains-place.result ≡ get_or trains c.loop-place.place [] = get_or_read trains c.loop-place.place c.index-trains-place.result there c.index-trains-place.is [] in
    let same : c.as_slice.result.now ≡ train_at problem c.loop-place.place =
    c.as_slice.ensures ∙ read ∙ ap (λ (l : List (List Operation)). get_or l c.loop-place.place []) c.as_slice-trains.ensures in
    let here : IsComplete problem events c.loop-place.place = complete_at problem events c.loop-place.place c.as_slice.result.now c.last_of.result c.last_of.ensures same (c.ends_at_exit.ensures.0 c.if-not-ends_at_exit.false) in
    below_more (λ (u : ℕ). IsComplete problem events u) c.loop-place.place c.loop-place.invariant here
