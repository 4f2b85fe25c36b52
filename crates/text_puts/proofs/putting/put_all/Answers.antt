use Rattle.std.proofs.Common.{◌≡◌, ◌∙◌, List, Err, true, subst, refl, sym, ap, take}
use Rattle.std.proofs.lemmas.Result.{err_from_is_err_and}
use Rattle.disp_outside.specs.declared.shelf.PutNo.TheVariants.{Failed, Memory}
use Rattle.text_puts.specs.declared.put.Put.{Put}
use Rattle.text_puts.specs.Puts.{StandsAfter}
use Rattle.text_puts.proofs.Counting.{stays, one_more, same_all}
use Rattle.text_puts.proofs.Puttings.{stands_next, next_fails, misses_at, unput_at, only_at}
use Rattle.text_puts.proofs.putting.put_all.Goals as goal

pub returns-in_err-put-clause-failed : goal.returns-in_err-put-clause-failed
returns-in_err-put-clause-failed g c is =
    let p = err_from_is_err_and c.from_residual.result c.from_residual.ensures.1 in
    let failed : c.in_err-put.field-0.0 ≡ Failed = cc (p.1, p.2, is) in
    misses_at _ _ _ _ _ _ _ _ _ _ (next_fails c.args.puts.now c.loop-due.due-index c.due-item.result
    c.in_err-put.field-0.0
    (g.S.Shelf.state c.args.shelf.now).holds (g.S.Shelf.state c.loop-due.shelf).holds
    (g.S.Shelf.state c.put.new.self).holds
    (g.S.Shelf.state c.args.shelf.now).putting (g.S.Shelf.state c.loop-due.shelf).putting
    (g.S.Shelf.state c.put.new.self).putting c.as_str.result.now c.as_str.ensures
    c.loop-due-test.true c.due-item.is c.loop-due.invariant.stands c.loop-due.invariant.counts
    c.in_err-put.ensures.held c.in_err-put.ensures.other_counts c.in_err-put.ensures.counted
    (λ h. c.in_err-put.ensures.failed.0 (ap Err h))
    (λ lt. let e = c.in_err-put.ensures.failed.1 lt in cc)
    (λ h. c.in_err-put.ensures.memory_held (ap Err h))) failed

pub returns-in_err-put-clause-memory : goal.returns-in_err-put-clause-memory
returns-in_err-put-clause-memory g c is =
    let p = err_from_is_err_and c.from_residual.result c.from_residual.ensures.1 in
    let memory : c.in_err-put.field-0.0 ≡ Memory = cc (p.1, p.2, is) in
    unput_at _ _ _ _ _ _ _ _ _ _ (next_fails c.args.puts.now c.loop-due.due-index c.due-item.result
    c.in_err-put.field-0.0
    (g.S.Shelf.state c.args.shelf.now).holds (g.S.Shelf.state c.loop-due.shelf).holds
    (g.S.Shelf.state c.put.new.self).holds
    (g.S.Shelf.state c.args.shelf.now).putting (g.S.Shelf.state c.loop-due.shelf).putting
    (g.S.Shelf.state c.put.new.self).putting c.as_str.result.now c.as_str.ensures
    c.loop-due-test.true c.due-item.is c.loop-due.invariant.stands c.loop-due.invariant.counts
    c.in_err-put.ensures.held c.in_err-put.ensures.other_counts c.in_err-put.ensures.counted
    (λ h. c.in_err-put.ensures.failed.0 (ap Err h))
    (λ lt. let e = c.in_err-put.ensures.failed.1 lt in cc)
    (λ h. c.in_err-put.ensures.memory_held (ap Err h))) memory

pub returns-in_err-put-clause-others : goal.returns-in_err-put-clause-others
returns-in_err-put-clause-others g c name = only_at _ _ _ _ _ _ _ _ _ _
    (next_fails c.args.puts.now c.loop-due.due-index c.due-item.result c.in_err-put.field-0.0
    (g.S.Shelf.state c.args.shelf.now).holds (g.S.Shelf.state c.loop-due.shelf).holds
    (g.S.Shelf.state c.put.new.self).holds
    (g.S.Shelf.state c.args.shelf.now).putting (g.S.Shelf.state c.loop-due.shelf).putting
    (g.S.Shelf.state c.put.new.self).putting c.as_str.result.now c.as_str.ensures
    c.loop-due-test.true c.due-item.is c.loop-due.invariant.stands c.loop-due.invariant.counts
    c.in_err-put.ensures.held c.in_err-put.ensures.other_counts c.in_err-put.ensures.counted
    (λ h. c.in_err-put.ensures.failed.0 (ap Err h))
    (λ lt. let e = c.in_err-put.ensures.failed.1 lt in cc)
    (λ h. c.in_err-put.ensures.memory_held (ap Err h))) name

pub loop-due-preserved : goal.loop-due-preserved
loop-due-preserved g c =
    let puts = c.args.puts.now in
    let i = c.loop-due.due-index in
    let old = (g.S.Shelf.state c.args.shelf.now).holds in
    let new = (g.S.Shelf.state c.put.new.self).holds in
    let before = (g.S.Shelf.state c.loop-due.shelf).putting in
    let behind = (g.S.Shelf.state c.put.new.self).putting in
    record {
      stands = subst (λ (l : List Put). StandsAfter l old new)
          (sym (one_more puts i c.due-item.result c.loop-due-test.true c.due-item.is))
          (stands_next (take i puts) c.due-item.result old (g.S.Shelf.state c.loop-due.shelf).holds new
          c.as_str.result.now c.as_slice.result.now c.as_str.ensures c.as_slice.ensures
          c.loop-due.invariant.stands (c.in_ok-put.ensures.bytes (refl {a = true}))
          c.in_ok-put.ensures.held);
      counts = λ name. same_all c.as_str.result.now before behind
          (stays _ _ c.in_ok-put.ensures.counted
          (λ h. let e = c.in_ok-put.ensures.failed.1 h in absurd cc))
          c.in_ok-put.ensures.other_counts name ∙ c.loop-due.invariant.counts name;
      readings = λ name. c.in_ok-put.ensures.reading_counts name
          ∙ c.loop-due.invariant.readings name;
      known = λ name known. c.in_ok-put.ensures.still_known name
          (c.loop-due.invariant.known name known);
      feeds = c.in_ok-put.ensures.feeds ∙ c.loop-due.invariant.feeds;
    }
