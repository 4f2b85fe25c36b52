use Rattle.std.proofs.Common.{◌∙◌, List, take, sym, ap}
use Rattle.disp_model.specs.declared.entry.Entry.{Entry}
use Rattle.disp_model.specs.History.{plan_after, last_plan}
use Rattle.history_laws.proofs.Appended.{plan_more}
use Rattle.text_puts.proofs.Counting.{one_more}
use Rattle.answered_tasks.proofs.journal.last_plan.Goals as goal

pub loop-entry-preserved : goal.loop-entry-preserved
loop-entry-preserved c =
    let journal = c.args.journal.now in
    let i = c.loop-entry.entry-index in
    let item = c.entry-item.result in
    c.plan_after-last.ensures ∙ ap (λ b. plan_after b item) c.loop-entry.invariant
    ∙ sym (plan_more (take i journal) item)
    ∙ ap (λ (h : List Entry). last_plan h)
    (sym (one_more journal i item c.loop-entry-test.true c.entry-item.is))
