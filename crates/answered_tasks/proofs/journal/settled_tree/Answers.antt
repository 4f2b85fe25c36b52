use Rattle.std.proofs.Common.{◌∙◌, List, take, sym, ap}
use Rattle.disp_model.specs.declared.entry.Entry.{Entry}
use Rattle.answered_tasks.specs.Settled.{tree_after, settled_tree}
use Rattle.answered_tasks.proofs.Shown.{tree_more}
use Rattle.text_puts.proofs.Counting.{one_more}
use Rattle.answered_tasks.proofs.journal.settled_tree.Goals as goal

pub loop-entry-preserved : goal.loop-entry-preserved
loop-entry-preserved c =
    let number = c.args.number in
    let journal = c.args.journal.now in
    let i = c.loop-entry.entry-index in
    let item = c.entry-item.result in
    c.tree_after-settled.ensures ∙ ap (λ b. tree_after number b item) c.loop-entry.invariant
    ∙ sym (tree_more number (take i journal) item)
    ∙ ap (λ (h : List Entry). settled_tree number h)
    (sym (one_more journal i item c.loop-entry-test.true c.entry-item.is))
