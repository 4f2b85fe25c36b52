use Rattle.std.proofs.Common.{Err, ap, refl, option_map}
use Rattle.std.proofs.lemmas.Result.{err_from_is_err_and}
use Rattle.text_puts.specs.Outside.{outside}
use Rattle.text_puts.proofs.Counting.{stays}
use Rattle.journal_printer.proofs.Entries.{one_unput, one_unwritten}
use Rattle.journal_printer.proofs.printing.print_entry.Goals as goal

pub returns-in_err-put_tree-clause-printed : goal.returns-in_err-put_tree-clause-printed
returns-in_err-put_tree-clause-printed g c =
    let p = err_from_is_err_and c.from_residual.result c.from_residual.ensures.1 in
    rw (p.1, p.2)
    (one_unput (option_map (λ prefix. prefix.now) c.args.trees) c.args.entry.now
    (outside (g.S.Shelf.state c.args.shelf.now) (g.O.Sink.state c.args.out.now))
    (outside (g.S.Shelf.state c.put_tree.new.shelf) (g.O.Sink.state c.args.out.now))
    c.in_err-put_tree.field-0.0
    (λ h. c.in_err-put_tree.ensures.failed (ap Err h))
    (λ h. c.in_err-put_tree.ensures.memory (ap Err h))
    (λ name rises. let e = c.in_err-put_tree.ensures.risen name rises in cc)
    c.in_err-put_tree.ensures.others c.in_err-put_tree.ensures.readings refl refl)

pub returns-in_err-write_line-clause-printed : goal.returns-in_err-write_line-clause-printed
returns-in_err-write_line-clause-printed g c =
    let p = err_from_is_err_and c.from_residual-in_err-write_line.result
    c.from_residual-in_err-write_line.ensures.1 in
    rw (p.1, p.2)
    (one_unwritten (option_map (λ prefix. prefix.now) c.args.trees) c.args.entry.now
    (outside (g.S.Shelf.state c.args.shelf.now) (g.O.Sink.state c.args.out.now))
    (outside (g.S.Shelf.state c.put_tree.new.shelf) (g.O.Sink.state c.write_line.new.out))
    c.in_err-write_line.field-0.0
    c.in_ok-put_tree.ensures.ok
    (λ name. stays _ _ (c.in_ok-put_tree.ensures.others name).never_falls
    (λ rises. let e = c.in_ok-put_tree.ensures.risen name rises in absurd cc))
    c.in_ok-put_tree.ensures.readings
    (λ h. c.in_err-write_line.ensures.part (ap Err h))
    (λ h. c.in_err-write_line.ensures.memory (ap Err h))
    (λ h. c.in_err-write_line.ensures.failed.0 (ap Err h))
    (λ rises. let e = c.in_err-write_line.ensures.failed.1 rises in cc)
    c.in_err-write_line.ensures.counted)
