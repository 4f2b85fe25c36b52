-- Why not all was printed, from what the outside answered.
use Rattle.disp_outside.specs.declared.shelf.PutNo.{PutNo}
use Rattle.disp_outside.specs.declared.shelf.PutNo.TheVariants as put
use Rattle.disp_outside.specs.declared.sink.WriteNo.{WriteNo}
use Rattle.disp_outside.specs.declared.sink.WriteNo.TheVariants as write
use Rattle.journal_printer.specs.declared.no.PrintNo.{PrintNo}
use Rattle.journal_printer.specs.declared.no.PrintNo.TheVariants.{Unput, Unwritten, Memory}

abbrev pub of_put : PutNo → PrintNo
of_put put.Failed = Unput
of_put put.Memory = Memory

abbrev pub of_write : WriteNo → PrintNo
of_write write.Failed = Unwritten
of_write write.Memory = Memory
