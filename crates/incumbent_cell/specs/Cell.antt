-- What clauses see of a cell and of a pass: which cell it is, and what the pass knows.
use Rattle.atomic_table.specs.Seated.{TableId}
use Rattle.incumbent_cell.specs.declared.cell.Least.{Least}
use Rattle.incumbent_cell.specs.declared.pass.CellPass.{CellPass}
use Rattle.incumbent_cell.specs.declared.pass.Known.{Known}

abbrev pub cell_of : {A : Type 0} → Least A → TableId
cell_of c = c.table.shared.table_id

abbrev pub own_cell : CellPass → TableId
own_cell p = p.seat.table_id

abbrev pub knowledge_of : CellPass → Known
knowledge_of p = p.seat.me.0
