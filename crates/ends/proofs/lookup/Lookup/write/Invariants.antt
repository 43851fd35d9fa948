use Rattle.std.proofs.Common.{◌+◌}
use Rattle.files.specs.Tables.{table_marks, table_cells}
use Rattle.ends.proofs.Scanning.{Scanned}
use Rattle.ends.proofs.lookup.Lookup.write.Given as goal

abbrev pub invariant-loop-cells : goal.invariant-loop-cells
invariant-loop-cells l = Scanned (table_marks l.self.table.now) l.self.inputs.now (table_cells l.self.table.now) l.fn.memory (l.start + l.cells-index) l.count l.memory
