use Rattle.std.proofs.Common.{◌≡◌, length}
use Rattle.files.specs.Held.{columns_marks}
use Rattle.files.specs.Listed.{rows_marks, rows_values}
use Rattle.files.specs.Refusing.{Front}
use Rattle.files.proofs.opening.read_rows.Given as goal

abbrev pub invariant-loop : goal.invariant-loop
invariant-loop l = (rows_marks l.rows ≡ columns_marks l.fn.head.columns) × (length (rows_values l.rows) ≡ l.counter) × Front l.bytes (rows_marks l.rows) l.fn.head.count (rows_values l.rows) l.at
