use Rattle.std.proofs.Common.{◌≡◌}
use Rattle.files.specs.Held.{columns_marks}
use Rattle.files.specs.Listed.{rows_marks, rows_values}
use Rattle.files.proofs.Dividing.{Cutting}
use Rattle.files.proofs.making.part.Given as goal

abbrev pub invariant-loop-chunk : goal.invariant-loop-chunk
invariant-loop-chunk l = (rows_marks l.rows ≡ columns_marks l.fn.columns) × (l.chunk-iterator.size ≡ l.width) × Cutting (rows_marks l.rows) l.values (rows_values l.rows) l.chunk-iterator.rest.now
