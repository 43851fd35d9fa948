use Rattle.std.proofs.Common.{length, take}
use Rattle.files.specs.Contents.{numbers}
use Rattle.files.specs.Held.{cut}
use Rattle.files.specs.Listed.{rows_marks, rows_cells, rows_values}
use Rattle.files.proofs.Filling.{Put}
use Rattle.files.proofs.writing.fill.Given as goal

abbrev pub invariant-loop-row : goal.invariant-loop-row
invariant-loop-row l = Put l.fn.memory l.memory 0 l.to (numbers (rows_marks l.rows) (length (rows_values l.rows)) (cut (length (rows_marks l.rows)) (take l.row-index (rows_cells l.rows))))
