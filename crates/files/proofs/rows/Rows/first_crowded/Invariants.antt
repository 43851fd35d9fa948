use Rattle.std.proofs.Common.{ℕ, ◌<◌, length}
use Rattle.files.specs.Listed.{rows_marks, rows_values}
use Rattle.files.specs.Refusing.{earlier}
use Rattle.files.proofs.rows.Rows.first_crowded.Given as goal

abbrev pub invariant-loop-i : goal.invariant-loop-i
invariant-loop-i l = (k : ℕ) → k < l.i → length (earlier (rows_marks l.self) (rows_values l.self) k) < 64
