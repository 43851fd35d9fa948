use Rattle.files.specs.Held.{columns_marks}
use Rattle.files.proofs.Packing.{Packed}
use Rattle.files.proofs.columns.Columns.pack.Given as goal

abbrev pub invariant-loop-mark : goal.invariant-loop-mark
invariant-loop-mark l = Packed (columns_marks l.self) l.mark-iterator.iter.rest.now l.packed
