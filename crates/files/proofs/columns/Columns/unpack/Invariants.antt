use Rattle.std.proofs.Common.{◌≡◌, length}
use Rattle.files.proofs.Packing.{Taken}
use Rattle.files.proofs.columns.Columns.unpack.Given as goal

abbrev pub invariant-loop-mark : goal.invariant-loop-mark
invariant-loop-mark l = (length l.marks ≡ l.width) × Taken l.width l.packed l.mark-index l.marks l.left
