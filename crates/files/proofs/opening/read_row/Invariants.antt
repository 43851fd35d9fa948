use Rattle.std.proofs.Common.{take}
use Rattle.files.specs.Refusing.{Reads}
use Rattle.files.proofs.opening.read_row.Given as goal

abbrev pub invariant-loop-cell : goal.invariant-loop-cell
invariant-loop-cell l = Reads l.bytes l.at (take l.cell-index l.cell-items) l.to
