use Rattle.std.proofs.Common.{◌≡◌}
use Rattle.std.specs.Iterator.Adapters.{zip_first, zip_second}
use Rattle.std.specs.Slice.Iter.{iter_rest}
use Rattle.source.specs.Rows.{same}
use Rattle.source.specs.Marks.{picked, matches}
use Rattle.source.proofs.values.holds_inputs.Given as goal

-- what is left of the marks and the row is to hold what is left of the inputs
abbrev pub invariant-loop-mark : goal.invariant-loop-mark
invariant-loop-mark l = same (picked (iter_rest (zip_first l.mark-iterator)) (iter_rest (zip_second l.mark-iterator))) l.left ≡ matches l.marks l.inputs l.row
