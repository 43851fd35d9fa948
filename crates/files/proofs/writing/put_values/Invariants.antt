use Rattle.std.proofs.Common.{take}
use Rattle.files.proofs.Filling.{Put}
use Rattle.files.proofs.writing.put_values.Given as goal

abbrev pub invariant-loop-value : goal.invariant-loop-value
invariant-loop-value l = Put l.initial.memory l.memory l.at l.to (take l.value-index l.values)
