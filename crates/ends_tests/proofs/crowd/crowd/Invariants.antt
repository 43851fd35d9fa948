use Rattle.std.proofs.Common.{◌≡◌, [], ◌∷◌, ◌++◌}
use Rattle.ends_tests.specs.Crowds.{crowd_rows}
use Rattle.ends_tests.proofs.crowd.crowd.Given as goal

abbrev pub invariant-loop-row : goal.invariant-loop-row
invariant-loop-row l = l.bytes.items ≡ (2 ∷ 1 ∷ l.rows ∷ []) ++ crowd_rows l.row
