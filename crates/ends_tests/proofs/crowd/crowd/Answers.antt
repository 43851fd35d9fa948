use Rattle.std.proofs.Common.{[], ◌∷◌, ◌∙◌}
use Rattle.std.proofs.lemmas.Slice.{pushed}
use Rattle.ends_tests.proofs.Crowds.{crowd_more}
use Rattle.ends_tests.proofs.crowd.crowd.Goals as goal

pub loop-row-preserved : goal.loop-row-preserved
loop-row-preserved c = pushed (1 ∷ c.loop-row.row ∷ []) c.loop-row.invariant c.in_ok-extend_from_slice.was c.extend_from_slice.ensures.items ∙ crowd_more (2 ∷ 1 ∷ c.args.rows ∷ []) c.loop-row.row
