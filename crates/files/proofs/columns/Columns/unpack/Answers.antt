use Rattle.std.proofs.Common.{◌≡◌, ◌%◌, ◌<◌, ◌∙◌, arith, length-set}
use Rattle.files.specs.Contents.{bit}
use Rattle.files.proofs.Packing.{taken_more}
use Rattle.files.proofs.columns.Columns.unpack.Goals as goal
use Rattle.files.proofs.columns.Columns.unpack.Goals.{then-left-eq1, else-left-eq1}

pub loop-mark-preserved : goal.loop-mark-preserved
loop-mark-preserved c =
    let taken : bit c.if-left-eq1.mark ≡ c.loop-mark.left % 2 = elim c.if-left-eq1.branch [
      | then-left-eq1 w ↦ rw w.mark-is (omega arith)
      | else-left-eq1 w ↦ rw w.mark-is (omega arith)
    ] in
    let inside : c.loop-mark.mark-index < c.args.width = omega arith in
    (length-set _ _ _ ∙ c.loop-mark.invariant.0, taken_more _ _ _ _ _ _ inside (omega arith) taken c.loop-mark.invariant.1)
