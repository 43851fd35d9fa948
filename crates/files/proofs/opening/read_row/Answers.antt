use Rattle.std.proofs.Common.{rules, arith}
use Rattle.files.proofs.Reading.{reads_none, one_more}
use Rattle.files.proofs.opening.read_row.Goals as goal

pub loop-cell-init : goal.loop-cell-init
loop-cell-init c = reads_none c.args.bytes.now c.args.at c.requires.at

pub loop-cell-preserved : goal.loop-cell-preserved
loop-cell-preserved c = one_more _ _ _ _ _ _ c.loop-cell.cell-items (omega arith) c.loop-cell.invariant (search rules)
