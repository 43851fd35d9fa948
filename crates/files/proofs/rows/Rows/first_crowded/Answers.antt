use Rattle.std.proofs.Common.{length, take, ap, arith}
use Rattle.std.proofs.lemmas.List.{length-map}
use Rattle.files.specs.Listed.{rows_marks, rows_cells}
use Rattle.files.proofs.Matching.{earlier_counted}
use Rattle.files.proofs.rows.Rows.first_crowded.Goals as goal

pub returns-then-count_alike-ge-MATCHES_MAX : goal.returns-then-count_alike-ge-MATCHES_MAX
returns-then-count_alike-ge-MATCHES_MAX c =
    let counted = earlier_counted (rows_marks c.args.self.now) c.loop-i.i c.count_alike.result (rows_cells c.args.self.now) _ _ c.cells-row-items.ensures c.cells.ensures c.loop-i-test.true c.count_alike.ensures in
    record { inside = omega (arith, length-map (rows_cells c.args.self.now) (take (length (rows_marks c.args.self.now))), ap length c.cells-row-items.ensures); many = omega arith; first = c.loop-i.invariant }
