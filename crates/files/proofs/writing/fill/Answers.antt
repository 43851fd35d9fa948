use Rattle.std.proofs.Common.{◌≡◌, ◌<◌, ℕ, List, [], length, get_or, take, ap, arith}
use Rattle.numbers.specs.Forms.{encodes}
use Rattle.files.specs.Listed.{rows_marks, rows_cells, rows_values}
use Rattle.files.proofs.Sizes.{file_long, row_fits}
use Rattle.files.proofs.Filling.{Put, put_row}
use Rattle.files.proofs.writing.fill.Goals as goal

pub put_values-to-requires : goal.put_values-to-requires
put_values-to-requires c =
    let r = c.args.rows.now in
    omega (arith, c.requires, ap (λ (x : List ℕ). length (encodes x)) c.header.ensures, file_long (rows_marks r) (length (rows_values r)) (rows_values r))

pub put_values-to-requires-in-loop-row : goal.put_values-to-requires-in-loop-row
put_values-to-requires-in-loop-row c =
    let r = c.args.rows.now in
    let inside : c.loop-row.row-index < length (rows_cells r) = rw c.cells-row-items.ensures at c.loop-row-test.true in
    let values : c.values.result.now ≡ take (length (rows_marks r)) (get_or (rows_cells r) c.loop-row.row-index []) = rw (c.columns.ensures, c.cells-row-items.ensures) at c.values.ensures.value in
    omega (arith, c.requires, c.loop-row.invariant.0, ap (λ (x : List ℕ). length (encodes x)) values, row_fits (rows_marks r) (length (rows_values r)) (length (rows_marks r)) c.loop-row.row-index (rows_cells r) inside)

pub loop-row-preserved : goal.loop-row-preserved
loop-row-preserved c =
    let r = c.args.rows.now in
    let inside : c.loop-row.row-index < length (rows_cells r) = rw c.cells-row-items.ensures at c.loop-row-test.true in
    let values : c.values.result.now ≡ take (length (rows_marks r)) (get_or (rows_cells r) c.loop-row.row-index []) = rw (c.columns.ensures, c.cells-row-items.ensures) at c.values.ensures.value in
    let fits = row_fits (rows_marks r) (length (rows_values r)) (length (rows_marks r)) c.loop-row.row-index (rows_cells r) inside in
    let put : Put c.loop-row.memory c.put_values-to-in-loop-row.new.memory c.loop-row.to c.put_values-to-in-loop-row.result c.values.result.now = (c.put_values-to-in-loop-row.ensures.place, c.put_values-to-in-loop-row.ensures.filled) in
    put_row _ _ _ c.loop-row.to _ _ _ c.loop-row.row-index (rows_marks r) (rows_cells r) inside (omega (arith, c.requires)) c.loop-row.invariant (rw values at put)
