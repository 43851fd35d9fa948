use Rattle.std.proofs.Common.{◌≡◌, ◌<◌, ◌+◌, ◌*◌, [], List, length, take, sym, ap, ◌∙◌, arith}
use Rattle.std.proofs.lemmas.Bool.{eqb-true}
use Rattle.bounded.proofs.Holding.{length_most}
use Rattle.source.specs.declared.mark.Mark.{Mark}
use Rattle.source.specs.Marks.{inputs_of, matches}
use Rattle.files.specs.Tables.{table_marks, table_cells}
use Rattle.ends.proofs.Scanning.{scanned_one_more, scanned_no_more, room_for_row, none_beyond, part_inside, part_row}
use Rattle.ends.proofs.lookup.Lookup.write.Goals.{then-holds_inputs, else-holds_inputs+else-leads}
use Rattle.ends.proofs.lookup.Lookup.write.Goals as goal

pub put_row-requires : goal.put_row-requires
put_row-requires c =
    let t = c.args.self.now.table.now in
    let inputs = c.args.self.now.inputs.now in
    let i = c.start-start.result + c.loop-cells.cells-index in
    let inside : i < length (table_cells t) = part_inside (table_cells t) c.start-start.result c.loop-cells.cells-index (rw c.rows.ensures.value at c.loop-cells-test.true) in
    let row = rw (c.rows.ensures.value, part_row (table_cells t) c.start-start.result c.loop-cells.cells-index) at c.values-row.ensures.value in
    let holds = ap (matches (table_marks t) inputs) (sym row) ∙ (rw c.marks-marks.ensures.value at (sym c.holds_inputs.ensures.value ∙ c.if-holds_inputs.true)) in
    let room = room_for_row (table_marks t) inputs (table_cells t) i c.loop-cells.count [] (length_most t.rows.columns.marks) (t.matched inputs) inside holds c.loop-cells.invariant.counted in
    let width = ap (λ (ms : List Mark). c.loop-cells.count * length ms) c.marks-marks.ensures.value in
    omega (arith, room, width, c.values-row.ensures.len)

pub loop-cells-preserved : goal.loop-cells-preserved
loop-cells-preserved c =
    let t = c.args.self.now.table.now in
    let marks = table_marks t in
    let inputs = c.args.self.now.inputs.now in
    let i = c.start-start.result + c.loop-cells.cells-index in
    let next : c.start-start.result + (c.loop-cells.cells-index + 1) ≡ i + 1 = omega arith in
    let inside : i < length (table_cells t) = part_inside (table_cells t) c.start-start.result c.loop-cells.cells-index (rw c.rows.ensures.value at c.loop-cells-test.true) in
    let row = rw (c.rows.ensures.value, part_row (table_cells t) c.start-start.result c.loop-cells.cells-index) at c.values-row.ensures.value in
    let holds = rw c.marks-marks.ensures.value at (sym c.holds_inputs.ensures.value) in
    rw next (elim c.if-holds_inputs.branch [
      | then-holds_inputs w ↦ rw (w.count-is, w.memory-is) (scanned_one_more marks inputs (table_cells t) c.args.memory.now i c.loop-cells.count c.values-row.result.now c.loop-cells.memory inside row c.loop-cells.invariant _ c.values-row.ensures.len (holds ∙ w.if-holds_inputs.true) (rw c.marks-marks.ensures.value at w.put_row.ensures))
      | else-holds_inputs+else-leads w ↦ rw (w.count-is, w.memory-is) (scanned_no_more marks inputs (table_cells t) c.args.memory.now i c.loop-cells.count c.values-row.result.now c.loop-cells.memory inside row c.loop-cells.invariant (holds ∙ w.if-holds_inputs.false))
    ])

pub returns-then-leads : goal.returns-then-leads
returns-then-leads c =
    let t = c.args.self.now.table.now in
    let marks = table_marks t in
    let inputs = c.args.self.now.inputs.now in
    let i = c.start-start.result + c.loop-cells.cells-index in
    let inside : i < length (table_cells t) = part_inside (table_cells t) c.start-start.result c.loop-cells.cells-index (rw c.rows.ensures.value at c.loop-cells-test.true) in
    let row = rw (c.rows.ensures.value, part_row (table_cells t) c.start-start.result c.loop-cells.cells-index) at c.values-row.ensures.value in
    let miss = ap (matches marks inputs) (sym row) ∙ (rw c.marks-marks.ensures.value at (sym c.holds_inputs.ensures.value ∙ c.if-holds_inputs.false)) in
    let leading = sym c.given_first-leads.ensures ∙ c.if-leads.true in
    let none = none_beyond marks inputs (table_cells t) t.rows.ascends c.args.self.now.as_many (eqb-true (inputs_of (take (length inputs) marks)) (length inputs) leading) c.start-start.result i [] (c.start-start.ensures.beyond leading) (omega arith) inside miss in
    record { count = rw none c.loop-cells.invariant.counted; written = rw none c.loop-cells.invariant.written }
