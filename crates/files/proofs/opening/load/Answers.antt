use Rattle.std.proofs.Common.{◌≡◌, [], length, take, sym, subst}
use Rattle.std.proofs.lemmas.List.{take-map}
use Rattle.numbers.specs.Forms.{encodes}
use Rattle.source.specs.Rows.{flat}
use Rattle.files.specs.Listed.{rows_marks, rows_cells, rows_values}
use Rattle.files.specs.Refusing.{Front}
use Rattle.files.proofs.Ends.{full}
use Rattle.files.proofs.opening.load.Goals as goal

pub returns-in-Some : goal.returns-in-Some
returns-in-Some c =
    let rows = c.in_ok-rows.rows in
    let r = c.in_ok-rows.ensures in
    let begin = subst (λ ms. Front c.args.bytes.now ms c.in_ok-head.head.count [] c.in_ok-head.head.at) (sym r.0) c.in_ok-head.ensures.front in
    let size : c.rows_size-front.result ≡ length (encodes (flat (take c.in-Some.i (rows_values rows)))) = rw (c.columns.ensures, c.cells.ensures, ← take-map (take (length (rows_marks rows))) c.in-Some.i (rows_cells rows)) at c.rows_size-front.ensures.long in
    full (rows_values rows) r.1 r.2 c.in-Some.i _ _ c.if-end-bytes.false begin c.in-Some.ensures size c.placed-in-Some.ensures.value
