-- What rows hold.
use Rattle.std.specs.Prelude.{ℕ, List}
use Rattle.bounded.specs.Held.{held}
use Rattle.source.specs.declared.mark.Mark.{Mark}
use Rattle.files.specs.declared.rows.Rows.{Rows}
use Rattle.files.specs.Held.{columns_marks, held_rows}

-- the marks of their columns
abbrev pub rows_marks : Rows → List Mark
rows_marks r = columns_marks r.columns

-- the rows as they stand in cells of four, of which the columns are the first
abbrev pub rows_cells : Rows → List (List ℕ)
rows_cells r = held r.cells

-- the values of the rows
abbrev pub rows_values : Rows → List (List ℕ)
rows_values r = held_rows r.columns r.cells
