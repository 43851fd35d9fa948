-- What columns hold, and rows under columns.
use Rattle.std.specs.Prelude.{ℕ, List, map, length, take}
use Rattle.bounded.specs.declared.list.Bounded.{Bounded}
use Rattle.bounded.specs.Held.{held}
use Rattle.source.specs.declared.mark.Mark.{Mark}
use Rattle.files.specs.declared.columns.Columns.{Columns}

-- the marks of the columns
abbrev pub columns_marks : Columns → List Mark
columns_marks c = held c.marks

-- the rows of so many columns that stand in cells
abbrev pub cut : ℕ → List (List ℕ) → List (List ℕ)
cut columns cells = map (take columns) cells

-- the rows under these columns that stand in the cells of a list
abbrev pub held_rows : {n : ℕ} → Columns → Bounded (List ℕ) n → List (List ℕ)
held_rows c cells = cut (length (columns_marks c)) (held cells)
