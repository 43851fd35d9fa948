-- What a table holds, and what is answered with a table.
use Rattle.std.specs.Prelude.{◌≡◌, ℕ, List, Ok, Err, Result}
use Rattle.faults.specs.declared.fault.Fault.{Fault}
use Rattle.source.specs.declared.mark.Mark.{Mark}
use Rattle.source.specs.Rows.{flat}
use Rattle.files.specs.declared.table.Table.{Table}
use Rattle.files.specs.Contents.{FileOf}
use Rattle.files.specs.Listed.{rows_marks, rows_cells, rows_values}
use Rattle.files.specs.Refusing.{Refuses}
use Rattle.files.specs.Making.{Unfit}

-- the marks of its columns, and its rows
abbrev pub table_marks : Table → List Mark
table_marks t = rows_marks t.rows

abbrev pub table_rows : Table → List (List ℕ)
table_rows t = rows_values t.rows

-- its rows as they stand in cells of four, of which the columns are the first
abbrev pub table_cells : Table → List (List ℕ)
table_cells t = rows_cells t.rows

-- the bytes are the file of what the table holds, or are refused
abbrev pub Opened : List ℕ → Result Table Fault → Type 0
Opened bytes (Ok t) = FileOf bytes (table_marks t) (table_rows t)
Opened bytes (Err fault) = Refuses bytes fault

-- no other answer is right
abbrev pub Exactly : List ℕ → Result Table Fault → Type 0
Exactly bytes (Ok t) = ((fault : Fault) → Refuses bytes fault → ⊥) × ((marks : List Mark) (rows : List (List ℕ)) → FileOf bytes marks rows → (marks ≡ table_marks t) × (rows ≡ table_rows t))
Exactly bytes (Err fault) = ((other : Fault) → Refuses bytes other → other ≡ fault) × ((marks : List Mark) (rows : List (List ℕ)) → FileOf bytes marks rows → ⊥)

-- the table holds the marks and values, or no file can
abbrev pub Made : List Mark → List ℕ → Result Table Fault → Type 0
Made marks values (Ok t) = (table_marks t ≡ marks) × (flat (table_rows t) ≡ values)
Made marks values (Err fault) = Unfit marks values fault
