-- What the steps of opening a file and of making a table answer.
use Rattle.std.specs.Prelude.{◌≡◌, ℕ, ◌≤◌, List, [], length, take, Some, None, Ok, Err, Option, Result}
use Rattle.faults.specs.declared.fault.Fault.{Fault}
use Rattle.faults.specs.declared.refusal.Refusal.TheVariants.{NumberForm}
use Rattle.faults.specs.Faults.{placed}
use Rattle.source.specs.declared.mark.Mark.{Mark}
use Rattle.source.specs.Rows.{flat}
use Rattle.source.specs.Marks.{inputs_of}
use Rattle.files.specs.declared.columns.Columns.{Columns}
use Rattle.files.specs.declared.rows.Rows.{Rows}
use Rattle.files.specs.declared.opening.Head.{Head}
use Rattle.files.specs.Contents.{bits, FileOf, Storable}
use Rattle.files.specs.Held.{columns_marks}
use Rattle.files.specs.Listed.{rows_marks, rows_values}
use Rattle.files.specs.Refusing.{Reads, Cut, Front, Refuses}
use Rattle.files.specs.Making.{Divided, Unfit}

-- the columns of a number of marks, if it has no other bit, and at most three
abbrev pub Unpacked : ℕ → ℕ → Option Columns → Type 0
Unpacked width packed (Some columns) = (length (columns_marks columns) ≡ width) × (bits (columns_marks columns) ≡ packed)
Unpacked width packed None = (marks : List Mark) → length marks ≡ width → bits marks ≡ packed → inputs_of marks ≤ 3 → ⊥

-- the columns of marks, if they are one to four with at most three given
abbrev pub Copied : List Mark → Option Columns → Type 0
Copied marks (Some columns) = columns_marks columns ≡ marks
Copied marks None = 1 ≤ length marks → length marks ≤ 4 → inputs_of marks ≤ 3 → ⊥

-- a row of so many columns, read into four cells
pub record Row (bytes : List ℕ) (at columns : ℕ) (cells : List ℕ) (to : ℕ) : Type 0 where
  pub four : length cells ≡ 4
  pub reads : Reads bytes at (take columns cells) to

-- a row that is cut off
pub record RowCut (bytes : List ℕ) (at columns : ℕ) (fault : Fault) : Type 0 where
  pub to : ℕ
  pub cut : Cut bytes at columns to
  pub told : fault ≡ placed NumberForm to

-- the row that begins at a place, or that it is cut off
abbrev pub RowRead : List ℕ → ℕ → ℕ → Result (List ℕ × ℕ) Fault → Type 0
RowRead bytes at columns (Ok r) = Row bytes at columns r.0 r.1
RowRead bytes at columns (Err fault) = RowCut bytes at columns fault

-- a header with nothing wrong
pub record Headed (bytes : List ℕ) (head : Head) : Type 0 where
  pub few_rows : head.count ≤ 1024
  pub near : head.at ≤ 15
  pub front : Front bytes (columns_marks head.columns) head.count [] head.at

-- the header, or why the bytes are refused
abbrev pub HeadRead : List ℕ → Result Head Fault → Type 0
HeadRead bytes (Ok head) = Headed bytes head
HeadRead bytes (Err fault) = Refuses bytes fault

-- the rows behind the header and where they end, or why the bytes are refused
abbrev pub RowsRead : List ℕ → Head → Result (Rows × ℕ) Fault → Type 0
RowsRead bytes head (Ok r) = (rows_marks r.0 ≡ columns_marks head.columns) × (length (rows_values r.0) ≡ head.count) × Front bytes (rows_marks r.0) head.count (rows_values r.0) r.1
RowsRead bytes head (Err fault) = Refuses bytes fault

-- what the file holds, or why the bytes are refused
abbrev pub Loaded : List ℕ → Result Rows Fault → Type 0
Loaded bytes (Ok rows) = FileOf bytes (rows_marks rows) (rows_values rows)
Loaded bytes (Err fault) = Refuses bytes fault

-- the rows of values under these columns
abbrev pub Parted : Columns → List ℕ → Result Rows Fault → Type 0
Parted columns values (Ok rows) = (rows_marks rows ≡ columns_marks columns) × Divided (columns_marks columns) values (rows_values rows)
Parted columns values (Err fault) = Unfit (columns_marks columns) values fault

-- what a table of marks and values holds, or why no file can hold them
abbrev pub Gathered : List Mark → List ℕ → Result Rows Fault → Type 0
Gathered marks values (Ok rows) = (rows_marks rows ≡ marks) × (flat (rows_values rows) ≡ values) × Storable (rows_marks rows) (rows_values rows)
Gathered marks values (Err fault) = Unfit marks values fault
