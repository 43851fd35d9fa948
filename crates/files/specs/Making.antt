-- Making a table from values, and writing its file.
use Rattle.std.specs.Prelude.{◌≡◌, ℕ, ◌*◌, ◌<◌, ◌≤◌, true, false, ◌⊎◌, List, ◌++◌, length, drop, Some, None, Ok, Err, Option, Result}
use Rattle.faults.specs.declared.fault.Fault.{Fault}
use Rattle.faults.specs.declared.refusal.Refusal.TheVariants.{HeaderRange, RowsNotAscending, TooManyMatches, MemoryTooShort}
use Rattle.faults.specs.Faults.{bare}
use Rattle.source.specs.declared.mark.Mark.{Mark}
use Rattle.source.specs.Rows.{ascending, flat}
use Rattle.source.specs.Marks.{matching, all_whole}
use Rattle.files.specs.Contents.{Header, Storable, file}

-- the values are these rows one after another: whole rows, under a header in range
pub record Divided (marks : List Mark) (values : List ℕ) (rows : List (List ℕ)) : Type 0 where
  pub header : Header marks (length rows)
  pub rows_whole : all_whole marks rows ≡ true
  pub values_are : flat rows ≡ values

-- no file can hold the marks and values, and the fault says why:
pub data Unfit (marks : List Mark) (values : List ℕ) : Fault → Type 0 where
  -- the marks are out of range, or the values are not whole rows, or too many
  out_of_range : ((rows : List (List ℕ)) → Divided marks values rows → ⊥) → Unfit marks values (bare HeaderRange)
  -- the rows do not ascend
  not_ascending : {rows : List (List ℕ)} → Divided marks values rows → ascending rows ≡ false → Unfit marks values (bare RowsNotAscending)
  -- too many rows match some inputs
  too_many : {rows : List (List ℕ)} (inputs : List ℕ) → Divided marks values rows → ascending rows ≡ true → 64 < length (matching marks inputs rows) → Unfit marks values (bare TooManyMatches)

-- a file was written from the start of the memory, and the rest is as before; or there was too little room, and nothing changed
abbrev pub Wrote : List Mark → List (List ℕ) → List ℕ → List ℕ → Result ℕ Fault → Type 0
Wrote marks rows before after (Ok count) = (count ≡ length (file marks rows)) × (count ≤ length before) × (after ≡ file marks rows ++ drop count before)
Wrote marks rows before after (Err fault) = (length before < length (file marks rows)) × (fault ≡ bare MemoryTooShort) × (after ≡ before)

-- the file of the marks and values was written
pub record Filed (marks : List Mark) (values before after : List ℕ) (count : ℕ) : Type 0 where
  pub rows : List (List ℕ)
  pub storable : Storable marks rows
  pub values_are : flat rows ≡ values
  pub wrote : Wrote marks rows before after (Ok count)

-- the memory is too short for the file of the marks and values
pub record TooLong (marks : List Mark) (values before : List ℕ) (fault : Fault) : Type 0 where
  pub rows : List (List ℕ)
  pub storable : Storable marks rows
  pub values_are : flat rows ≡ values
  pub longer : length before < length (file marks rows)
  pub told : fault ≡ bare MemoryTooShort

-- the file was written, or nothing changed: no file can hold the marks and values, or the memory is too short for it
abbrev pub FileWritten : List Mark → List ℕ → List ℕ → List ℕ → Result ℕ Fault → Type 0
FileWritten marks values before after (Ok count) = Filed marks values before after count
FileWritten marks values before after (Err fault) = (Unfit marks values fault ⊎ TooLong marks values before fault) × (after ≡ before)

-- how many whole rows so many values are, if they are at most 1,024
abbrev pub Counted : ℕ → ℕ → Option ℕ → Type 0
Counted values columns (Some count) = (count * columns ≡ values) × (count ≤ 1024)
Counted values columns None = (count : ℕ) → count * columns ≡ values → count ≤ 1024 → ⊥
