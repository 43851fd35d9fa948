-- What a register means, and what opening a file makes of it.
use Rattle.std.specs.Prelude.{◌≡◌, ℕ, true, List, Ok, Err, Result}
use Rattle.faults.specs.declared.fault.Fault.{Fault}
use Rattle.source.specs.declared.mark.Mark.{Mark}
use Rattle.source.specs.Rows.{is_in}
use Rattle.source.specs.Meaning.{Meaning, clear}
use Rattle.files.specs.declared.table.Table.{Table}
use Rattle.files.specs.Tables.{Opened, Exactly}

-- the relation has the stored rows and no others; steady, and nothing is barred
abbrev pub storage : List Mark → List (List ℕ) → Meaning
storage marks rows = record { marks = marks; relation = λ row. is_in row rows; bars = λ _. clear; steady = true }

-- the bytes are the file of the table that is there now; or they are refused, by the one fault that
-- they have, and the table is as it was
abbrev pub Reopened : List ℕ → Table → Table → Result (Unit {0}) Fault → Type 0
Reopened bytes before after (Ok _) = Opened bytes (Ok after) × Exactly bytes (Ok after)
Reopened bytes before after (Err fault) = Opened bytes (Err fault) × Exactly bytes (Err fault) × (after ≡ before)
