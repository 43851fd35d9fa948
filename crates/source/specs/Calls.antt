-- What a call to a source does.
use Rattle.std.specs.Prelude.{◌≡◌, ℕ, ◌≤◌, Bool, true, false, cond, List, length, Some, None, Ok, Err, Option, Result, ◌==◌, nat_lt}
use Rattle.faults.specs.declared.fault.Fault.{Fault}
use Rattle.faults.specs.declared.refusal.Refusal.TheVariants.{MemoryTooShort, NotInCatalogue, Spent}
use Rattle.faults.specs.Faults.{layered}
use Rattle.source.specs.declared.mark.Mark.{Mark}
use Rattle.source.specs.Rows.{is_in, ascending, Written}
use Rattle.source.specs.Marks.{inputs_of}
use Rattle.source.specs.Meaning.{Meaning, Bar, clear, barred, wanted}

-- what is wrong with a call whatever the source holds: the answer memory, of the length `room`, is
-- too short, or the number of inputs is not that of the given columns
abbrev pub misuse : List Mark → List ℕ → ℕ → Option Fault
misuse marks inputs room =
    cond (nat_lt room 256) (Some (layered MemoryTooShort 0))
    (cond (length inputs == inputs_of marks) None (Some (layered NotInCatalogue 0)))

-- the fault of a bar, if there is one
abbrev pub bar_fault : Bar → Option Fault
bar_fault clear = None
bar_fault (barred r layer) = Some (layered r layer)

-- the first of two faults, if there is one
abbrev pub earlier : Option Fault → Option Fault → Option Fault
earlier (Some f) later = Some f
earlier None later = later

-- whether a call is refused, and with which fault
abbrev pub refusal : Meaning → List ℕ → ℕ → Option Fault
refusal m inputs room = earlier (misuse m.marks inputs room) (bar_fault (m.bars inputs))

-- what may become of a bar over an answered call: a bar stays, perhaps as another; a new one comes
-- only as 31, and only on a source that is not steady
abbrev pub MayBecome : Bool → Bar → Bar → Type 0
MayBecome steady clear clear = Unit {0}
MayBecome steady clear (barred r layer) = (r ≡ Spent) × (steady ≡ false)
MayBecome steady (barred r layer) clear = ⊥
MayBecome steady (barred r layer) (barred r' layer') = Unit {0}

-- what may become of a meaning over an answered call
pub record Later (m m' : Meaning) : Type 0 where
  pub marks : m'.marks ≡ m.marks
  pub relation : m'.relation ≡ m.relation
  pub steady : m'.steady ≡ m.steady
  pub bars : (inputs : List ℕ) → MayBecome m.steady (m.bars inputs) (m'.bars inputs)

-- the rows are the answer to the inputs: ascending, and exactly the wanted ones
pub record Answer (m : Meaning) (inputs : List ℕ) (rows : List (List ℕ)) : Type 0 where
  pub ascends : ascending rows ≡ true
  pub exact : (row : List ℕ) → is_in row rows ≡ wanted m inputs row

-- an answered call: not refused; the rows are written
pub record Answered (m m' : Meaning) (inputs memory memory' : List ℕ) (count : ℕ) : Type 0 where
  pub granted : refusal m inputs (length memory) ≡ None
  pub rows : List (List ℕ)
  pub answer : Answer m inputs rows
  pub counted : count ≡ length rows
  pub written : Written rows memory memory'
  pub later : Later m m'

-- a refused call changes neither the meaning nor the memory
pub record Refused (m m' : Meaning) (inputs memory memory' : List ℕ) (fault : Fault) : Type 0 where
  pub why : refusal m inputs (length memory) ≡ Some fault
  pub same : m' ≡ m
  pub kept : memory' ≡ memory

-- a call from one meaning to the next, with its memory before and after
abbrev pub Called : Meaning → Meaning → List ℕ → List ℕ → List ℕ → Result ℕ Fault → Type 0
Called m m' inputs memory memory' (Ok count) = Answered m m' inputs memory memory' count
Called m m' inputs memory memory' (Err fault) = Refused m m' inputs memory memory' fault

-- whether a call to a source of these marks may go on to its bars
abbrev pub Admitted : List Mark → List ℕ → ℕ → Result (Unit {0}) Fault → Type 0
Admitted marks inputs room (Ok _) = (misuse marks inputs room ≡ None) × (256 ≤ room) × (length inputs ≡ inputs_of marks)
Admitted marks inputs room (Err fault) = misuse marks inputs room ≡ Some fault

-- what a layer does to the source below it: an answered call is answered there, to the same inputs and
-- into the same memory; a refused one leaves that source's meaning as it was
abbrev pub PassedOn : Meaning → Meaning → List ℕ → List ℕ → List ℕ → Result ℕ Fault → Type 0
PassedOn m m' inputs memory memory' (Ok count) = Answered m m' inputs memory memory' count
PassedOn m m' inputs memory memory' (Err fault) = m' ≡ m
