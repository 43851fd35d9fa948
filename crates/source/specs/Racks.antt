-- A rack: sources side by side, each called by its number, from 0 on.
use Rattle.std.specs.Prelude.{◌≡◌, ℕ, zero, suc, true, cond, List, [], ◌∷◌, length, Some, None, Ok, Err, Option, Result, nat_lt, slice_set}
use Rattle.std.specs.Option.{option_map}
use Rattle.faults.specs.declared.fault.Fault.{Fault}
use Rattle.faults.specs.declared.refusal.Refusal.TheVariants.{MemoryTooShort, NotInCatalogue}
use Rattle.faults.specs.Faults.{bare, layered, from_source}
use Rattle.source.specs.declared.mark.Mark.{Mark}
use Rattle.faults.specs.declared.refusal.Refusal.{Refusal}
use Rattle.source.specs.Meaning.{Meaning, Lawful, clear, barred}
use Rattle.source.specs.Calls.{refusal, Answer, Later, Answered}

-- each source is lawful
abbrev pub AllLawful : List Meaning → Type 0
AllLawful [] = Unit {0}
AllLawful (m ∷ ms) = Lawful m × AllLawful ms

-- the source of a number, if there is one
abbrev pub meaning_at : List Meaning → ℕ → Option Meaning
meaning_at [] i = None
meaning_at (m ∷ ms) zero = Some m
meaning_at (m ∷ ms) (suc i) = meaning_at ms i

-- the marks of the source of a number
abbrev pub marks_at : List Meaning → ℕ → Option (List Mark)
marks_at ms i = option_map (λ (m : Meaning). m.marks) (meaning_at ms i)

-- a call to a source that is not there: the answer memory is tested first
abbrev pub absent : ℕ → Fault
absent room = cond (nat_lt room 256) (layered MemoryTooShort 0) (bare NotInCatalogue)

-- whether a call to the source of a number is refused, and with which fault: as by that source, with
-- its number
abbrev pub refusal_by : Option Meaning → ℕ → List ℕ → ℕ → Option Fault
refusal_by (Some m) i inputs room = option_map (from_source i) (refusal m inputs room)
refusal_by None i inputs room = Some (absent room)

abbrev pub refusal_at : List Meaning → ℕ → List ℕ → ℕ → Option Fault
refusal_at ms i inputs room = refusal_by (meaning_at ms i) i inputs room

-- an answered call: answered by the source of that number, and each other source is as it was
pub record AnsweredAt (i : ℕ) (ms ms' : List Meaning) (inputs memory memory' : List ℕ) (count : ℕ) : Type 0 where
  pub called : Meaning
  pub after : Meaning
  pub there : meaning_at ms i ≡ Some called
  pub answered : Answered called after inputs memory memory' count
  pub others : ms' ≡ slice_set ms i after

-- a refused call changes neither a source nor the memory
pub record RefusedAt (i : ℕ) (ms ms' : List Meaning) (inputs memory memory' : List ℕ) (fault : Fault) : Type 0 where
  pub why : refusal_at ms i inputs (length memory) ≡ Some fault
  pub same : ms' ≡ ms
  pub kept : memory' ≡ memory

-- a call to the source of a number
abbrev pub CalledAt : ℕ → List Meaning → List Meaning → List ℕ → List ℕ → List ℕ → Result ℕ Fault → Type 0
CalledAt i ms ms' inputs memory memory' (Ok count) = AnsweredAt i ms ms' inputs memory memory' count
CalledAt i ms ms' inputs memory memory' (Err fault) = RefusedAt i ms ms' inputs memory memory' fault

-- the row is in the relation of the source of a number
pub record InRelation (ms : List Meaning) (i : ℕ) (row : List ℕ) : Type 0 where
  pub asked : Meaning
  pub there : meaning_at ms i ≡ Some asked
  pub related : asked.relation row ≡ true

-- a source answered inputs that it does not bar with these rows, and each other source is as it was
pub record Replied (ms ms' : List Meaning) (i : ℕ) (inputs : List ℕ) (rows : List (List ℕ)) : Type 0 where
  pub called : Meaning
  pub after : Meaning
  pub there : meaning_at ms i ≡ Some called
  pub unbarred : called.bars inputs ≡ clear
  pub answer : Answer called inputs rows
  pub later : Later called after
  pub others : ms' ≡ slice_set ms i after

-- a source bars the inputs
pub record Barred (ms : List Meaning) (i : ℕ) (inputs : List ℕ) (why : Refusal) (layer : ℕ) : Type 0 where
  pub called : Meaning
  pub there : meaning_at ms i ≡ Some called
  pub bar : called.bars inputs ≡ barred why layer

-- two racks that differ at most in what they bar
pub data Rebarred : List Meaning → List Meaning → Type 0 where
  no_source : Rebarred [] []
  one_more : {m m' : Meaning} {ms ms' : List Meaning} → m'.marks ≡ m.marks → m'.relation ≡ m.relation → Rebarred ms ms' →
      Rebarred (m ∷ ms) (m' ∷ ms')
