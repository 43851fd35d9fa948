-- What holds of the format, and a file worked by hand.
use Rattle.std.specs.Prelude.{◌≡◌, ℕ, ◌<◌, ◌⊎◌, List, [], ◌∷◌, map, length, take, slice_index}
use Rattle.faults.specs.declared.fault.Fault.{Fault}
use Rattle.source.specs.declared.mark.Mark.{Mark}
use Rattle.source.specs.declared.mark.Mark.TheVariants.{Given, Free}
use Rattle.files.specs.declared.table.Table.{Table}
use Rattle.files.specs.Contents.{Storable, FileOf, file}
use Rattle.files.specs.Refusing.{Refuses}
use Rattle.files.specs.Making.{Divided, Unfit}
use Rattle.files.specs.Tables.{table_marks, table_rows, table_cells}

-- marks and rows have one file at most
abbrev pub OneFile : Type 0
OneFile = (bytes bytes' : List ℕ) (marks : List Mark) (rows : List (List ℕ)) → FileOf bytes marks rows → FileOf bytes' marks rows → bytes ≡ bytes'

-- a file is of one content
abbrev pub OneContent : Type 0
OneContent = (bytes : List ℕ) (marks marks' : List Mark) (rows rows' : List (List ℕ)) → FileOf bytes marks rows → FileOf bytes marks' rows' → (marks ≡ marks') × (rows ≡ rows')

-- a file is not refused
abbrev pub NotBoth : Type 0
NotBoth = (bytes : List ℕ) (marks : List Mark) (rows : List (List ℕ)) (fault : Fault) → FileOf bytes marks rows → Refuses bytes fault → ⊥

-- bytes are refused with one fault at most
abbrev pub OneFault : Type 0
OneFault = (bytes : List ℕ) (fault fault' : Fault) → ((i : ℕ) → slice_index bytes i < 256) → Refuses bytes fault → Refuses bytes fault' → fault ≡ fault'

-- bytes are a file or are refused
abbrev pub AlwaysAnswered : Type 0
AlwaysAnswered = (bytes : List ℕ) → ((i : ℕ) → slice_index bytes i < 256) → ((marks : List Mark) × (rows : List (List ℕ)) × FileOf bytes marks rows) ⊎ ((fault : Fault) × Refuses bytes fault)

-- what can be stored has a file, and that opens to what was stored and to nothing else
abbrev pub WrittenOpens : Type 0
WrittenOpens = (marks : List Mark) (rows : List (List ℕ)) → Storable marks rows → FileOf (file marks rows) marks rows × ((marks' : List Mark) (rows' : List (List ℕ)) → FileOf (file marks rows) marks' rows' → (marks' ≡ marks) × (rows' ≡ rows)) × ((fault : Fault) → Refuses (file marks rows) fault → ⊥)

-- every table holds what can be stored
abbrev pub AlwaysStorable : Type 0
AlwaysStorable = (t : Table) → Storable (table_marks t) (table_rows t)

-- the first columns of the cells of a table are its rows
abbrev pub CellsHoldRows : Type 0
CellsHoldRows = (t : Table) → map (take (length (table_marks t))) (table_cells t) ≡ table_rows t

-- marks and values are unfit for one reason at most
abbrev pub OneReason : Type 0
OneReason = (marks : List Mark) (values : List ℕ) (fault fault' : Fault) → Unfit marks values fault → Unfit marks values fault' → fault ≡ fault'

-- what can be stored is not unfit
abbrev pub FitOrNot : Type 0
FitOrNot = (marks : List Mark) (values : List ℕ) (rows : List (List ℕ)) (fault : Fault) → Divided marks values rows → Storable marks rows → Unfit marks values fault → ⊥

-- the row (2001, 5) under a given and a free column
abbrev pub Worked : Type 0
Worked = FileOf (0x02 ∷ 0x01 ∷ 0x01 ∷ 0xD1 ∷ 0x0F ∷ 0x05 ∷ []) (Given ∷ Free ∷ []) ((2001 ∷ 5 ∷ []) ∷ [])
