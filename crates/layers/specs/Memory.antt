-- What a memo remembers, and what it means.
use Rattle.std.specs.Prelude.{◌≡◌, ℕ, ◌+◌, Bool, cond, ◌&&◌, List, [], ◌∷◌, map, length, take, Some, None, Ok, Err, vec_items, vec_len, MatchBool, Option, Result, MatchOption, nat_le, nat_lt, slice_set}
use Rattle.faults.specs.declared.fault.Fault.{Fault}
use Rattle.std.specs.Vec.{with_item}
use Rattle.source.specs.declared.mark.Mark.{Mark}
use Rattle.source.specs.Rows.{same, is_in, rows_in}
use Rattle.source.specs.Marks.{picked, same_marks}
use Rattle.source.specs.Meaning.{Bar, clear, Meaning, raised_bar}
use Rattle.source.specs.Calls.{PassedOn}
use Rattle.layers.specs.declared.entry.Entry.{Entry}
use Rattle.layers.specs.declared.table.Table.{Table}
use Rattle.bounded.specs.Held.{held}

-- rows remembered for a list of inputs, under the marks that were asked
pub record Remembered : Type 0 where
  pub marks : List Mark
  pub inputs : List ℕ
  pub rows : List (List ℕ)

-- the rows that stand from the start of the memory, so many of them, remembered for the inputs
abbrev pub from_memory : List Mark → List ℕ → ℕ → List ℕ → Remembered
from_memory marks inputs count memory = record { marks = marks; inputs = inputs; rows = rows_in (length marks) count memory }

-- what an entry remembers
abbrev pub kept : Entry → Remembered
kept e = from_memory (held e.asked.marks) (held e.asked.inputs) e.count (held e.values)

-- what a table remembers: its filled entries, in their order
abbrev pub kept_all : Table → List Remembered
kept_all t = map kept (take t.used (vec_items t.entries))

-- the remembered rows are those for these inputs, under these marks
abbrev pub is_for : Remembered → List Mark → List ℕ → Bool
is_for e marks inputs = same_marks e.marks marks && same e.inputs inputs

-- the rows that are remembered for the inputs, if any are
abbrev pub recalled : List Remembered → List Mark → List ℕ → Option (List (List ℕ))
recalled [] marks inputs = None
recalled (e ∷ es) marks inputs = cond (is_for e marks inputs) (Some e.rows) (recalled es marks inputs)

-- a row is in the relation: for remembered inputs if it is one of the entry's, else as below
abbrev pub related : Option (List (List ℕ)) → Bool → List ℕ → Bool
related (Some rows) below row = is_in row rows
related None below row = below

-- remembered inputs are not barred, others as below
abbrev pub recalled_bar : Option (List (List ℕ)) → Bar → Bar
recalled_bar (Some rows) below = clear
recalled_bar None below = raised_bar below

-- a memo over a source; steady if that source is
abbrev pub memoized : List Remembered → Meaning → Meaning
memoized es m = record {
  marks = m.marks;
  relation = λ row. related (recalled es m.marks (picked m.marks row)) (m.relation row) row;
  bars = λ inputs. recalled_bar (recalled es m.marks inputs) (m.bars inputs);
  steady = m.steady;
}

-- the table with another entry in its next empty place; the others are as they were
abbrev pub with_next : Table → Entry → Table
with_next t e = record { entries = with_item t.entries t.used e; used = t.used }

-- one entry was filled, the next empty one, and the others are as they were
pub record Fills (before after : Table) (new : Remembered) : Type 0 where
  pub entry : Entry
  pub remembers : kept entry ≡ new
  pub entries : vec_items after.entries ≡ slice_set (vec_items before.entries) before.used entry
  pub used : after.used ≡ before.used + 1

-- an answer to some inputs is remembered if it has at most eight rows and an entry is empty
abbrev pub Remembers : Table → Table → Remembered → Type 0
Remembers before after new =
    MatchBool (nat_le (length new.rows) 8 && nat_lt before.used (vec_len before.entries)) (Fills before after new) (after ≡ before)

-- what a call leaves in the table: an answer that was not remembered yet is remembered, where it can
-- be, as the rows that stand in the memory; else the table is as it was
abbrev pub Learns : Table → Table → List Mark → List ℕ → List ℕ → Result ℕ Fault → Type 0
Learns before after marks inputs memory' (Ok count) =
    MatchOption (recalled (kept_all before) marks inputs)
    (Remembers before after (from_memory marks inputs count memory'))
    (λ rows. after ≡ before)
Learns before after marks inputs memory' (Err fault) = after ≡ before

-- remembered inputs leave the source below as it was; others are passed on to it
abbrev pub Asks : List Remembered → Meaning → Meaning → List ℕ → List ℕ → List ℕ → Result ℕ Fault → Type 0
Asks es m m' inputs memory memory' r =
    MatchOption (recalled es m.marks inputs) (PassedOn m m' inputs memory memory' r) (λ rows. m' ≡ m)
