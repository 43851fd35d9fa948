-- The columns of sources, as plain lists.
use Rattle.std.specs.Prelude.{ℕ, Bool, true, ◌&&◌, List, [], ◌∷◌, length, ◌==◌, nat_le, nat_lt}
use Rattle.source.specs.declared.mark.Mark.{Mark}
use Rattle.source.specs.Marks.{inputs_of}
use Rattle.bounded.specs.Held.{held}
use Rattle.lexing.specs.Tokens.{Token}
use Rattle.catalogue.specs.declared.columns.Columns as record_columns
use Rattle.catalogue.specs.declared.columns.Entry.{Entry}

-- the columns of a source: the numbers of their kinds, and their marks
pub record PlainColumns : Type 0 where
  pub kinds : List ℕ
  pub marks : List Mark

abbrev pub plain : record_columns.Columns → PlainColumns
plain c = record { kinds = held c.kinds; marks = held c.marks }

-- the name and the columns of an entry
abbrev pub entry_name : Entry → Token
entry_name e = held e.name

abbrev pub entry_columns : Entry → PlainColumns
entry_columns e = plain e.columns

abbrev pub no_columns : PlainColumns
no_columns = record { kinds = []; marks = [] }

-- all numbers are below a count
abbrev pub all_under : ℕ → List ℕ → Bool
all_under n [] = true
all_under n (k ∷ ks) = nat_lt k n && all_under n ks

-- a kind and a mark for each column, at least one column, at most three of them given, and no other kinds than there are
abbrev pub shaped : ℕ → PlainColumns → Bool
shaped n c = length c.kinds == length c.marks && (nat_lt 0 (length c.marks) && (nat_le (inputs_of c.marks) 3 && all_under n c.kinds))

abbrev pub all_shaped : ℕ → List PlainColumns → Bool
all_shaped n [] = true
all_shaped n (c ∷ cs) = shaped n c && all_shaped n cs
