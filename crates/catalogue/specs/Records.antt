-- What the record of a catalogue holds, and which record a text's lines have.
use Rattle.std.specs.Prelude.{◌≡◌, ℕ, List, [], map, slice_index_or}
use Rattle.lexing.specs.Tokens.{Token}
use Rattle.bounded.specs.Held.{held}
use Rattle.lexing.specs.Lists.{names}
use Rattle.lexing.specs.Names.{first_seen, numbers}
use Rattle.catalogue.specs.declared.record.Catalogue.{Catalogue}
use Rattle.catalogue.specs.Plain.{PlainColumns, entry_name, entry_columns, no_columns}
use Rattle.catalogue.specs.Sheets.{Line, kinds_of, kinds_in, names_in, marks_in}

-- the names of the kinds and of the sources, and the sources' columns, by number
abbrev pub kind_names : Catalogue → List Token
kind_names c = names c.kinds

abbrev pub source_names : Catalogue → List Token
source_names c = map entry_name (held c.entries)

abbrev pub source_columns : Catalogue → List PlainColumns
source_columns c = map entry_columns (held c.entries)

-- the columns of one source; none where there is no such source
abbrev pub columns_of : Catalogue → ℕ → PlainColumns
columns_of c i = slice_index_or (source_columns c) i no_columns

-- what a query asks of a catalogue: the names of its sources, and their columns
pub record Described : Type 0 where
  pub names : List Token
  pub columns : List PlainColumns

abbrev pub described : Catalogue → Described
described c = record { names = source_names c; columns = source_columns c }

-- a line's columns, each kind by its number among the kinds
abbrev pub numbered : List Token → Line → PlainColumns
numbered kinds l = record { kinds = numbers kinds (kinds_of l.columns); marks = marks_in l.columns }

-- the record of these lines: kinds are numbered as they first appear, sources as their lines come
pub record Records (c : Catalogue) (ls : List Line) : Type 0 where
  pub kinds : kind_names c ≡ first_seen [] (kinds_in ls)
  pub names : source_names c ≡ names_in ls
  pub columns : source_columns c ≡ map (numbered (kind_names c)) ls
