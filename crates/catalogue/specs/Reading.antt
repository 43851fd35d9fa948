-- The steps of the reader, and how its state goes with the part that is read. None of this is part of what a text means.
use Rattle.std.specs.Prelude.{◌≡◌, ℕ, ◌<◌, ◌≤◌, Bool, true, false, cond, ◌&&◌, ◌||◌, List, [], ◌∷◌, ◌++◌, map, length, Some, None, Option, nat_le, nat_lt}
use Rattle.faults.specs.declared.refusal.Refusal.{Refusal}
use Rattle.faults.specs.declared.refusal.Refusal.TheVariants.{CatalogueForm, CatalogueLimit, SourceNamedTwice}
use Rattle.source.specs.declared.mark.Mark.{Mark}
use Rattle.source.specs.declared.mark.Mark.TheVariants.{Given, Free}
use Rattle.source.specs.Marks.{inputs_of}
use Rattle.lexing.specs.Tokens.{Token, is}
use Rattle.lexing.specs.Names.{is_name, among, first_seen, number_of, numbers}
use Rattle.bounded.specs.Held.{held}
use Rattle.lexing.specs.Lists.{names, crowded}
use Rattle.lexing.specs.Readers.{Steps}
use Rattle.catalogue.specs.declared.columns.Entry.{Entry}
use Rattle.catalogue.specs.declared.state.Reader.{Reader}
use Rattle.catalogue.specs.declared.state.Stage.{Stage}
use Rattle.catalogue.specs.declared.state.Stage.TheVariants as at
use Rattle.catalogue.specs.Sheets.{Column, Line, Part, lines, columns, spaced, kinded, coloned, some, kinds_of, kinds_in, names_in, marks_in, known, sheets}
use Rattle.catalogue.specs.Plain.{entry_name, entry_columns, all_shaped}
use Rattle.catalogue.specs.Records.{numbered}

abbrev pub mark_read : Token → Option Mark
mark_read t = cond (is 98 t) (Some Given) (cond (is 102 t) (Some Free) None)

abbrev pub mark_or_free : Token → Mark
mark_or_free t = cond (is 98 t) Given Free

abbrev pub fits : Part → Token → Bool
fits (lines ls) t = is_name t
fits (columns ls n cs) t = is 32 t || (some cs && is 10 t)
fits (spaced ls n cs) t = is_name t
fits (kinded ls n cs k) t = is 58 t
fits (coloned ls n cs k) t = is 98 t || is 102 t

abbrev pub next : Part → Token → Part
next (lines ls) t = columns ls t []
next (columns ls n cs) t = cond (is 32 t) (spaced ls n cs) (lines (ls ++ record { name = n; columns = cs } ∷ []))
next (spaced ls n cs) t = kinded ls n cs t
next (kinded ls n cs k) t = coloned ls n cs k
next (coloned ls n cs k) t = columns ls n (cs ++ record { kind = k; mark = mark_or_free t } ∷ [])

-- a limit is passed
abbrev pub over : Part → Token → Bool
over (lines ls) t = nat_lt 16 (length t) || nat_le 8 (length ls)
over (columns ls n cs) t = false
over (spaced ls n cs) t = nat_le 4 (length cs) || crowded t (known ls cs)
over (kinded ls n cs k) t = false
over (coloned ls n cs k) t = is 98 t && nat_le 3 (inputs_of (marks_in cs))

-- a source is named again
abbrev pub again : Part → Token → Bool
again (lines ls) t = among t (names_in ls)
again (columns ls n cs) t = false
again (spaced ls n cs) t = false
again (kinded ls n cs k) t = false
again (coloned ls n cs k) t = false

abbrev pub refusal : Bool → Bool → Bool → Option Refusal
refusal fit past twice = cond fit (cond past (Some CatalogueLimit) (cond twice (Some SourceNamedTwice) None)) (Some CatalogueForm)

abbrev pub wrong : Part → Token → Option Refusal
wrong p t = refusal (fits p t) (over p t) (again p t)

abbrev pub steps : Steps sheets
steps = record { start = lines []; fits = fits; next = next; wrong = wrong }

-- the kinds and the lines that are read: these kinds appeared, and the entries are of these whole lines
pub record Seen (r : Reader) (ks : List Token) (ls : List Line) : Type 0 where
  pub kinds : names r.kinds ≡ first_seen [] ks
  pub sources : map entry_name (held r.entries) ≡ names_in ls
  pub lines : map entry_columns (held r.entries) ≡ map (numbered (names r.kinds)) ls
  pub shaped : all_shaped (length (names r.kinds)) (map entry_columns (held r.entries)) ≡ true

-- the entry that is begun behind these lines has this name and these columns
pub record Begun (r : Reader) (e : Entry) (ls : List Line) (n : Token) (cs : List Column) : Type 0 where
  pub room : length ls < 8
  pub name : held e.name ≡ n
  pub kinds : held e.columns.kinds ≡ numbers (names r.kinds) (kinds_of cs)
  pub marks : held e.columns.marks ≡ marks_in cs
  pub few : inputs_of (marks_in cs) ≤ 3

-- the column that is begun has the kind of this number
pub record Kind (r : Reader) (i : ℕ) (cs : List Column) (k : Token) : Type 0 where
  pub room : length cs < 4
  pub number : i ≡ number_of k (names r.kinds)

-- whole lines are read, and an entry is begun
pub record Behind (r : Reader) (e : Entry) (ls : List Line) (n : Token) (cs : List Column) : Type 0 where
  pub seen : Seen r (kinds_in ls ++ kinds_of cs) ls
  pub begun : Begun r e ls n cs

-- the same, and a column is begun
pub record BehindKind (r : Reader) (e : Entry) (i : ℕ) (ls : List Line) (n : Token) (cs : List Column) (k : Token) : Type 0 where
  pub seen : Seen r (kinds_in ls ++ (kinds_of cs ++ k ∷ [])) ls
  pub begun : Begun r e ls n cs
  pub kind : Kind r i cs k

-- the reader would stand behind the part if it were at this stage
abbrev pub At : Reader → Stage → Part → Type 0
At r s (lines ls) = (s ≡ at.Lines) × Seen r (kinds_in ls) ls
At r s (columns ls n cs) = (s ≡ at.Columns) × Behind r r.entry ls n cs
At r s (spaced ls n cs) = (s ≡ at.Spaced) × Behind r r.entry ls n cs
At r s (kinded ls n cs k) = (i : ℕ) × (s ≡ at.Kinded i) × BehindKind r r.entry i ls n cs k
At r s (coloned ls n cs k) = (i : ℕ) × (s ≡ at.Coloned i) × BehindKind r r.entry i ls n cs k

-- the reader stands behind the part
abbrev pub Tied : Reader → Part → Type 0
Tied r p = At r r.stage p
