-- A catalogue text: how it is written, and what is wrong with one.
use Rattle.std.specs.Prelude.{◌≡◌, ◌<◌, ◌≤◌, Bool, true, false, List, [], ◌∷◌, ◌++◌, length}
use Rattle.faults.specs.declared.refusal.Refusal.{Refusal}
use Rattle.faults.specs.declared.refusal.Refusal.TheVariants.{CatalogueForm, CatalogueLimit, SourceNamedTwice}
use Rattle.source.specs.declared.mark.Mark.{Mark}
use Rattle.source.specs.declared.mark.Mark.TheVariants.{Given, Free}
use Rattle.source.specs.Marks.{inputs_of}
use Rattle.lexing.specs.Tokens.{Token, space, newline, colon}
use Rattle.lexing.specs.Names.{is_name, among, first_seen}
use Rattle.lexing.specs.Grammars.{Grammar}

pub record Column : Type 0 where
  pub kind : Token
  pub mark : Mark

pub record Line : Type 0 where
  pub name : Token
  pub columns : List Column

-- How it is written, in front of other tokens. A mark is `b` or `f`.
abbrev pub letter : Mark → Token
letter Given = 98 ∷ []
letter Free = 102 ∷ []

-- columns: each a space, its kind, a colon and its mark
abbrev pub write_columns : List Column → List Token → List Token
write_columns [] rest = rest
write_columns (c ∷ cs) rest = space ∷ c.kind ∷ colon ∷ letter c.mark ∷ write_columns cs rest

-- lines: each a name, its columns and a newline
abbrev pub write : List Line → List Token → List Token
write [] rest = rest
write (l ∷ ls) rest = l.name ∷ write_columns l.columns (newline ∷ write ls rest)

abbrev pub some : {X : Type 0} → List X → Bool
some [] = false
some (x ∷ xs) = true

-- kinds are names
abbrev pub Named : List Column → Type 0
Named [] = Unit {0}
Named (c ∷ cs) = (is_name c.kind ≡ true) × Named cs

-- a line's name is a name, and it has a column
pub record FormedLine (l : Line) : Type 0 where
  pub named : is_name l.name ≡ true
  pub kinds : Named l.columns
  pub column : some l.columns ≡ true

abbrev pub Formed : List Line → Type 0
Formed [] = Unit {0}
Formed (l ∷ ls) = FormedLine l × Formed ls

-- A catalogue as far as it is written: whole lines; or behind them a name and columns; or a space more; or a kind; or a colon.
pub data Part : Type 0 where
  lines : List Line → Part
  columns : List Line → Token → List Column → Part
  spaced : List Line → Token → List Column → Part
  kinded : List Line → Token → List Column → Token → Part
  coloned : List Line → Token → List Column → Token → Part

abbrev pub shown : Part → List Token → List Token
shown (lines ls) rest = write ls rest
shown (columns ls n cs) rest = write ls (n ∷ write_columns cs rest)
shown (spaced ls n cs) rest = write ls (n ∷ write_columns cs (space ∷ rest))
shown (kinded ls n cs k) rest = write ls (n ∷ write_columns cs (space ∷ k ∷ rest))
shown (coloned ls n cs k) rest = write ls (n ∷ write_columns cs (space ∷ k ∷ colon ∷ rest))

pub record GoodLine (ls : List Line) (n : Token) (cs : List Column) : Type 0 where
  pub formed : Formed ls
  pub named : is_name n ≡ true
  pub kinds : Named cs

abbrev pub Good : Part → Type 0
Good (lines ls) = Formed ls
Good (columns ls n cs) = GoodLine ls n cs
Good (spaced ls n cs) = GoodLine ls n cs
Good (kinded ls n cs k) = GoodLine ls n cs × (is_name k ≡ true)
Good (coloned ls n cs k) = GoodLine ls n cs × (is_name k ≡ true)

-- whole lines, and at least one, are a catalogue
abbrev pub whole : Part → Bool
whole (lines ls) = some ls
whole (columns ls n cs) = false
whole (spaced ls n cs) = false
whole (kinded ls n cs k) = false
whole (coloned ls n cs k) = false

-- What limits speak of: the kinds in reading order, the names of the lines, the marks of columns.
abbrev pub kinds_of : List Column → List Token
kinds_of [] = []
kinds_of (c ∷ cs) = c.kind ∷ kinds_of cs

abbrev pub kinds_in : List Line → List Token
kinds_in [] = []
kinds_in (l ∷ ls) = kinds_of l.columns ++ kinds_in ls

abbrev pub names_in : List Line → List Token
names_in [] = []
names_in (l ∷ ls) = l.name ∷ names_in ls

abbrev pub marks_in : List Column → List Mark
marks_in [] = []
marks_in (c ∷ cs) = c.mark ∷ marks_in cs

-- the kinds that appeared, each once
abbrev pub known : List Line → List Column → List Token
known ls cs = first_seen [] (kinds_in ls ++ kinds_of cs)

-- Causes of refusal, form and length aside: the token that comes behind the part.
pub data Cause : Part → Token → Refusal → Type 0 where
  -- a source's name of more than 16 bytes
  long_name : (ls : List Line) (t : Token) → 16 < length t → Cause (lines ls) t CatalogueLimit
  -- eight lines come before
  ninth_line : (ls : List Line) (t : Token) → 8 ≤ length ls → Cause (lines ls) t CatalogueLimit
  -- an earlier line has the name
  named_twice : (ls : List Line) (t : Token) → among t (names_in ls) ≡ true → Cause (lines ls) t SourceNamedTwice
  -- a kind's name of more than 16 bytes
  long_kind : (ls : List Line) (n : Token) (cs : List Column) (t : Token) → 16 < length t → Cause (spaced ls n cs) t CatalogueLimit
  -- four columns of the line come before
  fifth_column : (ls : List Line) (n : Token) (cs : List Column) (t : Token) → 4 ≤ length cs → Cause (spaced ls n cs) t CatalogueLimit
  -- a new kind behind sixteen
  seventeenth_kind : (ls : List Line) (n : Token) (cs : List Column) (t : Token) →
      among t (known ls cs) ≡ false → 16 ≤ length (known ls cs) → Cause (spaced ls n cs) t CatalogueLimit
  -- the mark `b` behind three of the line
  fourth_given : (ls : List Line) (n : Token) (cs : List Column) (k : Token) →
      3 ≤ inputs_of (marks_in cs) → Cause (coloned ls n cs k) (letter Given) CatalogueLimit

-- in a catalogue no token is passed over
abbrev pub sheets : Grammar
sheets = record {
  Part = Part;
  Good = Good;
  shown = shown;
  whole = whole;
  Cause = Cause;
  skips = λ t. false;
  form = CatalogueForm;
  limit = CatalogueLimit;
}
