-- A query text: how it is written, and what is wrong with one.
use Rattle.std.specs.Prelude.{◌≡◌, ℕ, suc, ◌<◌, ◌≤◌, Bool, true, false, cond, List, [], ◌∷◌, ◌++◌, length, Some, None, Option, ◌≢◌, slice_index, slice_index_or}
use Rattle.std.specs.Option.{option_or}
use Rattle.std.specs.Str.{bytes_eq}
use Rattle.faults.specs.declared.refusal.Refusal.{Refusal}
use Rattle.faults.specs.declared.refusal.Refusal.TheVariants.{QueryForm, UnfitLiteral, QueryLimit, VariableInTwoKinds, ConstantTooLarge}
use Rattle.lexing.specs.Tokens.{Token, comma, dot, opening, closing, is_blank_token}
use Rattle.lexing.specs.Names.{is_name, among, number_of, first_seen}
use Rattle.lexing.specs.Grammars.{Grammar}
use Rattle.catalogue.specs.Records.{Described}
use Rattle.catalogue.specs.Plain.{no_columns}
use Rattle.query.specs.Terms.{is_variable, is_constant, is_term, value}

-- The head or a literal: a name and its items, the last of them by itself.
pub record Atom : Type 0 where
  pub name : Token
  pub front : List Token
  pub last : Token

abbrev pub items : Atom → List Token
items a = a.front ++ a.last ∷ []

-- How it is written, in front of other tokens: items with a comma behind each,
abbrev pub commas : List Token → List Token → List Token
commas [] rest = rest
commas (t ∷ ts) rest = t ∷ comma ∷ commas ts rest

-- a name and its items in parentheses,
abbrev pub write_atom : Atom → List Token → List Token
write_atom a rest = a.name ∷ opening ∷ commas a.front (a.last ∷ closing ∷ rest)

-- literals with a comma behind each,
abbrev pub write_literals : List Atom → List Token → List Token
write_literals [] rest = rest
write_literals (l ∷ ls) rest = write_atom l (comma ∷ write_literals ls rest)

-- the head with `:-` behind it, and literals
abbrev pub arrow : Token
arrow = 58 ∷ 45 ∷ []

abbrev pub write_atoms : List Atom → List Token → List Token
write_atoms [] rest = rest
write_atoms (h ∷ ls) rest = write_atom h (arrow ∷ write_literals ls rest)

-- the name is a name, and each item has the form
abbrev pub Have : (Token → Bool) → List Token → Type 0
Have f [] = Unit {0}
Have f (t ∷ ts) = (f t ≡ true) × Have f ts

pub record Formed (f : Token → Bool) (a : Atom) : Type 0 where
  pub named : is_name a.name ≡ true
  pub fronts : Have f a.front
  pub lasts : f a.last ≡ true

abbrev pub AllFormed : List Atom → Type 0
AllFormed [] = Unit {0}
AllFormed (l ∷ ls) = Formed is_term l × AllFormed ls

-- items of the head, which comes first, are variables, and those of literals are terms
abbrev pub item_form : List Atom → Token → Bool
item_form [] t = is_variable t
item_form (h ∷ ls) t = is_term t

abbrev pub FormedAtoms : List Atom → Type 0
FormedAtoms [] = Unit {0}
FormedAtoms (h ∷ ls) = Formed is_variable h × AllFormed ls

-- A query as far as it is written. Behind whole atoms, the first of them the head: nothing; a name; a parenthesis or a comma, so that an item is due; an item; a closed atom; the dot.
pub data Part : Type 0 where
  wanted : List Atom → Part
  named : List Atom → Token → Part
  due : List Atom → Token → List Token → Part
  listed : List Atom → Token → List Token → Token → Part
  closed : List Atom → Atom → Part
  stopped : List Atom → Atom → Part

abbrev pub shown : Part → List Token → List Token
shown (wanted us) rest = write_atoms us rest
shown (named us n) rest = write_atoms us (n ∷ rest)
shown (due us n ts) rest = write_atoms us (n ∷ opening ∷ commas ts rest)
shown (listed us n ts t) rest = write_atoms us (n ∷ opening ∷ commas ts (t ∷ rest))
shown (closed us a) rest = write_atoms us (write_atom a rest)
shown (stopped us a) rest = write_atoms us (write_atom a (dot ∷ rest))

abbrev pub some : List Atom → Bool
some [] = false
some (a ∷ us) = true

abbrev pub Good : Part → Type 0
Good (wanted us) = FormedAtoms us
Good (named us n) = FormedAtoms us × (is_name n ≡ true)
Good (due us n ts) = FormedAtoms us × (is_name n ≡ true) × Have (item_form us) ts
Good (listed us n ts t) = FormedAtoms us × (is_name n ≡ true) × Have (item_form us) ts × (item_form us t ≡ true)
Good (closed us a) = FormedAtoms us × Formed (item_form us) a
Good (stopped us a) = FormedAtoms us × Formed (item_form us) a × (some us ≡ true)

-- with the dot it is a query
abbrev pub whole : Part → Bool
whole (wanted us) = false
whole (named us n) = false
whole (due us n ts) = false
whole (listed us n ts t) = false
whole (closed us a) = false
whole (stopped us a) = true

-- What causes speak of: the items of atoms, in reading order, and those that are variables.
abbrev pub items_in : List Atom → List Token
items_in [] = []
items_in (a ∷ us) = items a ++ items_in us

abbrev pub variables_of : List Token → List Token
variables_of [] = []
variables_of (t ∷ ts) = cond (is_variable t) (t ∷ variables_of ts) (variables_of ts)

-- the variables that appeared, each once
abbrev pub known : List Atom → List Token → List Token
known us ts = first_seen [] (variables_of (items_in us ++ ts))

-- the kinds of the columns of the source with a name; none where there is no such source
abbrev pub kinds_at : Described → Token → List ℕ
kinds_at cat n = (slice_index_or cat.columns (number_of n cat.names) no_columns).kinds

-- the kind of the column in which an item first stands: among the items of one literal, from a column on, and in literals
abbrev pub kind_among : Token → List ℕ → ℕ → List Token → Option ℕ
kind_among v kinds i [] = None
kind_among v kinds i (t ∷ ts) = cond (bytes_eq v t) (Some (slice_index kinds i)) (kind_among v kinds (suc i) ts)

abbrev pub kind_in : Described → Token → List Atom → Option ℕ
kind_in cat v [] = None
kind_in cat v (l ∷ ls) = option_or (kind_among v (kinds_at cat l.name) 0 (items l)) (kind_in cat v ls)

-- the kind of an item behind a head, literals, and a name with items
abbrev pub kind_of : Described → Token → List Atom → Token → List Token → Option ℕ
kind_of cat v ls n ts = option_or (kind_in cat v ls) (kind_among v (kinds_at cat n) 0 ts)

-- Causes of refusal, form and length aside: the token that comes behind the part.
pub data Cause (cat : Described) : Part → Token → Refusal → Type 0 where
  -- the head's name has more than 16 bytes
  long_head : (t : Token) → 16 < length t → Cause cat (wanted []) t QueryLimit
  -- four variables of the head come before
  fifth_head_variable : (n : Token) (ts : List Token) (t : Token) → 4 ≤ length ts → Cause cat (due [] n ts) t QueryLimit
  -- a literal's name that is no source's
  unknown_source : (h : Atom) (ls : List Atom) (t : Token) → among t cat.names ≡ false → Cause cat (wanted (h ∷ ls)) t UnfitLiteral
  -- eight literals come before
  ninth_literal : (h : Atom) (ls : List Atom) (t : Token) → 8 ≤ length ls → Cause cat (wanted (h ∷ ls)) t QueryLimit
  -- a term before which there are as many terms as the source has columns; a name that is no source has none
  term_too_many : (h : Atom) (ls : List Atom) (n : Token) (ts : List Token) (t : Token) → length (kinds_at cat n) ≤ length ts → Cause cat (due (h ∷ ls) n ts) t UnfitLiteral
  -- a closing parenthesis behind fewer terms than the source has columns
  closed_early : (h : Atom) (ls : List Atom) (n : Token) (ts : List Token) (t : Token) → length (ts ++ t ∷ []) < length (kinds_at cat n) → Cause cat (listed (h ∷ ls) n ts t) closing UnfitLiteral
  -- a variable of more than 16 bytes, in the head or in a literal
  long_variable : (us : List Atom) (n : Token) (ts : List Token) (t : Token) → is_variable t ≡ true → 16 < length t → Cause cat (due us n ts) t QueryLimit
  -- a new variable behind sixteen
  seventeenth_variable : (us : List Atom) (n : Token) (ts : List Token) (t : Token) → is_variable t ≡ true →
      among t (known us ts) ≡ false → 16 ≤ length (known us ts) → Cause cat (due us n ts) t QueryLimit
  -- a variable that stood first in a column of another kind than this
  two_kinds : (h : Atom) (ls : List Atom) (n : Token) (ts : List Token) (t : Token) (k : ℕ) → is_variable t ≡ true →
      kind_of cat t ls n ts ≡ Some k → (k ≢ slice_index (kinds_at cat n) (length ts)) → Cause cat (due (h ∷ ls) n ts) t VariableInTwoKinds
  -- a constant above the largest value
  constant_too_large : (h : Atom) (ls : List Atom) (n : Token) (ts : List Token) (t : Token) → is_constant t ≡ true →
      4294967295 < value t → Cause cat (due (h ∷ ls) n ts) t ConstantTooLarge

-- queries over a catalogue; blanks are passed over
abbrev pub queries : Described → Grammar
queries cat = record {
  Part = Part;
  Good = Good;
  shown = shown;
  whole = whole;
  Cause = Cause cat;
  skips = is_blank_token;
  form = QueryForm;
  limit = QueryLimit;
}
