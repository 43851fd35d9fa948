-- A query as plain lists, for whoever speaks of queries.
use Rattle.std.specs.Prelude.{ℕ, Bool, true, false, ◌&&◌, ◌||◌, List, [], ◌∷◌, map, length, ◌==◌, nat_lt, slice_index_or}
use Rattle.bounded.specs.Held.{held}
use Rattle.catalogue.specs.Plain.{PlainColumns, no_columns}
use Rattle.query.specs.declared.term.Term as record_term
use Rattle.query.specs.declared.term.Term.TheVariants.{Constant, Variable}
use Rattle.query.specs.declared.term.Literal as record_literal

-- a value, or the number of a variable
pub data Term : Type 0 where
  constant : ℕ → Term
  variable : ℕ → Term

-- the number of a source, and a term for each of its columns
pub record Literal : Type 0 where
  pub source : ℕ
  pub terms : List Term

-- the numbers of the head's variables, and the literals
pub record PlainQuery : Type 0 where
  pub head : List ℕ
  pub literals : List Literal

-- what the records hold
abbrev pub plain_term : record_term.Term → Term
plain_term (Constant v) = constant v
plain_term (Variable i) = variable i

abbrev pub plain_literal : record_literal.Literal → Literal
plain_literal l = record { source = l.source; terms = map plain_term (held l.terms) }

-- the term is a variable of this number
abbrev pub is_variable_of : ℕ → Term → Bool
is_variable_of i (constant v) = false
is_variable_of i (variable j) = i == j

abbrev pub occurs_in : ℕ → List Term → Bool
occurs_in i [] = false
occurs_in i (t ∷ ts) = is_variable_of i t || occurs_in i ts

-- the variable stands in some literal
abbrev pub occurs : ℕ → List Literal → Bool
occurs i [] = false
occurs i (l ∷ ls) = occurs_in i l.terms || occurs i ls

-- the number of a variable is below the count of variables
abbrev pub below : ℕ → Term → Bool
below count (constant v) = true
below count (variable i) = nat_lt i count

abbrev pub all_below : ℕ → List Term → Bool
all_below count [] = true
all_below count (t ∷ ts) = below count t && all_below count ts

-- the source exists, and each of its columns has one term
abbrev pub fitting : List PlainColumns → ℕ → Literal → Bool
fitting columns count l =
    nat_lt l.source (length columns) && (length l.terms == length (slice_index_or columns l.source no_columns).kinds && all_below count l.terms)

abbrev pub all_fitting : List PlainColumns → ℕ → List Literal → Bool
all_fitting columns count [] = true
all_fitting columns count (l ∷ ls) = fitting columns count l && all_fitting columns count ls

-- each variable of the head stands in some literal
abbrev pub all_occur : List ℕ → List Literal → Bool
all_occur [] ls = true
all_occur (i ∷ rest) ls = occurs i ls && all_occur rest ls

-- a query over a catalogue: its literals fit the sources, and its head has no other variables than they
abbrev pub sound : List PlainColumns → ℕ → List ℕ → List Literal → Bool
sound columns count head ls = all_fitting columns count ls && all_occur head ls
