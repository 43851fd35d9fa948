-- Orders of literals, and which of them are executable. An order is a list of literal places.
use Rattle.std.specs.Prelude.{◌≡◌, ℕ, ◌<◌, true, ◌⊎◌, List, [], ◌∷◌, length, take, slice_index, slice_index_or}
use mathlib.Core.List.{Memᴰ}
use Rattle.source.specs.declared.mark.Mark.TheVariants.{Given, Free}
use Rattle.source.specs.Rows.{before}
use Rattle.query.specs.declared.term.Term.{Term}
use Rattle.query.specs.declared.term.Term.TheVariants.{Constant, Variable}
use Rattle.ordering.specs.Literals.{Literal, literal_at, Names}

-- no place stands twice in the list
pub data Distinct : List ℕ → Type 0 where
  none : Distinct []
  another : {place : ℕ} {places : List ℕ} → (Memᴰ place places → ⊥) → Distinct places → Distinct (place ∷ places)

-- different places of literals, not necessarily all, in any order
pub record Selection (count : ℕ) (order : List ℕ) : Type 0 where
  pub within : (place : ℕ) → Memᴰ place order → place < count
  pub distinct : Distinct order

-- each place of the literals exactly once
pub record Rearrangement (count : ℕ) (order : List ℕ) : Type 0 where
  pub selection : Selection count order
  pub all : (place : ℕ) → place < count → Memᴰ place order

-- the term has a value before the literal that it stands in is called: it is a constant, or a variable that stands in a
-- literal at one of the places `earlier`
pub data Known (literals : List Literal) (earlier : List ℕ) : Term → Type 0 where
  constant : (value : ℕ) → Known literals earlier (Constant value)
  variable : (v place : ℕ) → Memᴰ place earlier → Names (literal_at literals place) v → Known literals earlier (Variable v)

-- each column marked `b` of the literal holds a term that has a value after the literals at the places `earlier`
abbrev pub Ready : List Literal → List ℕ → Literal → Type 0
Ready literals earlier literal =
    (column : ℕ) → column < length literal.marks → slice_index_or literal.marks column Free ≡ Given →
    Known literals earlier (slice_index_or literal.terms column (Constant 0))

-- at each position of the order the literal is ready after those at the positions in front of it; its own variables do
-- not count
abbrev pub Executable : List Literal → List ℕ → Type 0
Executable literals order =
    (i : ℕ) → i < length order → Ready literals (take i order) (literal_at literals (slice_index order i))

-- the place lies in an executable order of some selection of the literals
pub record Attainable (literals : List Literal) (place : ℕ) : Type 0 where
  pub order : List ℕ
  pub selection : Selection (length literals) order
  pub executable : Executable literals order
  pub lies : Memᴰ place order

-- an executable order of all literals, and the first of them, compared place by place
pub record First (literals : List Literal) (order : List ℕ) : Type 0 where
  pub rearrangement : Rearrangement (length literals) order
  pub executable : Executable literals order
  pub first : (other : List ℕ) → Rearrangement (length literals) other → Executable literals other → (order ≡ other) ⊎ (before order other ≡ true)

-- no rearrangement of the literals is executable, and the place is the lowest that lies in no executable order of any
-- selection of them
pub record Unordered (literals : List Literal) (place : ℕ) : Type 0 where
  pub none : (order : List ℕ) → Rearrangement (length literals) order → Executable literals order → ⊥
  pub there : place < length literals
  pub never : Attainable literals place → ⊥
  pub lowest : (lower : ℕ) → lower < place → Attainable literals lower
