-- Picking literals one after another, and the table of the variables that have a value so far.
use Rattle.std.specs.Prelude.{◌≡◌, ℕ, ◌<◌, Bool, true, false, ◌||◌, List, length, ◌==◌, slice_index_or}
use Rattle.std.specs.List.{list_any}
use mathlib.Core.List.{Memᴰ}
use Rattle.source.specs.declared.mark.Mark.{Mark}
use Rattle.source.specs.declared.mark.Mark.TheVariants.{Given, Free}
use Rattle.query.specs.declared.term.Term.{Term}
use Rattle.query.specs.declared.term.Term.TheVariants.{Constant, Variable}
use Rattle.ordering.specs.Literals.{Literal, literal_at}
use Rattle.ordering.specs.Orders.{Ready}

-- the term is a constant, or a variable whose cell is set
abbrev pub SetIn : List Bool → Term → Type 0
SetIn bound (Constant value) = Unit {0}
SetIn bound (Variable v) = slice_index_or bound v false ≡ true

-- each term in a column marked `b` is set
abbrev pub AllSet : List Bool → List Mark → List Term → Type 0
AllSet bound marks terms =
    (column : ℕ) → column < length marks → slice_index_or marks column Free ≡ Given → SetIn bound (slice_index_or terms column (Constant 0))

-- the term is this variable
abbrev pub is_variable_of : ℕ → Term → Bool
is_variable_of v (Constant value) = false
is_variable_of v (Variable u) = v == u

-- after binding, just those cells are set that were, and those of the terms' variables
abbrev pub Binds : List Term → List Bool → List Bool → Type 0
Binds terms bound bound' =
    (v : ℕ) → v < 16 → slice_index_or bound' v false ≡ (slice_index_or bound v false || list_any (is_variable_of v) terms)

-- the variable stands in a literal at one of the places `earlier`
abbrev pub is_bound : List Literal → List ℕ → ℕ → Bool
is_bound literals earlier v = list_any (λ place. list_any (is_variable_of v) (literal_at literals place).terms) earlier

-- just the cells of those variables are set that stand in a literal at one of the places `earlier`
abbrev pub Tells : List Literal → List ℕ → List Bool → Type 0
Tells literals earlier bound = (v : ℕ) → v < 16 → slice_index_or bound v false ≡ is_bound literals earlier v

-- the literal at the place can be called next: it is not taken, and it is ready after the taken ones
pub record Next (literals : List Literal) (taken : List ℕ) (place : ℕ) : Type 0 where
  pub fresh : Memᴰ place taken → ⊥
  pub ready : Ready literals taken (literal_at literals place)

-- the lowest place that can be called next
pub record Picks (literals : List Literal) (taken : List ℕ) (place : ℕ) : Type 0 where
  pub within : place < length literals
  pub next : Next literals taken place
  pub lowest : (lower : ℕ) → lower < place → Next literals taken lower → ⊥

-- no place can be called next
abbrev pub Stuck : List Literal → List ℕ → Type 0
Stuck literals taken = (place : ℕ) → place < length literals → Next literals taken place → ⊥

-- the lowest place below the count that is not taken
pub record LowestLeft (count : ℕ) (taken : List ℕ) (place : ℕ) : Type 0 where
  pub within : place < count
  pub fresh : Memᴰ place taken → ⊥
  pub lowest : (lower : ℕ) → lower < place → Memᴰ lower taken
