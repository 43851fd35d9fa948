-- The literals of a conjunctive query, as far as the order in which they are called depends on them.
use Rattle.std.specs.Prelude.{◌≡◌, ℕ, ◌<◌, ◌≤◌, List, [], length, slice_index_or}
use mathlib.Core.List.{Memᴰ}
use Rattle.source.specs.declared.mark.Mark.{Mark}
use Rattle.query.specs.declared.term.Term.{Term}
use Rattle.query.specs.declared.term.Term.TheVariants.{Variable}

-- the marks of its source's columns, and the terms that stand in them
pub record Literal : Type 0 where
  pub marks : List Mark
  pub terms : List Term

abbrev pub no_literal : Literal
no_literal = record { marks = []; terms = [] }

-- the literal at a place, counted from 0; past the last, one without columns
abbrev pub literal_at : List Literal → ℕ → Literal
literal_at literals place = slice_index_or literals place no_literal

-- the variable stands in the literal
abbrev pub Names : Literal → ℕ → Type 0
Names literal v = Memᴰ (Variable v) literal.terms

-- the variables among the terms are numbered below 16
abbrev pub Numbered : List Term → Type 0
Numbered terms = (v : ℕ) → Memᴰ (Variable v) terms → v < 16

-- a term for each column, and variables numbered below 16
pub record Proper (literal : Literal) : Type 0 where
  pub paired : length literal.terms ≡ length literal.marks
  pub numbered : Numbered literal.terms

-- what holds of the literals of every query: they are few, and each is proper
pub record WellFormed (literals : List Literal) : Type 0 where
  pub few : length literals ≤ 8
  pub proper : (place : ℕ) → place < length literals → Proper (literal_at literals place)
