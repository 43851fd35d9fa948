-- What a source means, and what every source's meaning obeys.
use Rattle.std.specs.Prelude.{◌≡◌, ℕ, ◌+◌, ◌≤◌, min, Bool, true, ◌&&◌, List, length}
use Rattle.faults.specs.declared.refusal.Refusal.{Refusal}
use Rattle.faults.specs.Refusals.{number}
use Rattle.source.specs.declared.mark.Mark.{Mark}
use Rattle.source.specs.Rows.{is_in, ascending}
use Rattle.source.specs.Marks.{inputs_of, matches, whole}

-- whether a list of inputs is barred: by which refusal, at which layer counted from the outermost
pub data Bar : Type 0 where
  clear : Bar
  barred : Refusal → ℕ → Bar

-- the marks of the columns, the relation, the bar of each list of inputs, and whether the source is
-- steady; of these only the bars ever change
pub record Meaning : Type 0 where
  pub marks : List Mark
  pub relation : List ℕ → Bool
  pub bars : List ℕ → Bar
  pub steady : Bool

-- the row is to be answered to the inputs: it matches them and is in the relation
abbrev pub wanted : Meaning → List ℕ → List ℕ → Bool
wanted m inputs row = matches m.marks inputs row && m.relation row

-- a bar is one of 31, 32 and 33, at a known layer
abbrev pub Proper : Bar → Type 0
Proper clear = Unit {0}
Proper (barred r layer) = (31 ≤ number r) × (number r ≤ 33) × (layer ≤ 254)

-- a bar of a source, seen from the layer over it; the number of the layer stops at 254
abbrev pub raised_bar : Bar → Bar
raised_bar clear = clear
raised_bar (barred r layer) = barred r (min (layer + 1) 254)

-- what holds of the meaning of every lawful source
pub record Lawful (m : Meaning) : Type 0 where
  pub some_column : 1 ≤ length m.marks
  pub four_columns : length m.marks ≤ 4
  pub three_given : inputs_of m.marks ≤ 3
  pub rows_whole : (row : List ℕ) → m.relation row ≡ true → whole m.marks row ≡ true
  pub few_match : (inputs : List ℕ) (rows : List (List ℕ)) → ascending rows ≡ true → ((row : List ℕ) → is_in row rows ≡ true → wanted m inputs row ≡ true) → length rows ≤ 64
  pub bars_proper : (inputs : List ℕ) → Proper (m.bars inputs)
