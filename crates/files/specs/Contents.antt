-- What a register file holds, and the bytes of a file.
use Rattle.std.specs.Prelude.{◌≡◌, ℕ, ◌+◌, ◌*◌, ◌≤◌, true, List, [], ◌∷◌, length}
use Rattle.source.specs.declared.mark.Mark.{Mark}
use Rattle.source.specs.declared.mark.Mark.TheVariants.{Given, Free}
use Rattle.source.specs.Rows.{ascending, flat}
use Rattle.source.specs.Marks.{inputs_of, all_whole, matching}
use Rattle.numbers.specs.Forms.{encodes}

-- a mark as a bit: 1 if the column is given
abbrev pub bit : Mark → ℕ
bit Given = 1
bit Free = 0

-- the marks as a number: bit i is that of column i
abbrev pub bits : List Mark → ℕ
bits [] = 0
bits (m ∷ ms) = bit m + 2 * bits ms

-- what a header may say: one to four columns, at most three of them given, at most 1,024 rows
pub record Header (marks : List Mark) (count : ℕ) : Type 0 where
  pub some_column : 1 ≤ length marks
  pub four_columns : length marks ≤ 4
  pub three_given : inputs_of marks ≤ 3
  pub few_rows : count ≤ 1024

-- what a file can hold: whole rows, ascending, of which at most 64 match one list of inputs
pub record Storable (marks : List Mark) (rows : List (List ℕ)) : Type 0 where
  pub header : Header marks (length rows)
  pub rows_whole : all_whole marks rows ≡ true
  pub ascends : ascending rows ≡ true
  pub few_match : (inputs : List ℕ) → length (matching marks inputs rows) ≤ 64

-- the numbers of a header, and those of a file: the header's and then the values of the rows
abbrev pub header_numbers : List Mark → ℕ → List ℕ
header_numbers marks count = length marks ∷ bits marks ∷ count ∷ []

abbrev pub numbers : List Mark → ℕ → List (List ℕ) → List ℕ
numbers marks count rows = length marks ∷ bits marks ∷ count ∷ flat rows

-- the bytes of a file
abbrev pub file : List Mark → List (List ℕ) → List ℕ
file marks rows = encodes (numbers marks (length rows) rows)

-- these bytes are the file of these marks and rows
pub record FileOf (bytes : List ℕ) (marks : List Mark) (rows : List (List ℕ)) : Type 0 where
  pub storable : Storable marks rows
  pub bytes_are : bytes ≡ file marks rows
