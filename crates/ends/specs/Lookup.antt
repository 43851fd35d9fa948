-- Rows in cells of four, and how they lie around a list of inputs.
use Rattle.std.specs.Prelude.{◌≡◌, ℕ, ◌<◌, ◌≤◌, Bool, true, false, List, [], length, take, slice_index_or, ◌==◌}
use Rattle.source.specs.declared.mark.Mark.{Mark}
use Rattle.source.specs.Rows.{before}
use Rattle.source.specs.Marks.{inputs_of, matching}
use Rattle.files.specs.Held.{cut}

-- the rows in the cells that hold the inputs
abbrev pub found : List Mark → List ℕ → List (List ℕ) → List (List ℕ)
found marks inputs cells = matching marks inputs (cut (length marks) cells)

-- whether the given columns, one for each of the inputs, stand before the free ones
abbrev pub given_first : List Mark → List ℕ → Bool
given_first marks inputs = inputs_of (take (length inputs) marks) == length inputs

-- each row before the place comes before the inputs in its first columns
abbrev pub Below : List (List ℕ) → List ℕ → ℕ → Type 0
Below rows inputs place = (j : ℕ) → j < place → before (take (length inputs) (slice_index_or rows j [])) inputs ≡ true

-- no row from the place on comes before the inputs in its first columns
abbrev pub Beyond : List (List ℕ) → List ℕ → ℕ → Type 0
Beyond rows inputs place = (j : ℕ) → place ≤ j → j < length rows → before (take (length inputs) (slice_index_or rows j [])) inputs ≡ false
