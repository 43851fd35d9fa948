-- Rows that an entry may hold.
use Rattle.std.specs.Prelude.{ℕ, Bool, true, ◌&&◌, List, [], ◌∷◌, length, nat_le}
use Rattle.source.specs.declared.mark.Mark.{Mark}
use Rattle.source.specs.Rows.{ascending}
use Rattle.source.specs.Marks.{matches, all_whole}

-- each row holds the inputs
abbrev pub all_match : List Mark → List ℕ → List (List ℕ) → Bool
all_match marks inputs [] = true
all_match marks inputs (r ∷ rs) = matches marks inputs r && all_match marks inputs rs

-- rows that may be remembered for the inputs: at most eight, ascending, whole, and holding the inputs
abbrev pub sound : List Mark → List ℕ → List (List ℕ) → Bool
sound marks inputs rows = (nat_le (length rows) 8 && ascending rows) && (all_whole marks rows && all_match marks inputs rows)
