-- Columns and their marks. A given column must be given in a call, a free one is answered.
use Rattle.std.specs.Prelude.{ℕ, suc, Bool, true, false, cond, ◌&&◌, List, [], ◌∷◌, length, ◌==◌}
use Rattle.source.specs.declared.mark.Mark.{Mark}
use Rattle.source.specs.declared.mark.Mark.TheVariants.{Given, Free}
use Rattle.source.specs.Rows.{same, all_values}

-- a column of this mark must be given
abbrev pub is_given : Mark → Bool
is_given Given = true
is_given Free = false

-- the two marks are equal
abbrev pub same_mark : Mark → Mark → Bool
same_mark Given Given = true
same_mark Given Free = false
same_mark Free Given = false
same_mark Free Free = true

-- the two lists of marks are equal
abbrev pub same_marks : List Mark → List Mark → Bool
same_marks [] [] = true
same_marks [] (n ∷ ns) = false
same_marks (m ∷ ms) [] = false
same_marks (m ∷ ms) (n ∷ ns) = same_mark m n && same_marks ms ns

-- how many inputs a call takes: one for each given column
abbrev pub inputs_of : List Mark → ℕ
inputs_of [] = 0
inputs_of (Given ∷ ms) = suc (inputs_of ms)
inputs_of (Free ∷ ms) = inputs_of ms

-- what a row holds in the given columns, in column order
abbrev pub picked : List Mark → List ℕ → List ℕ
picked [] row = []
picked (Given ∷ ms) [] = []
picked (Given ∷ ms) (v ∷ row) = v ∷ picked ms row
picked (Free ∷ ms) [] = []
picked (Free ∷ ms) (v ∷ row) = picked ms row

-- the row holds the inputs in its given columns
abbrev pub matches : List Mark → List ℕ → List ℕ → Bool
matches marks inputs row = same (picked marks row) inputs

-- the row has just one value for each column
abbrev pub whole : List Mark → List ℕ → Bool
whole marks row = length row == length marks && all_values row

-- each of the rows has just one value for each column
abbrev pub all_whole : List Mark → List (List ℕ) → Bool
all_whole marks [] = true
all_whole marks (r ∷ rs) = whole marks r && all_whole marks rs

-- those of the rows that match the inputs, in their order
abbrev pub matching : List Mark → List ℕ → List (List ℕ) → List (List ℕ)
matching marks inputs [] = []
matching marks inputs (r ∷ rs) = cond (matches marks inputs r) (r ∷ matching marks inputs rs) (matching marks inputs rs)
