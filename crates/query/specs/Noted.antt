-- Kinds that are noted for variables.
use Rattle.std.specs.Prelude.{ℕ, Bool, false, not, List, Some, None, Option, ◌==◌, slice_set}

-- there is a kind, and it is another
abbrev pub other_kind : Option ℕ → ℕ → Bool
other_kind None k = false
other_kind (Some j) k = not (j == k)

-- a kind is noted where there is none; what was noted first stays
abbrev pub noted : List (Option ℕ) → ℕ → ℕ → Option ℕ → List (Option ℕ)
noted cells i k None = slice_set cells i (Some k)
noted cells i k (Some j) = cells
