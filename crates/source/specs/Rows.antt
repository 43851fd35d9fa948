-- Rows of values. A value is a whole number below 2^32, and a row is a list of values.
use Rattle.std.specs.Prelude.{◌≡◌, ℕ, zero, suc, ◌^◌, Bool, true, false, ◌&&◌, ◌||◌, List, [], ◌∷◌, ◌++◌, length, take, drop, ◌==◌, nat_lt}

-- each number is a value
abbrev pub all_values : List ℕ → Bool
all_values [] = true
all_values (v ∷ vs) = nat_lt v (2 ^ 32) && all_values vs

-- the two rows are equal
abbrev pub same : List ℕ → List ℕ → Bool
same [] [] = true
same [] (y ∷ ys) = false
same (x ∷ xs) [] = false
same (x ∷ xs) (y ∷ ys) = x == y && same xs ys

-- the first row comes before the second: it is smaller in the first column in which they differ
abbrev pub before : List ℕ → List ℕ → Bool
before [] [] = false
before [] (y ∷ ys) = true
before (x ∷ xs) [] = false
before (x ∷ xs) (y ∷ ys) = nat_lt x y || (x == y && before xs ys)

-- the row is one of the rows
abbrev pub is_in : List ℕ → List (List ℕ) → Bool
is_in row [] = false
is_in row (r ∷ rs) = same row r || is_in row rs

-- the row comes before the first of the rows, if there is one
abbrev pub leads : List ℕ → List (List ℕ) → Bool
leads r [] = true
leads r (q ∷ qs) = before r q

-- each row comes before the next
abbrev pub ascending : List (List ℕ) → Bool
ascending [] = true
ascending (r ∷ rs) = leads r rs && ascending rs

-- the values of the rows, one row after another
abbrev pub flat : List (List ℕ) → List ℕ
flat [] = []
flat (r ∷ rs) = r ++ flat rs

-- so many rows of so many columns, from the start of the values
abbrev pub rows_in : ℕ → ℕ → List ℕ → List (List ℕ)
rows_in columns zero values = []
rows_in columns (suc count) values = take columns values ∷ rows_in columns count (drop columns values)

-- the rows stand without gaps from the start of the memory, and the rest of it is as before
abbrev pub Written : List (List ℕ) → List ℕ → List ℕ → Type 0
Written rows memory memory' = memory' ≡ flat rows ++ drop (length (flat rows)) memory
