-- Files of many rows with the same input.
use Rattle.std.specs.Prelude.{ℕ, List, [], ◌∷◌, ◌++◌}
use Rattle.std.specs.List.{flat_map, range_with_len}

-- the bytes of so many rows: (1, 0), (1, 1) and so on
abbrev pub crowd_rows : ℕ → List ℕ
crowd_rows rows = flat_map (λ row. 1 ∷ row ∷ []) (range_with_len 0 rows)

-- the header of two columns, of which the first is given, and the rows
abbrev pub crowd : ℕ → List ℕ
crowd rows = (2 ∷ 1 ∷ rows ∷ []) ++ crowd_rows rows
