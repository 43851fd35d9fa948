-- Rows that stand one after another in a list of values.
use Rattle.std.proofs.Common.{◌≡◌, ℕ, zero, suc, ◌+◌, ◌*◌, ◌<◌, true, List, [], ◌∷◌, ◌++◌, length, get_or, take, drop, sym, refl, ap, ◌∙◌, append_assoc, mul-zero, mul-suc, arith, length-append}
use Rattle.std.proofs.lemmas.List.{take_at, drop_at, drop-drop}
use Rattle.std.proofs.lemmas.Bool.{and_parts, eqb-true}
use Rattle.source.specs.declared.mark.Mark.{Mark}
use Rattle.source.specs.Rows.{flat, rows_in}
use Rattle.source.specs.Marks.{whole, all_whole}

pub length_rows_in : (columns count : ℕ) (values : List ℕ) → length (rows_in columns count values) ≡ count
length_rows_in columns zero values = refl
length_rows_in columns (suc count) values = ap suc (length_rows_in columns count (drop columns values))

whole_long : (marks : List Mark) (r : List ℕ) → whole marks r ≡ true → length r ≡ length marks
whole_long marks r h = eqb-true (length r) (length marks) (and_parts _ _ h).0

-- rows that stand in front of a list are its first rows
pub rows_in_flat : (marks : List Mark) (rows : List (List ℕ)) (rest : List ℕ) → all_whole marks rows ≡ true → rows_in (length marks) (length rows) (flat rows ++ rest) ≡ rows
rows_in_flat marks [] rest w = refl
rows_in_flat marks (r ∷ rs) rest w =
    let p = and_parts (whole marks r) (all_whole marks rs) w in
    let long = whole_long marks r p.0 in
    rw (append_assoc r (flat rs) rest, take_at r (flat rs ++ rest) (length marks) long, drop_at r (flat rs ++ rest) (length marks) long) (ap (λ (z : List (List ℕ)). r ∷ z) (rows_in_flat marks rs rest p.1))

-- they take so many values
pub length_flat : (marks : List Mark) (rows : List (List ℕ)) → all_whole marks rows ≡ true → length (flat rows) ≡ length marks * length rows
length_flat marks [] w = sym (mul-zero (length marks))
length_flat marks (r ∷ rs) w =
    let p = and_parts (whole marks r) (all_whole marks rs) w in
    let long = whole_long marks r p.0 in
    let rest = length_flat marks rs p.1 in
    let all = length-append r (flat rs) in
    let m = mul-suc (length marks) (length rs) in
    omega arith

-- the row at a place
pub row_in_at : (columns count : ℕ) (values : List ℕ) (k : ℕ) → k < count → get_or (rows_in columns count values) k [] ≡ take columns (drop (columns * k) values)
row_in_at columns zero values k h = absurd (omega arith)
row_in_at columns (suc count) values zero h = ap (λ (n : ℕ). take columns (drop n values)) (sym (mul-zero columns))
row_in_at columns (suc count) values (suc k) h =
    let e : columns + columns * k ≡ columns * suc k = (let m = mul-suc columns k in omega arith) in
    row_in_at columns count (drop columns values) k (omega arith) ∙ (ap (take columns) (drop-drop (columns * k) columns values) ∙ ap (λ (n : ℕ). take columns (drop n values)) e)
