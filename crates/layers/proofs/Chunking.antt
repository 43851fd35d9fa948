-- Values of rows that stand one after another.
use Rattle.std.proofs.Common.{◌≡◌, ℕ, zero, suc, ◌+◌, ◌-◌, ◌*◌, ◌≤◌, true, List, ◌∷◌, ◌++◌, length, take, drop, sym, refl, ap, ◌∙◌, arith, suc-mul, zero-mul, add_comm, mul-le-mul, take-add}
use Rattle.std.proofs.lemmas.List.{take-take, take_at, drop-take, length-take-le}
use Rattle.std.proofs.lemmas.Bool.{and_parts, leb-true}
use Rattle.source.specs.declared.mark.Mark.{Mark}
use Rattle.source.specs.Rows.{flat, rows_in}
use Rattle.source.proofs.Chunks.{length_rows_in}
use Rattle.layers.specs.Entries.{sound}

-- the first rows lie in the first values
pub rows_in_front : (columns count n : ℕ) (values : List ℕ) → count * columns ≤ n → rows_in columns count (take n values) ≡ rows_in columns count values
rows_in_front columns zero n values h = refl
rows_in_front columns (suc count) n values h =
    let m = suc-mul count columns in
    let fits : columns ≤ n = omega arith in
    let split : columns + (n - columns) ≡ n = omega arith in
    let rest : drop columns (take n values) ≡ take (n - columns) (drop columns values) = ap (λ z. drop columns (take z values)) (sym split) ∙ drop-take columns (n - columns) values in
    rw (take-take columns n values fits, rest) (ap (λ (z : List (List ℕ)). take columns values ∷ z) (rows_in_front columns count (n - columns) (drop columns values) (omega arith)))

-- the values of the first rows
pub flat_rows_in : (columns count : ℕ) (values : List ℕ) → flat (rows_in columns count values) ≡ take (count * columns) values
flat_rows_in columns zero values = rw (zero-mul columns) refl
flat_rows_in columns (suc count) values =
    ap (λ z. take columns values ++ z) (flat_rows_in columns count (drop columns values)) ∙ sym (take-add columns (count * columns) values) ∙ ap (λ z. take z values) (add_comm columns (count * columns) ∙ sym (suc-mul count columns))

-- eight rows of four columns lie in the first 32 values
pub first_rows : (columns count : ℕ) (memory : List ℕ) → columns ≤ 4 → count ≤ 8 → rows_in columns count (take 32 memory) ≡ rows_in columns count memory
first_rows columns count memory c n = rows_in_front columns count 32 memory (omega (arith, mul-le-mul n c))

-- items put over the first cells are held there
pub cells_hold : {X : Type 0} (cells after xs : List X) (n : ℕ) → after ≡ xs → n ≡ length xs → take n (after ++ drop n cells) ≡ xs
cells_hold cells after xs n e l = ap (λ z. take n (z ++ drop n cells)) e ∙ take_at xs (drop n cells) n (sym l)

-- the rows of an entry take at most 32 values
pub sound_fits : (marks : List Mark) (inputs : List ℕ) (columns count : ℕ) (values : List ℕ) → columns ≤ 4 → sound marks inputs (rows_in columns count values) ≡ true → count * columns ≤ 32
sound_fits marks inputs columns count values c s =
    let few = leb-true (length (rows_in columns count values)) 8 (and_parts _ _ (and_parts _ _ s).0).0 in
    let n : count ≤ 8 = omega (arith, length_rows_in columns count values) in
    omega (arith, mul-le-mul n c)

-- the first values of an entry, copied over the first cells of a memory, are its rows there
pub copied_rows : (columns count used : ℕ) (values copied memory : List ℕ) → used ≡ count * columns → used ≤ length values → copied ≡ take used values → copied ++ drop used memory ≡ flat (rows_in columns count values) ++ drop (length (flat (rows_in columns count values))) memory
copied_rows columns count used values copied memory e l h =
    let rows : flat (rows_in columns count values) ≡ take used values = flat_rows_in columns count values ∙ ap (λ z. take z values) (sym e) in
    rw (rows, length-take-le used values l, h) refl
