-- How many bytes numbers and rows take.
use Rattle.std.proofs.Common.{◌≡◌, ℕ, ◌+◌, ◌*◌, ◌<◌, ◌≤◌, List, [], ◌∷◌, ◌++◌, length, get_or, take, drop, sym, refl, ap, ◌∙◌, arith, length-append, take-append-drop}
use Rattle.std.specs.List.{sum_by}
use Rattle.std.proofs.lemmas.List.{take_more, map_more, map-append, length-take}
use Rattle.std.proofs.lemmas.List.Sums.{sum_by-cons}
use Rattle.source.specs.declared.mark.Mark.{Mark}
use Rattle.source.specs.Rows.{flat}
use Rattle.numbers.specs.Forms.{encode, encodes}
use Rattle.numbers.proofs.Encoding.{encode_few, encodes-++, encodes_one}
use Rattle.files.specs.Contents.{numbers, header_numbers}
use Rattle.files.specs.Held.{cut}
use Rattle.files.proofs.Holding.{flat_push, flat-++}

-- the bytes of values, one by one
pub values_long : (xs : List ℕ) → sum_by (λ (x : ℕ). length (encode x)) xs ≡ length (encodes xs)
unfolding encodes
values_long [] = refl
values_long (x ∷ xs) = sum_by-cons (λ (y : ℕ). length (encode y)) x xs ∙ rw (values_long xs, length-append (encode x) (encodes xs)) refl

pub values_few : (xs : List ℕ) → length (encodes xs) ≤ 5 * length xs
unfolding encodes
values_few [] = omega arith
values_few (x ∷ xs) = omega (arith, length-append (encode x) (encodes xs), encode_few x, values_few xs)

-- the bytes of rows, one by one
pub rows_long : (c : ℕ) (cells : List (List ℕ)) → sum_by (λ (row : List ℕ). length (encodes (take c row))) cells ≡ length (encodes (flat (cut c cells)))
unfolding encodes
rows_long c [] = refl
rows_long c (row ∷ cells) = sum_by-cons (λ (r : List ℕ). length (encodes (take c r))) row cells ∙ rw (rows_long c cells, encodes-++ (take c row) (flat (cut c cells)), length-append (encodes (take c row)) (encodes (flat (cut c cells)))) refl

pub row_few : (c : ℕ) (row : List ℕ) → c ≤ 4 → length (encodes (take c row)) ≤ 20
row_few c row h = omega (arith, values_few (take c row), length-take c row)

pub rows_few : (c : ℕ) (cells : List (List ℕ)) → c ≤ 4 → length (encodes (flat (cut c cells))) ≤ 20 * length cells
unfolding encodes
rows_few c [] h = omega arith
rows_few c (row ∷ cells) h = omega (arith, ap length (encodes-++ (take c row) (flat (cut c cells))), length-append (encodes (take c row)) (encodes (flat (cut c cells))), row_few c row h, rows_few c cells h)

-- one value more
pub value_step : (i : ℕ) (xs : List ℕ) → i < length xs → encodes (take (i + 1) xs) ≡ encodes (take i xs) ++ encode (get_or xs i 0)
value_step i xs h = rw (take_more xs i 0 h, encodes-++ (take i xs) (get_or xs i 0 ∷ []), encodes_one (get_or xs i 0)) refl

pub value_longer : (i : ℕ) (xs : List ℕ) → i < length xs → length (encodes (take (i + 1) xs)) ≡ length (encodes (take i xs)) + length (encode (get_or xs i 0))
value_longer i xs h = ap length (value_step i xs h) ∙ length-append (encodes (take i xs)) (encode (get_or xs i 0))

-- the first of some values take no more than all
pub front_long : (xs ys : List ℕ) → length (encodes (xs ++ ys)) ≡ length (encodes xs) + length (encodes ys)
front_long xs ys = ap length (encodes-++ xs ys) ∙ length-append (encodes xs) (encodes ys)

pub value_fits : (i : ℕ) (xs : List ℕ) → i < length xs → length (encodes (take i xs)) + length (encode (get_or xs i 0)) ≤ length (encodes xs)
value_fits i xs h =
    let all : length (encodes (take (i + 1) xs ++ drop (i + 1) xs)) ≡ length (encodes xs) = ap (λ (x : List ℕ). length (encodes x)) (take-append-drop (i + 1) xs) in
    omega (arith, value_longer i xs h, front_long (take (i + 1) xs) (drop (i + 1) xs))

-- the numbers of a file up to a row, and one row more
pub numbers_step : (ms : List Mark) (n c i : ℕ) (cells : List (List ℕ)) → i < length cells → numbers ms n (cut c (take (i + 1) cells)) ≡ numbers ms n (cut c (take i cells)) ++ take c (get_or cells i [])
numbers_step ms n c i cells h =
    let more : flat (cut c (take (i + 1) cells)) ≡ flat (cut c (take i cells)) ++ take c (get_or cells i []) = ap flat (map_more (take c) cells i [] h) ∙ flat_push (cut c (take i cells)) (take c (get_or cells i [])) in
    ap (λ (x : List ℕ). header_numbers ms n ++ x) more

pub numbers_rest : (ms : List Mark) (n c i : ℕ) (cells : List (List ℕ)) → numbers ms n (cut c cells) ≡ numbers ms n (cut c (take i cells)) ++ flat (cut c (drop i cells))
numbers_rest ms n c i cells =
    let all : flat (cut c cells) ≡ flat (cut c (take i cells)) ++ flat (cut c (drop i cells)) = ap (λ (x : List (List ℕ)). flat (cut c x)) (sym (take-append-drop i cells)) ∙ ap flat (map-append (take c) (take i cells) (drop i cells)) ∙ flat-++ (cut c (take i cells)) (cut c (drop i cells)) in
    ap (λ (x : List ℕ). header_numbers ms n ++ x) all

pub row_fits : (ms : List Mark) (n c i : ℕ) (cells : List (List ℕ)) → i < length cells → length (encodes (numbers ms n (cut c (take i cells)))) + length (encodes (take c (get_or cells i []))) ≤ length (encodes (numbers ms n (cut c cells)))
row_fits ms n c i cells h =
    let step : length (encodes (numbers ms n (cut c (take (i + 1) cells)))) ≡ length (encodes (numbers ms n (cut c (take i cells)))) + length (encodes (take c (get_or cells i []))) = ap (λ (x : List ℕ). length (encodes x)) (numbers_step ms n c i cells h) ∙ front_long (numbers ms n (cut c (take i cells))) (take c (get_or cells i [])) in
    let all : length (encodes (numbers ms n (cut c cells))) ≡ length (encodes (numbers ms n (cut c (take (i + 1) cells)))) + length (encodes (flat (cut c (drop (i + 1) cells)))) = ap (λ (x : List ℕ). length (encodes x)) (numbers_rest ms n c (i + 1) cells) ∙ front_long (numbers ms n (cut c (take (i + 1) cells))) (flat (cut c (drop (i + 1) cells))) in
    omega arith

-- a file by its header and its rows
pub file_long : (ms : List Mark) (n : ℕ) (rows : List (List ℕ)) → length (encodes (numbers ms n rows)) ≡ length (encodes (header_numbers ms n)) + length (encodes (flat rows))
file_long ms n rows = front_long (header_numbers ms n) (flat rows)
