-- Rows to which one is added.
use Rattle.std.proofs.Common.{◌≡◌, ℕ, suc, ◌^◌, ◌<◌, ◌≤◌, true, eqb, ltb, List, [], ◌∷◌, ◌++◌, length, get_or, take, drop, refl, take-append-drop, eq-eqb, lt-ltb}
use Rattle.std.proofs.lemmas.List.{length-take-le, map_push}
use Rattle.std.proofs.lemmas.Bool.{and_parts, and_from}
use Rattle.source.specs.declared.mark.Mark.{Mark}
use Rattle.source.specs.Rows.{all_values, ascending}
use Rattle.source.specs.Marks.{whole, all_whole}
use Rattle.files.specs.Held.{cut}

-- values in range
pub values_true : (xs : List ℕ) → ((i : ℕ) → get_or xs i 0 < 2 ^ 32) → all_values xs ≡ true
values_true [] h = refl
values_true (x ∷ xs) h = rw (lt-ltb x 4294967296 (h 0)) (values_true xs (λ i. h (suc i)))

pub values_split : (xs ys : List ℕ) → all_values (xs ++ ys) ≡ true → (all_values xs ≡ true) × (all_values ys ≡ true)
values_split [] ys e = (refl, e)
values_split (a ∷ xs) ys e =
    let p = and_parts (ltb a (2 ^ 32)) (all_values (xs ++ ys)) e in
    let q = values_split xs ys p.1 in
    (and_from (ltb a (2 ^ 32)) (all_values xs) p.0 q.0, q.1)

-- whole rows
pub whole_row : (ms : List Mark) (row : List ℕ) → length row ≡ length ms → all_values row ≡ true → whole ms row ≡ true
whole_row ms row l s = and_from (eqb (length row) (length ms)) (all_values row) (eq-eqb (length row) (length ms) l) s

pub whole_push : (ms : List Mark) (rows : List (List ℕ)) (row : List ℕ) → all_whole ms rows ≡ true → whole ms row ≡ true → all_whole ms (rows ++ row ∷ []) ≡ true
whole_push ms [] row a w = rw w refl
whole_push ms (r ∷ rows) row a w =
    let p = and_parts (whole ms r) (all_whole ms rows) a in
    and_from (whole ms r) (all_whole ms (rows ++ row ∷ [])) p.0 (whole_push ms rows row p.1 w)

-- a row in cells
module _ (ms : List Mark) (cells : List (List ℕ)) (row : List ℕ) where
  pub cut_push : cut (length ms) (cells ++ row ∷ []) ≡ cut (length ms) cells ++ take (length ms) row ∷ []
  cut_push = map_push (take (length ms)) cells row

  pub push_whole : length ms ≤ length row → ((i : ℕ) → get_or row i 0 < 2 ^ 32) → all_whole ms (cut (length ms) cells) ≡ true → all_whole ms (cut (length ms) (cells ++ row ∷ [])) ≡ true
  push_whole l h w =
      let values = values_split (take (length ms) row) (drop (length ms) row) (rw take-append-drop (values_true row h)) in
      rw cut_push (whole_push ms (cut (length ms) cells) (take (length ms) row) w (whole_row ms (take (length ms) row) (length-take-le (length ms) row l) values.0))

  pub push_ascends : ascending (cut (length ms) cells ++ take (length ms) row ∷ []) ≡ true → ascending (cut (length ms) (cells ++ row ∷ [])) ≡ true
  push_ascends a = rw cut_push a
