-- One row more of a crowd.
use Rattle.std.proofs.Common.{◌≡◌, ℕ, zero, suc, ◌+◌, List, [], ◌∷◌, ◌++◌, sym, ap, ◌∙◌, add-one, arith}
use Rattle.std.specs.List.{flat_map, range_with_len}
use Rattle.std.proofs.lemmas.List.{flat_map_more}
use Rattle.ends_tests.specs.Crowds.{crowd_rows}

range_more : (a n : ℕ) → range_with_len a (suc n) ≡ range_with_len a n ++ (a + n) ∷ []
range_more a zero = let e : a ≡ a + 0 = omega arith in ap (λ (x : ℕ). x ∷ []) e
range_more a (suc n) =
    let e : a + 1 + n ≡ a + suc n = omega arith in
    ap (λ (xs : List ℕ). a ∷ xs) (range_more (a + 1) n ∙ ap (λ (x : ℕ). range_with_len (a + 1) n ++ x ∷ []) e)

pub crowd_more : (front : List ℕ) (row : ℕ) → (front ++ crowd_rows row) ++ 1 ∷ row ∷ [] ≡ front ++ crowd_rows (row + 1)
crowd_more front row =
    let more : range_with_len 0 (row + 1) ≡ range_with_len 0 row ++ row ∷ [] = ap (range_with_len 0) (add-one row) ∙ range_more 0 row ∙ ap (λ (x : ℕ). range_with_len 0 row ++ x ∷ []) (omega arith) in
    flat_map_more (λ (x : ℕ). 1 ∷ x ∷ []) front (range_with_len 0 row) row ∙ ap (λ (xs : List ℕ). front ++ flat_map (λ (x : ℕ). 1 ∷ x ∷ []) xs) (sym more)
