-- The values of rows, one row after another.
use Rattle.std.proofs.Common.{◌≡◌, List, ℕ, [], ◌∷◌, ◌++◌, sym, refl, ap, ◌∙◌, append_assoc, append-nil}
use Rattle.source.specs.Rows.{flat}

pub flat_push : (rows : List (List ℕ)) (row : List ℕ) → flat (rows ++ row ∷ []) ≡ flat rows ++ row
flat_push [] row = append-nil row
flat_push (r ∷ rows) row = rw (flat_push rows row) (sym (append_assoc r (flat rows) row))

pub flat-++ : (xs ys : List (List ℕ)) → flat (xs ++ ys) ≡ flat xs ++ flat ys
flat-++ [] ys = refl
flat-++ (x ∷ xs) ys = ap (λ (t : List ℕ). x ++ t) (flat-++ xs ys) ∙ sym (append_assoc x (flat xs) (flat ys))
