-- A row put among ascending rows where it belongs.
use Rattle.std.proofs.Common.{◌≡◌, ℕ, zero, suc, ◌<◌, ◌≤◌, Bool, true, false, ◌||◌, ◌⊎◌, List, [], ◌∷◌, length, get_or, drop, sym, refl, ap, ◌∙◌, subst, inl, inr, arith}
use Rattle.std.specs.List.{insert}
use Rattle.std.proofs.lemmas.Bool.{and_parts, and_from, or_cases, or_left, false≢true, false_from_ne_true}
use Rattle.source.specs.Rows.{same, before, is_in, leads, ascending}
use Rattle.listing.specs.Answers.{Belongs}
use Rattle.source.proofs.Rows.{same_eq, eq_same, before_irrefl, before_trans, in_tail, ascending_tail, head_before_all}

or_swap : (a b c : Bool) → (a || (b || c)) ≡ (b || (a || c))
or_swap true true c = refl
or_swap true false c = refl
or_swap false b c = refl

pub in_inserted : (place : ℕ) (rows : List (List ℕ)) (row other : List ℕ) → is_in other (insert rows place row) ≡ (same other row || is_in other rows)
in_inserted zero rows row other = refl
in_inserted (suc place) [] row other = refl
in_inserted (suc place) (r ∷ rows) row other =
    ap (λ b. same other r || b) (in_inserted place rows row other) ∙ or_swap (same other r) (same other row) (is_in other rows)

leads_inserted : (place : ℕ) (r : List ℕ) (rows : List (List ℕ)) (row : List ℕ) → place ≤ length rows → leads r rows ≡ true → before r row ≡ true → leads r (insert rows place row) ≡ true
leads_inserted zero r rows row inside l b = b
leads_inserted (suc place) r [] row inside l b = absurd (omega arith)
leads_inserted (suc place) r (q ∷ rows) row inside l b = l

in_tail_belongs : (place : ℕ) (r : List ℕ) (rows : List (List ℕ)) (row : List ℕ) → Belongs (r ∷ rows) row (suc place) → Belongs rows row place
in_tail_belongs place r rows row b = record { inside = omega (arith, b.inside); above = λ k h. b.above (suc k) (omega arith); below = b.below }

pub ascending_inserted : (place : ℕ) (rows : List (List ℕ)) (row : List ℕ) → ascending rows ≡ true → Belongs rows row place → ascending (insert rows place row) ≡ true
ascending_inserted zero rows row asc b = and_from (leads row rows) (ascending rows) b.below asc
ascending_inserted (suc place) [] row asc b = absurd (omega (arith, b.inside))
ascending_inserted (suc place) (r ∷ rows) row asc b =
    let parts = and_parts (leads r rows) (ascending rows) asc in
    and_from (leads r (insert rows place row)) (ascending (insert rows place row))
    (leads_inserted place r rows row (omega (arith, b.inside)) parts.0 (b.above 0 (omega arith)))
    (ascending_inserted place rows row parts.1 (in_tail_belongs place r rows row b))

not_from_head : (rows : List (List ℕ)) (row : List ℕ) → ascending rows ≡ true → leads row rows ≡ true → is_in row rows ≡ true → ⊥
not_from_head [] row asc l i = false≢true i
not_from_head (r ∷ rows) row asc l i = go (or_cases (same row r) (is_in row rows) i)
  where
    go : (same row r ≡ true) ⊎ (is_in row rows ≡ true) → ⊥
    go (inl e) = before_irrefl row (subst (λ z. before row z ≡ true) (sym (same_eq row r e)) l)
    go (inr m) = before_irrefl row (before_trans row r row l (head_before_all r rows row asc m))

-- a row that belongs at a place is none of the rows
pub absent : (place : ℕ) (rows : List (List ℕ)) (row : List ℕ) → ascending rows ≡ true → Belongs rows row place → is_in row rows ≡ false
absent zero rows row asc b = false_from_ne_true (is_in row rows) (not_from_head rows row asc b.below)
absent (suc place) [] row asc b = refl
absent (suc place) (r ∷ rows) row asc b = or_from_false (same row r) (is_in row rows)
    (false_from_ne_true (same row r) (λ e. before_irrefl row (subst (λ z. before z row ≡ true) (sym (same_eq row r e)) (b.above 0 (omega arith)))))
    (absent place rows row (ascending_tail r rows asc) (in_tail_belongs place r rows row b))
  where
    or_from_false : (s t : Bool) → s ≡ false → t ≡ false → (s || t) ≡ false
    or_from_false s t e f = rw (e, f) refl

pub in_at : (rows : List (List ℕ)) (k : ℕ) (row : List ℕ) → k < length rows → get_or rows k [] ≡ row → is_in row rows ≡ true
in_at [] k row h e = absurd (omega arith)
in_at (r ∷ rows) zero row h e = or_left (same row r) (is_in row rows) (eq_same row r (sym e))
in_at (r ∷ rows) (suc k) row h e = in_tail row r rows (in_at rows k row (omega arith) e)

pub leads_at : (rows : List (List ℕ)) (k : ℕ) (row : List ℕ) → (k < length rows → before row (get_or rows k []) ≡ true) → leads row (drop k rows) ≡ true
leads_at [] zero row f = refl
leads_at [] (suc k) row f = refl
leads_at (r ∷ rows) zero row f = f (omega arith)
leads_at (r ∷ rows) (suc k) row f = leads_at rows k row (λ h. f (omega arith))
