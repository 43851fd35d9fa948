-- The rows of a list that match some inputs.
use Rattle.std.proofs.Common.{◌≡◌, ℕ, Bool, true, false, cond, ◌&&◌, ◌||◌, List, [], ◌∷◌, ◌++◌, sym, refl, ap, ◌∙◌, subst, inl, inr}
use Rattle.std.proofs.lemmas.Bool.{and_parts, and_from, or_cases, false≢true}
use Rattle.source.specs.declared.mark.Mark.{Mark}
use Rattle.source.specs.Rows.{same, before, is_in, ascending, leads}
use Rattle.source.specs.Marks.{matches, matching, whole, all_whole}
use Rattle.source.proofs.Rows.{same_eq, before_trans, in_head, in_tail, ascending_tail}

module _ (marks : List Mark) (inputs : List ℕ) where
  -- membership among the matching rows is membership and matching
  pub in_matching : (rows : List (List ℕ)) (row : List ℕ) → is_in row (matching marks inputs rows) ≡ (matches marks inputs row && is_in row rows)
  in_matching [] row = none (matches marks inputs row)
    where
      none : (b : Bool) → false ≡ (b && false)
      none true = refl
      none false = refl
  in_matching (r ∷ rs) row = go (matches marks inputs r) refl (same row r) refl (in_matching rs row)
    where
      go : (b : Bool) → matches marks inputs r ≡ b → (d : Bool) → same row r ≡ d → is_in row (matching marks inputs rs) ≡ (matches marks inputs row && is_in row rs) → is_in row (cond b (r ∷ matching marks inputs rs) (matching marks inputs rs)) ≡ (matches marks inputs row && (d || is_in row rs))
      go true e true s ih = rw (s, same_eq row r s, e) refl
      go true e false s ih = rw s ih
      go false e true s ih = ih ∙ rw (same_eq row r s, e) refl
      go false e false s ih = ih

  pub matching_append : (xs ys : List (List ℕ)) → matching marks inputs (xs ++ ys) ≡ matching marks inputs xs ++ matching marks inputs ys
  matching_append [] ys = refl
  matching_append (x ∷ xs) ys = go (matches marks inputs x) (matching_append xs ys)
    where
      go : (b : Bool) → matching marks inputs (xs ++ ys) ≡ matching marks inputs xs ++ matching marks inputs ys → cond b (x ∷ matching marks inputs (xs ++ ys)) (matching marks inputs (xs ++ ys)) ≡ cond b (x ∷ matching marks inputs xs) (matching marks inputs xs) ++ matching marks inputs ys
      go true ih = ap (λ (t : List (List ℕ)). x ∷ t) ih
      go false ih = ih

  leads_matching : (r : List ℕ) (rows : List (List ℕ)) → ascending (r ∷ rows) ≡ true → leads r (matching marks inputs rows) ≡ true
  leads_matching r [] s = refl
  leads_matching r (q ∷ qs) s = go (matches marks inputs q) (leads_matching r qs)
    where
      p : (before r q ≡ true) × (ascending (q ∷ qs) ≡ true)
      p = and_parts (before r q) (ascending (q ∷ qs)) s

      skip : (zs : List (List ℕ)) → ascending (q ∷ zs) ≡ true → leads r zs ≡ true
      skip [] t = refl
      skip (z ∷ zs) t = before_trans r q z p.0 (and_parts (before q z) (ascending (z ∷ zs)) t).0

      go : (b : Bool) → (ascending (r ∷ qs) ≡ true → leads r (matching marks inputs qs) ≡ true) → leads r (cond b (q ∷ matching marks inputs qs) (matching marks inputs qs)) ≡ true
      go true ih = p.0
      go false ih = ih (and_from (leads r qs) (ascending qs) (skip qs p.1) (ascending_tail q qs p.1))

  -- what matches of ascending rows ascends
  pub matching_ascends : (rows : List (List ℕ)) → ascending rows ≡ true → ascending (matching marks inputs rows) ≡ true
  matching_ascends [] s = refl
  matching_ascends (r ∷ rs) s = go (matches marks inputs r) (matching_ascends rs (ascending_tail r rs s))
    where
      go : (b : Bool) → ascending (matching marks inputs rs) ≡ true → ascending (cond b (r ∷ matching marks inputs rs) (matching marks inputs rs)) ≡ true
      go true ih = and_from (leads r (matching marks inputs rs)) (ascending (matching marks inputs rs)) (leads_matching r rs s) ih
      go false ih = ih

-- Whole rows.

pub each_whole : (marks : List Mark) (rows : List (List ℕ)) → all_whole marks rows ≡ true → (row : List ℕ) → is_in row rows ≡ true → whole marks row ≡ true
each_whole marks [] w row i = absurd (false≢true i)
each_whole marks (r ∷ rs) w row i =
    let p = and_parts (whole marks r) (all_whole marks rs) w in
    elim (or_cases (same row r) (is_in row rs) i) [ inl e ↦ subst (λ z. whole marks z ≡ true) (sym (same_eq row r e)) p.0 | inr m ↦ each_whole marks rs p.1 row m ]

pub whole_all : (marks : List Mark) (rows : List (List ℕ)) → ((row : List ℕ) → is_in row rows ≡ true → whole marks row ≡ true) → all_whole marks rows ≡ true
whole_all marks [] f = refl
whole_all marks (r ∷ rs) f = and_from (whole marks r) (all_whole marks rs) (f r (in_head r rs)) (whole_all marks rs (λ row i. f row (in_tail row r rs i)))
