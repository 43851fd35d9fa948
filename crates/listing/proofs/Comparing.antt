-- Rows as the library compares them.
use Rattle.std.proofs.Common.{◌≡◌, ℕ, Ordering, Less, Equal, Greater, true, List, sym, refl, ap, ◌∙◌, arith}
use Rattle.std.specs.Ordering.{is_lt, is_eq, is_gt, nat_cmp}
use Rattle.std.specs.Cmp.Lexicographic.{slice_cmp}
use Rattle.std.proofs.lemmas.Bool.Decides.{nat_tests}
use Rattle.std.proofs.lemmas.Cmp.{same_from_slice_cmp}
use Rattle.source.specs.Rows.{same, before}

pub is_before : (xs ys : List ℕ) → is_lt (slice_cmp nat_cmp xs ys) ≡ before xs ys
is_before xs ys = same_from_slice_cmp nat_cmp is_lt before refl (λ _ _. refl) (λ _ _. refl) (λ x y xs ys o h. grind (arith, nat_tests)) xs ys _ refl

pub is_behind : (xs ys : List ℕ) → is_gt (slice_cmp nat_cmp xs ys) ≡ before ys xs
is_behind xs ys = same_from_slice_cmp nat_cmp is_gt (λ xs ys. before ys xs) refl (λ _ _. refl) (λ _ _. refl) (λ x y xs ys o h. grind (arith, nat_tests)) xs ys _ refl

pub is_same : (xs ys : List ℕ) → is_eq (slice_cmp nat_cmp xs ys) ≡ same xs ys
is_same xs ys = same_from_slice_cmp nat_cmp is_eq same refl (λ _ _. refl) (λ _ _. refl) (λ x y xs ys o h. grind (arith, nat_tests)) xs ys _ refl

-- of two rows, one is the other or comes before it
pub one_before : (xs ys : List ℕ) → (same xs ys ≡ true → ⊥) → (before ys xs ≡ true → ⊥) → before xs ys ≡ true
one_before xs ys apart not_behind = go (slice_cmp nat_cmp xs ys) refl
  where
    go : (o : Ordering) → slice_cmp nat_cmp xs ys ≡ o → before xs ys ≡ true
    go Less e = sym (is_before xs ys) ∙ ap is_lt e
    go Equal e = absurd (apart (sym (is_same xs ys) ∙ ap is_eq e))
    go Greater e = absurd (not_behind (sym (is_behind xs ys) ∙ ap is_gt e))
