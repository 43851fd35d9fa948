-- Laws of the tests on rows.
use Rattle.std.proofs.lemmas.Bool.Decides.{nat_tests, Decides-eqb}
use Rattle.std.proofs.lemmas.Slice.Eq.{compares_Decides, slice_eq-Decides}
use Rattle.std.specs.Cmp.Lexicographic.{pointwise}
use Rattle.std.proofs.Common.{rules, ◌==◌, Decides, ◌≡◌, ℕ, ◌<◌, true, ◌&&◌, ◌||◌, eqb, ltb, ◌⊎◌, List, [], ◌∷◌, sym, refl, ap, subst, inl, inr, arith}
use Rattle.std.proofs.lemmas.Bool.{and_parts, eqb-true, or_cases, or_right, ltb-true, false≢true}
use Rattle.source.proofs.Tests.{deciders_agree}
use Rattle.source.specs.Rows.{same, before, is_in, ascending, leads}

pub same_decides : (xs ys : List ℕ) → Decides (same xs ys) (xs ≡ ys)
same_decides xs ys = compares_Decides same (search rules) xs ys

-- the derived test of two lists of values
pub values_pointwise : (xs ys : List ℕ) → pointwise ◌==◌ xs ys ≡ same xs ys
values_pointwise xs ys = deciders_agree _ _ (slice_eq-Decides Decides-eqb _ _ _ refl) (same_decides xs ys)

pub same_eq : (xs ys : List ℕ) → same xs ys ≡ true → xs ≡ ys
same_eq xs ys = (same_decides xs ys).0

pub eq_same : (xs ys : List ℕ) → xs ≡ ys → same xs ys ≡ true
eq_same xs ys = (same_decides xs ys).1

pub same_refl : (xs : List ℕ) → same xs xs ≡ true
same_refl xs = eq_same xs xs refl

pub before_irrefl : (xs : List ℕ) → before xs xs ≡ true → ⊥
before_irrefl [] h = false≢true h
before_irrefl (x ∷ xs) h = grind (arith, nat_tests, before_irrefl xs)

-- where one row comes before another, it is smaller at the head, or equal there and before in the tail
pub before_cases : (x y : ℕ) (xs ys : List ℕ) → before (x ∷ xs) (y ∷ ys) ≡ true → (x < y) ⊎ ((x ≡ y) × (before xs ys ≡ true))
before_cases x y xs ys h = elim (or_cases (ltb x y) (eqb x y && before xs ys) h) [
  | inl l ↦ inl (ltb-true x y l)
  | inr b ↦ (let p = and_parts (eqb x y) (before xs ys) b in inr (eqb-true x y p.0, p.1))
]

pub before_at_head : (x y : ℕ) (xs ys : List ℕ) → x < y → before (x ∷ xs) (y ∷ ys) ≡ true
before_at_head x y xs ys h = grind (arith, nat_tests)

pub before_in_tail : (x y : ℕ) (xs ys : List ℕ) → x ≡ y → before xs ys ≡ true → before (x ∷ xs) (y ∷ ys) ≡ true
before_in_tail x y xs ys e h = grind (arith, nat_tests)

pub before_trans : (a b c : List ℕ) → before a b ≡ true → before b c ≡ true → before a c ≡ true
before_trans [] [] c h k = absurd (false≢true h)
before_trans [] (y ∷ ys) [] h k = absurd (false≢true k)
before_trans [] (y ∷ ys) (z ∷ zs) h k = refl
before_trans (x ∷ xs) [] c h k = absurd (false≢true h)
before_trans (x ∷ xs) (y ∷ ys) [] h k = absurd (false≢true k)
before_trans (x ∷ xs) (y ∷ ys) (z ∷ zs) h k = grind (arith, nat_tests, before_trans xs ys zs)

pub in_head : (r : List ℕ) (rs : List (List ℕ)) → is_in r (r ∷ rs) ≡ true
in_head r rs = ap (λ b. b || is_in r rs) (same_refl r)

pub in_tail : (r q : List ℕ) (rs : List (List ℕ)) → is_in r rs ≡ true → is_in r (q ∷ rs) ≡ true
in_tail r q rs h = or_right (same r q) (is_in r rs) h

pub ascending_tail : (x : List ℕ) (xs : List (List ℕ)) → ascending (x ∷ xs) ≡ true → ascending xs ≡ true
ascending_tail x xs s = (and_parts (leads x xs) (ascending xs) s).1

-- the head of ascending rows comes before each other one
pub head_before_all : (x : List ℕ) (xs : List (List ℕ)) (r : List ℕ) → ascending (x ∷ xs) ≡ true → is_in r xs ≡ true → before x r ≡ true
head_before_all x [] r s i = absurd (false≢true i)
head_before_all x (q ∷ qs) r s i = go (or_cases (same r q) (is_in r qs) i) (head_before_all q qs r)
  where
    p : (before x q ≡ true) × (ascending (q ∷ qs) ≡ true)
    p = and_parts (before x q) (ascending (q ∷ qs)) s

    go : (same r q ≡ true) ⊎ (is_in r qs ≡ true) → (ascending (q ∷ qs) ≡ true → is_in r qs ≡ true → before q r ≡ true) → before x r ≡ true
    go (inl e) f = subst (λ z. before x z ≡ true) (sym (same_eq r q e)) p.0
    go (inr m) f = before_trans x q r p.0 (f p.1 m)
