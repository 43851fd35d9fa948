-- An answer is the only one: two ascending lists with the same members are the same list.
use Rattle.std.proofs.Common.{◌≡◌, ℕ, ◌≤◌, Bool, true, false, ◌||◌, ◌⊎◌, List, [], ◌∷◌, length, sym, refl, ap, ◌∙◌, subst, ap₂, inl, inr, arith}
use Rattle.std.proofs.lemmas.Bool.{or_cases, true≢false, false≢true}
use Rattle.source.specs.Rows.{same, before, is_in, ascending}
use Rattle.source.specs.Laws.{OneAnswer}
use Rattle.source.proofs.Rows.{same_eq, before_irrefl, before_trans, in_head, in_tail, ascending_tail, head_before_all}

head_not_in_tail : (x : List ℕ) (xs : List (List ℕ)) → ascending (x ∷ xs) ≡ true → is_in x xs ≡ false
head_not_in_tail x xs s = go (is_in x xs) refl
  where
    go : (b : Bool) → is_in x xs ≡ b → is_in x xs ≡ false
    go true e = absurd (before_irrefl x (head_before_all x xs x s e))
    go false e = e

heads_equal : (x y : List ℕ) (xs ys : List (List ℕ)) → ascending (x ∷ xs) ≡ true → ascending (y ∷ ys) ≡ true → is_in x (y ∷ ys) ≡ true → is_in y (x ∷ xs) ≡ true → x ≡ y
heads_equal x y xs ys s t i j = go (or_cases (same x y) (is_in x ys) i) (or_cases (same y x) (is_in y xs) j)
  where
    go : (same x y ≡ true) ⊎ (is_in x ys ≡ true) → (same y x ≡ true) ⊎ (is_in y xs ≡ true) → x ≡ y
    go (inl e) k = same_eq x y e
    go (inr m) (inl e) = sym (same_eq y x e)
    go (inr m) (inr n) = absurd (before_irrefl x (before_trans x y x (head_before_all x xs y s n) (head_before_all y ys x t m)))

tails_agree : (x : List ℕ) (xs ys : List (List ℕ)) → ascending (x ∷ xs) ≡ true → ascending (x ∷ ys) ≡ true → (r : List ℕ) → is_in r (x ∷ xs) ≡ is_in r (x ∷ ys) → is_in r xs ≡ is_in r ys
tails_agree x xs ys s t r f = go (same r x) refl f
  where
    go : (b : Bool) → same r x ≡ b → (b || is_in r xs) ≡ (b || is_in r ys) → is_in r xs ≡ is_in r ys
    go true e f = let i = same_eq r x e in ap (λ z. is_in z xs) i ∙ head_not_in_tail x xs s ∙ sym (head_not_in_tail x ys t) ∙ ap (λ z. is_in z ys) (sym i)
    go false e f = f

pub same_members_same_list : (xs ys : List (List ℕ)) → ascending xs ≡ true → ascending ys ≡ true → ((r : List ℕ) → is_in r xs ≡ is_in r ys) → xs ≡ ys
same_members_same_list [] [] s t f = refl
same_members_same_list [] (y ∷ ys) s t f = absurd (false≢true (f y ∙ in_head y ys))
same_members_same_list (x ∷ xs) [] s t f = absurd (true≢false (sym (in_head x xs) ∙ f x))
same_members_same_list (x ∷ xs) (y ∷ ys) s t f =
    let e = heads_equal x y xs ys s t (sym (f x) ∙ in_head x xs) (f y ∙ in_head y ys) in
    let t' = subst (λ z. ascending (z ∷ ys) ≡ true) (sym e) t in
    let f' : (r : List ℕ) → is_in r (x ∷ xs) ≡ is_in r (x ∷ ys) = λ r. f r ∙ ap (λ z. is_in r (z ∷ ys)) (sym e) in
    ap₂ (λ a b. a ∷ b) e (same_members_same_list xs ys (ascending_tail x xs s) (ascending_tail y ys t) (λ r. tails_agree x xs ys s t' r (f' r)))

pub one_answer : OneAnswer
one_answer m inputs xs ys a b = same_members_same_list xs ys a.ascends b.ascends (λ r. a.exact r ∙ sym (b.exact r))

-- Rows among other rows.

abbrev pub Within : List (List ℕ) → List (List ℕ) → Type 0
Within xs ys = (r : List ℕ) → is_in r xs ≡ true → is_in r ys ≡ true

-- what comes before the head of other rows is none of them
not_head : (y : List ℕ) (ys : List (List ℕ)) (r : List ℕ) → is_in r (y ∷ ys) ≡ true → (r ≡ y → ⊥) → is_in r ys ≡ true
not_head y ys r i n = go (or_cases (same r y) (is_in r ys) i)
  where
    go : (same r y ≡ true) ⊎ (is_in r ys ≡ true) → is_in r ys ≡ true
    go (inl e) = absurd (n (same_eq r y e))
    go (inr m) = m

-- ascending rows that lie within ascending rows are no more than these
pub within_no_longer : (xs ys : List (List ℕ)) → ascending xs ≡ true → ascending ys ≡ true → Within xs ys → length xs ≤ length ys
within_no_longer [] ys s t w = omega arith
within_no_longer (x ∷ xs) [] s t w = absurd (false≢true (w x (in_head x xs)))
within_no_longer (x ∷ xs) (y ∷ ys) s t w = go (or_cases (same x y) (is_in x ys) (w x (in_head x xs))) (within_no_longer xs ys (ascending_tail x xs s) (ascending_tail y ys t)) (within_no_longer (x ∷ xs) ys s (ascending_tail y ys t))
  where
    go : (same x y ≡ true) ⊎ (is_in x ys ≡ true) → (Within xs ys → length xs ≤ length ys) → (Within (x ∷ xs) ys → length (x ∷ xs) ≤ length ys) → length (x ∷ xs) ≤ length (y ∷ ys)
    go (inl e) tails all = omega (arith, tails (λ r i. not_head y ys r (w r (in_tail r x xs i)) (λ q. before_irrefl x (subst (λ z. before x z ≡ true) (q ∙ sym (same_eq x y e)) (head_before_all x xs r s i)))))
    go (inr m) tails all = omega (arith, all (λ r i. not_head y ys r (w r i) (λ q. later r i (subst (λ z. before z x ≡ true) (sym q) (head_before_all y ys x t m)))))
      where
        later : (r : List ℕ) → is_in r (x ∷ xs) ≡ true → before r x ≡ true → ⊥
        later r i b = elim (or_cases (same r x) (is_in r xs) i) [
          | inl e ↦ before_irrefl x (subst (λ z. before z x ≡ true) (same_eq r x e) b)
          | inr n ↦ before_irrefl x (before_trans x r x (head_before_all x xs r s n) b)
        ]
