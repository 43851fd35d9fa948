-- The rule of the table of classes, proved at all of its entries by one test that is computed, one entry after the other.
use Rattle.std.proofs.Common.{◌≡◌, ℕ, zero, suc, ◌+◌, ◌<◌, Bool, true, false, cond, T, eqb, List, [], ◌∷◌, length, get_or, sym, refl, ap, ◌∙◌, subst, le_of_suc-le-suc, not-suc-le-zero, add-zero, add-suc, suc-add, zero-add, eqb→eq}
use Rattle.lexing.specs.declared.class.Class.{Class}
use Rattle.lexing.specs.declared.class.Class.TheVariants.{Lower, Upper, Digit, Blank, Punctuation, Other}

abbrev and : Bool → Bool → Bool
and true b = b
and false b = false

and_left : (a b : Bool) → T (and a b) → T a
and_left true b t = tt
and_left false b t = t

and_right : (a b : Bool) → T (and a b) → T b
and_right true b t = t
and_right false b t = absurd t

abbrev code : Class → ℕ
code Lower = 0
code Upper = 1
code Digit = 2
code Blank = 3
code Punctuation = 4
code Other = 5

abbrev decoded : ℕ → Class
decoded n = cond (eqb n 0) Lower (cond (eqb n 1) Upper (cond (eqb n 2) Digit (cond (eqb n 3) Blank (cond (eqb n 4) Punctuation Other))))

back : (c : Class) → decoded (code c) ≡ c
back Lower = refl
back Upper = refl
back Digit = refl
back Blank = refl
back Punctuation = refl
back Other = refl

same : (a b : Class) → T (eqb (code a) (code b)) → a ≡ b
same a b t = sym (back a) ∙ ap decoded (eqb→eq (code a) (code b) t) ∙ back b

-- the entries, counted from i, are of the classes that the rule has
abbrev pub every : (ℕ → Class) → ℕ → List Class → Bool
every f i [] = true
every f i (x ∷ xs) = and (eqb (code x) (code (f i))) (every f (suc i) xs)

from : (f : ℕ → Class) (xs : List Class) (i : ℕ) (d : Class) → T (every f i xs) → (k : ℕ) → k < length xs → get_or xs k d ≡ f (i + k)
from f [] i d t k h = absurd (not-suc-le-zero h)
from f (x ∷ xs) i d t zero h = subst (λ (m : ℕ). x ≡ f m) (sym (add-zero i)) (same x (f i) (and_left (eqb (code x) (code (f i))) (every f (suc i) xs) t))
from f (x ∷ xs) i d t (suc k) h =
    subst (λ (m : ℕ). get_or xs k d ≡ f m) (suc-add i k ∙ sym (add-suc i k))
    (from f xs (suc i) d (and_right (eqb (code x) (code (f i))) (every f (suc i) xs) t) k (le_of_suc-le-suc h))

pub at : (f : ℕ → Class) (xs : List Class) (d : Class) → T (every f 0 xs) → (k : ℕ) → k < length xs → get_or xs k d ≡ f k
at f xs d t k h = subst (λ (m : ℕ). get_or xs k d ≡ f m) (zero-add k) (from f xs 0 d t k h)

abbrev pub classes : List Class
classes = Other ∷ Other ∷ Other ∷ Other ∷ Other ∷ Other ∷ Other ∷ Other ∷ Other ∷ Other ∷ Blank ∷ Other ∷ Other ∷ Other ∷ Other ∷ Other ∷ Other ∷ Other ∷ Other ∷ Other ∷ Other ∷ Other ∷ Other ∷ Other ∷ Other ∷ Other ∷ Other ∷ Other ∷ Other ∷ Other ∷ Other ∷ Other ∷ Blank ∷ Other ∷ Other ∷ Other ∷ Other ∷ Other ∷ Other ∷ Other ∷ Punctuation ∷ Punctuation ∷ Other ∷ Other ∷ Punctuation ∷ Punctuation ∷ Punctuation ∷ Other ∷ Digit ∷ Digit ∷ Digit ∷ Digit ∷ Digit ∷ Digit ∷ Digit ∷ Digit ∷ Digit ∷ Digit ∷ Punctuation ∷ Other ∷ Other ∷ Other ∷ Other ∷ Other ∷ Other ∷ Upper ∷ Upper ∷ Upper ∷ Upper ∷ Upper ∷ Upper ∷ Upper ∷ Upper ∷ Upper ∷ Upper ∷ Upper ∷ Upper ∷ Upper ∷ Upper ∷ Upper ∷ Upper ∷ Upper ∷ Upper ∷ Upper ∷ Upper ∷ Upper ∷ Upper ∷ Upper ∷ Upper ∷ Upper ∷ Upper ∷ Other ∷ Other ∷ Other ∷ Other ∷ Other ∷ Other ∷ Lower ∷ Lower ∷ Lower ∷ Lower ∷ Lower ∷ Lower ∷ Lower ∷ Lower ∷ Lower ∷ Lower ∷ Lower ∷ Lower ∷ Lower ∷ Lower ∷ Lower ∷ Lower ∷ Lower ∷ Lower ∷ Lower ∷ Lower ∷ Lower ∷ Lower ∷ Lower ∷ Lower ∷ Lower ∷ Lower ∷ Other ∷ Other ∷ Other ∷ Other ∷ Other ∷ Other ∷ Other ∷ Other ∷ Other ∷ Other ∷ Other ∷ Other ∷ Other ∷ Other ∷ Other ∷ Other ∷ Other ∷ Other ∷ Other ∷ Other ∷ Other ∷ Other ∷ Other ∷ Other ∷ Other ∷ Other ∷ Other ∷ Other ∷ Other ∷ Other ∷ Other ∷ Other ∷ Other ∷ Other ∷ Other ∷ Other ∷ Other ∷ Other ∷ Other ∷ Other ∷ Other ∷ Other ∷ Other ∷ Other ∷ Other ∷ Other ∷ Other ∷ Other ∷ Other ∷ Other ∷ Other ∷ Other ∷ Other ∷ Other ∷ Other ∷ Other ∷ Other ∷ Other ∷ Other ∷ Other ∷ Other ∷ Other ∷ Other ∷ Other ∷ Other ∷ Other ∷ Other ∷ Other ∷ Other ∷ Other ∷ Other ∷ Other ∷ Other ∷ Other ∷ Other ∷ Other ∷ Other ∷ Other ∷ Other ∷ Other ∷ Other ∷ Other ∷ Other ∷ Other ∷ Other ∷ Other ∷ Other ∷ Other ∷ Other ∷ Other ∷ Other ∷ Other ∷ Other ∷ Other ∷ Other ∷ Other ∷ Other ∷ Other ∷ Other ∷ Other ∷ Other ∷ Other ∷ Other ∷ Other ∷ Other ∷ Other ∷ Other ∷ Other ∷ Other ∷ Other ∷ Other ∷ Other ∷ Other ∷ Other ∷ Other ∷ Other ∷ Other ∷ Other ∷ Other ∷ Other ∷ Other ∷ Other ∷ Other ∷ Other ∷ Other ∷ Other ∷ Other ∷ Other ∷ Other ∷ Other ∷ Other ∷ Other ∷ Other ∷ []
