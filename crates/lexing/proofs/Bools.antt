-- Tokens of just one byte.
use Rattle.std.proofs.Common.{◌≡◌, ℕ, Bool, true, false, ◌||◌, ◌⊎◌, [], ◌∷◌, refl, ap, inl, inr, eqb-true}
use Rattle.std.proofs.lemmas.Bool.{both_ways}
use Rattle.lexing.specs.Tokens.{Token, is}

pub is_it : (b : ℕ) (t : Token) → is b t ≡ true → t ≡ b ∷ []
is_it b [] e = absurd (both_ways _ refl e)
is_it b (x ∷ []) e = ap (λ (y : ℕ). y ∷ []) (eqb-true x b e)
is_it b (x ∷ y ∷ t) e = absurd (both_ways _ refl e)

-- one of two bytes
pub one_of_two : (a b : ℕ) (t : Token) → (is a t || is b t) ≡ true → (is a t ≡ true) ⊎ ((is a t ≡ false) × (t ≡ b ∷ []))
one_of_two a b t e = go (is a t) refl e
  where
    go : (c : Bool) → is a t ≡ c → (c || is b t) ≡ true → (is a t ≡ true) ⊎ ((is a t ≡ false) × (t ≡ b ∷ []))
    go true i f = inl i
    go false i f = inr (i, is_it b t f)
