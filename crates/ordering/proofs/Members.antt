-- Membership in lists, and membership by position.
use Rattle.std.proofs.Common.{◌≡◌, ℕ, zero, suc, ◌+◌, ◌<◌, ◌⊎◌, List, [], ◌∷◌, ◌++◌, length, get_or, take, sym, refl, inl, inr, le_of_suc-le-suc, not-suc-le-zero, arith}
use mathlib.Core.List.Memᴰ
use mathlib.Core.List.{Memᴰ}
use native.Mathlib.Decide.{ℕ_discrete}
use native.Mathlib.Nat.{suc-le-suc_iff}
use Rattle.std.proofs.lemmas.List.{take_more}
use Rattle.std.specs.List.{ContainsAt as Has}

pub member? : (x : ℕ) (xs : List ℕ) → Dec (Memᴰ x xs)
member? x [] = no Memᴰ.not-nil
member? x (y ∷ ys) = go (ℕ_discrete x y) (member? x ys)
  where
    go : Dec (x ≡ y) → Dec (Memᴰ x ys) → Dec (Memᴰ x (y ∷ ys))
    go (yes e) d = yes (Memᴰ.head e)
    go (no n) (yes m) = yes (Memᴰ.tail m)
    go (no n) (no k) = no (λ m. elim (Memᴰ.cases_cons m) [ inl e ↦ n e | inr t ↦ k t ])

module _ {X : Type 0} where
  pub member_at : (xs : List X) (k : ℕ) (d : X) → k < length xs → Memᴰ (get_or xs k d) xs
  member_at [] k d h = absurd (not-suc-le-zero h)
  member_at (x ∷ xs) zero d h = Memᴰ.head refl
  member_at (x ∷ xs) (suc k) d h = Memᴰ.tail (member_at xs k d (le_of_suc-le-suc h))

  pub has_from_member : {x : X} {xs : List X} → Memᴰ x xs → Has xs x
  has_from_member (Memᴰ.head e) = (0, omega arith, λ d. sym e)
  has_from_member (Memᴰ.tail m) = let h = has_from_member m in (suc h.0, suc-le-suc_iff.1 h.1, h.2)

  pub member_from_has : {x : X} (xs : List X) → Has xs x → Memᴰ x xs
  member_from_has {x} xs h = Memᴰ.cast (sym (h.2 x)) (member_at xs h.0 x h.1)

  pub member_push : {x : X} (xs : List X) (y : X) → Memᴰ x (xs ++ y ∷ []) → Memᴰ x xs ⊎ (x ≡ y)
  member_push xs y m = elim (Memᴰ.append_cases xs m) [ inl a ↦ inl a | inr b ↦ inr (Memᴰ.eq_of_singleton b) ]

  -- one element more of a front
  pub member_take_more : {x : X} (xs : List X) (i : ℕ) (d : X) → i < length xs → Memᴰ x (take (i + 1) xs) → Memᴰ x (take i xs) ⊎ (x ≡ get_or xs i d)
  member_take_more xs i d h m = member_push (take i xs) (get_or xs i d) (rw (take_more xs i d h) at m)
