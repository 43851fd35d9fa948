-- Lists without repetition: how long they can be, and what stands in front of a position.
use Rattle.std.proofs.Common.{◌≡◌, ℕ, zero, suc, ◌<◌, ◌≤◌, ◌⊎◌, List, [], ◌∷◌, ◌++◌, length, get_or, take, sym, refl, ap, ◌∙◌, inl, inr, le_of_suc-le-suc, not-suc-le-zero, arith}
use mathlib.Core.List.Memᴰ
use mathlib.Core.List.{Memᴰ}
use native.Mathlib.Decide.{ℕ_discrete}
use Rattle.ordering.specs.Orders.{Distinct, none, another, Selection, Rearrangement}
use Rattle.ordering.proofs.Members.{member_at, member_push}

pub distinct_push : {x : ℕ} {xs : List ℕ} → Distinct xs → (Memᴰ x xs → ⊥) → Distinct (xs ++ x ∷ [])
distinct_push none n = another Memᴰ.not-nil none
distinct_push {x} (another {place} {places} k d) n =
    another (λ m. elim (member_push places x m) [ inl l ↦ k l | inr e ↦ n (Memᴰ.head (sym e)) ]) (distinct_push d (λ m. n (Memᴰ.tail m)))

pub distinct_front : {xs : List ℕ} → Distinct xs → (i : ℕ) → i < length xs → Memᴰ (get_or xs i 0) (take i xs) → ⊥
distinct_front none i h m = not-suc-le-zero h
distinct_front (another k d) zero h m = Memᴰ.not-nil m
distinct_front (another {place} {places} k d) (suc i) h m = go (Memᴰ.cases_cons m) (distinct_front d i (le_of_suc-le-suc h))
  where
    go : (get_or places i 0 ≡ place) ⊎ Memᴰ (get_or places i 0) (take i places) → (Memᴰ (get_or places i 0) (take i places) → ⊥) → ⊥
    go (inl e) f = k (Memᴰ.cast (sym e) (member_at places i 0 (le_of_suc-le-suc h)))
    go (inr t) f = f t

abbrev without : {x : ℕ} {ys : List ℕ} → Memᴰ x ys → List ℕ
without (Memᴰ.head {xs} e) = xs
without (Memᴰ.tail {x} m) = x ∷ without m

length_without : {x : ℕ} {ys : List ℕ} (m : Memᴰ x ys) → length ys ≡ suc (length (without m))
length_without (Memᴰ.head e) = refl
length_without (Memᴰ.tail m) = ap suc (length_without m)

without_others : {x y : ℕ} {ys : List ℕ} (m : Memᴰ x ys) → Memᴰ y ys → (y ≡ x → ⊥) → Memᴰ y (without m)
without_others (Memᴰ.head e) n k = elim (Memᴰ.cases_cons n) [ inl f ↦ absurd (k (f ∙ sym e)) | inr t ↦ t ]
without_others {y} (Memᴰ.tail {x = z} {xs} m) n k = go (Memᴰ.cases_cons n) (λ t. without_others m t k)
  where
    go : (y ≡ z) ⊎ Memᴰ y xs → (Memᴰ y xs → Memᴰ y (without m)) → Memᴰ y (z ∷ without m)
    go (inl f) g = Memᴰ.head f
    go (inr t) g = Memᴰ.tail (g t)

-- different elements, all of another list, are no more than that has
pub distinct_fits : {xs : List ℕ} → Distinct xs → (ys : List ℕ) → ((x : ℕ) → Memᴰ x xs → Memᴰ x ys) → length xs ≤ length ys
distinct_fits none ys f = omega arith
distinct_fits (another {place} {places} n d) ys f =
    let m = f place (Memᴰ.head refl) in
    let rest : length places ≤ length (without m) = distinct_fits d (without m) (λ x k. without_others m (f x (Memᴰ.tail k)) (λ e. n (Memᴰ.cast (sym e) k))) in
    omega (arith, length_without m)

abbrev all_below : ℕ → List ℕ
all_below zero = []
all_below (suc n) = n ∷ all_below n

length_all_below : (n : ℕ) → length (all_below n) ≡ n
length_all_below zero = refl
length_all_below (suc n) = ap suc (length_all_below n)

all_below_has : (n x : ℕ) → x < n → Memᴰ x (all_below n)
all_below_has zero x h = absurd (not-suc-le-zero h)
all_below_has (suc n) x h = go (ℕ_discrete x n) (all_below_has n x)
  where
    go : Dec (x ≡ n) → (x < n → Memᴰ x (all_below n)) → Memᴰ x (n ∷ all_below n)
    go (yes e) f = Memᴰ.head e
    go (no k) f = Memᴰ.tail (f (omega arith))

pub selection_fits : {count : ℕ} {order : List ℕ} → Selection count order → length order ≤ count
selection_fits {count} {order} s =
    let fits = distinct_fits s.distinct (all_below count) (λ x m. all_below_has count x (s.within x m)) in
    omega (arith, length_all_below count)

pub rearrangements_level : {count : ℕ} {order other : List ℕ} → Rearrangement count order → Rearrangement count other → length order ≡ length other
rearrangements_level {order} {other} a b =
    let less = distinct_fits a.selection.distinct other (λ x m. b.all x (a.selection.within x m)) in
    let more = distinct_fits b.selection.distinct order (λ x m. a.all x (b.selection.within x m)) in
    omega arith
