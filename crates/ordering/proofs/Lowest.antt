-- The lowest place below a count, as a search through a range finds it.
use Rattle.std.proofs.Common.{◌≡◌, ℕ, ◌<◌, ◌≤◌, Some, None, Option, MatchOption, arith}

module _ {low high count : ℕ} {Yes No : ℕ → Type 0} where
  -- where each place is looked at from 0 on, up to the count
  pub lowest_found : (r : Option ℕ) (Q : Type 0) (R : ℕ → Type 0) → low ≡ 0 → high ≡ count →
      (((k : ℕ) → k < count → No k) → Q) → ((i : ℕ) → i < count → Yes i → ((k : ℕ) → k < i → No k) → R i) →
      MatchOption r ((k : ℕ) → low ≤ k → k < high → No k) (λ i. (low ≤ i) × (i < high) × Yes i × ((k : ℕ) → low ≤ k → k < i → No k)) → MatchOption r Q R
  lowest_found None Q R from to none one m = none (λ k h. m k (omega arith) (omega arith))
  lowest_found (Some i) Q R from to none one m = one i (omega (arith, m.1)) m.2 (λ k h. m.3 k (omega arith) h)
