-- The word at a fault.
use Rattle.std.specs.Prelude.{◌≡◌, ℕ, ◌<◌, ◌≤◌, true, false, cond, List, [], length, take, drop, slice_index}
use Rattle.lexing.specs.Classes.{within, blank}

-- the text that a refusal's number speaks of
abbrev pub text_of : ℕ → List ℕ → List ℕ → List ℕ
text_of n catalogue query = cond (within 1 n 3) catalogue (cond (within 11 n 16) query [])

-- the text begins with a word of n bytes: n is 16, or a blank or the end comes there, and no blank comes before
pub record Word (text : List ℕ) (n : ℕ) : Type 0 where
  pub most : n ≤ 16
  pub inside : n ≤ length text
  pub solid : (k : ℕ) → k < n → blank (slice_index text k) ≡ false
  pub ends : n < 16 → n < length text → blank (slice_index text n) ≡ true

-- the bytes are the word at the place
abbrev pub WordAt : List ℕ → ℕ → List ℕ → Type 0
WordAt text place bytes = (n : ℕ) × Word (drop place text) n × (bytes ≡ take n (drop place text))
