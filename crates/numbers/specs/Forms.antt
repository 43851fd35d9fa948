-- Numbers in groups of seven bits. A byte holds one group, and 128 more if another group follows.
use Rattle.std.specs.Prelude.{ℕ, zero, suc, ◌+◌, ◌/◌, ◌%◌, ◌^◌, ◌<◌, ◌≤◌, cond, List, [], ◌∷◌, ◌++◌, length, take, drop, ◌≢◌, nat_lt}

-- the bytes are the form of the number: its groups, the lowest first, with none too many
pub data Form : ℕ → List ℕ → Type 0 where
  last : {n : ℕ} → n < 128 → Form n (n ∷ [])
  more : {n : ℕ} {rest : List ℕ} → 128 ≤ n → Form (n / 128) rest → Form n ((128 + n % 128) ∷ rest)

-- no number below 2^32 has a form that these bytes begin with
abbrev pub NoNumber : List ℕ → Type 0
NoNumber bytes = (n : ℕ) (form rest : List ℕ) → n < 2 ^ 32 → Form n form → bytes ≢ form ++ rest

-- at the place `at` stands this number below 2^32, `count` bytes long
pub record Number (bytes : List ℕ) (at value count : ℕ) : Type 0 where
  pub small : value < 2 ^ 32
  pub inside : at + count ≤ length bytes
  pub form : Form value (take count (drop at bytes))

-- the form of a number, worked out, if it has at most m + 1 groups
unfoldable pub encode_in : ℕ → ℕ → List ℕ
encode_in zero n = n ∷ []
encode_in (suc m) n = cond (nat_lt n 128) (n ∷ []) ((128 + n % 128) ∷ encode_in m (n / 128))

-- the form of a number below 2^32
abbrev pub encode : ℕ → List ℕ
encode n = encode_in 4 n

-- the forms of numbers, one after another
unfoldable pub encodes : List ℕ → List ℕ
encodes [] = []
encodes (n ∷ ns) = encode n ++ encodes ns
