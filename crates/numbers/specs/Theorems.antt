-- What holds of the format, and numbers worked by hand.
use Rattle.std.specs.Prelude.{◌≡◌, ℕ, ◌^◌, ◌<◌, ◌≤◌, List, [], ◌∷◌, ◌++◌, length, take, drop}
use Rattle.numbers.specs.Forms.{Form, NoNumber, Number, encode}

-- the form of a number is what is written for it, and nothing else is
abbrev pub Encoded : Type 0
Encoded = (n : ℕ) (bytes : List ℕ) → n < 2 ^ 32 → (Form n bytes → encode n ≡ bytes) × (encode n ≡ bytes → Form n bytes)

-- each number below 2^32 has a form, of one to five bytes, and only one
abbrev pub SomeBytes : Type 0
SomeBytes = (n : ℕ) → n < 2 ^ 32 → Form n (encode n) × (1 ≤ length (encode n)) × (length (encode n) ≤ 5) × ((bytes : List ℕ) → Form n bytes → bytes ≡ encode n)

-- bytes begin with the form of one number at most, so what is written is read back whatever follows
abbrev pub OneReading : Type 0
OneReading = (n m : ℕ) (form form' rest rest' : List ℕ) → Form n form → Form m form' → form ++ rest ≡ form' ++ rest' → (n ≡ m) × (form ≡ form') × (rest ≡ rest')

-- what is read at a place is what is written for its value
abbrev pub ReadAsWritten : Type 0
ReadAsWritten = (bytes : List ℕ) (at value count : ℕ) → Number bytes at value count → take count (drop at bytes) ≡ encode value

-- 300 is AC 02; 80 00 is not the shortest form of 0; the largest value is FF FF FF FF 0F, and one group more is too large
pub record Worked : Type 0 where
  pub two_bytes : Number (0xAC ∷ 0x02 ∷ []) 0 300 2
  pub not_shortest : NoNumber (0x80 ∷ 0x00 ∷ [])
  pub largest : Number (0xFF ∷ 0xFF ∷ 0xFF ∷ 0xFF ∷ 0x0F ∷ []) 0 4294967295 5
  pub too_large : NoNumber (0xFF ∷ 0xFF ∷ 0xFF ∷ 0xFF ∷ 0x10 ∷ [])
