-- What reading a number answers.
use Rattle.std.specs.Prelude.{◌≡◌, ℕ, ◌^◌, ◌<◌, ◌≤◌, List, ◌++◌, length, take, drop, Some, None, Ok, Err, Option, Result, ◌≢◌}
use Rattle.faults.specs.declared.fault.Fault.{Fault}
use Rattle.faults.specs.declared.refusal.Refusal.TheVariants.{NumberForm}
use Rattle.faults.specs.Faults.{placed}
use Rattle.numbers.specs.Forms.{Form, NoNumber, Number}

-- the bytes begin with the form of a number below 2^32 of at most `most` groups: which and how long; or with none
abbrev pub Groups : ℕ → List ℕ → Option (ℕ × ℕ) → Type 0
Groups most bytes (Some r) = (r.0 < 2 ^ 32) × (r.1 ≤ most) × (r.1 ≤ length bytes) × Form r.0 (take r.1 bytes)
Groups most bytes None = (n : ℕ) (form rest : List ℕ) → n < 2 ^ 32 → length form ≤ most → Form n form → bytes ≢ form ++ rest

-- the number that stands at the place, or that none does
abbrev pub Stands : List ℕ → ℕ → Option (ℕ × ℕ) → Type 0
Stands bytes at (Some r) = Number bytes at r.0 r.1
Stands bytes at None = NoNumber (drop at bytes)

-- what is answered: the number at the place, or a fault with the place if none stands there
abbrev pub Found : List ℕ → ℕ → Result (ℕ × ℕ) Fault → Type 0
Found bytes at (Ok r) = Number bytes at r.0 r.1
Found bytes at (Err fault) = NoNumber (drop at bytes) × (fault ≡ placed NumberForm at)
