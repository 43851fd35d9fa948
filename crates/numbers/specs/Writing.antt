-- Writing a number into memory.
use Rattle.std.specs.Prelude.{◌≡◌, ℕ, ◌+◌, ◌<◌, ◌≤◌, List, ◌++◌, length, take, drop, Ok, Err, Result}
use Rattle.faults.specs.declared.fault.Fault.{Fault}
use Rattle.faults.specs.declared.refusal.Refusal.TheVariants.{MemoryTooShort}
use Rattle.faults.specs.Faults.{bare}
use Rattle.numbers.specs.Forms.{encode}

-- from `at` on the memory holds these bytes, and elsewhere it is as before
pub record Filled (before after : List ℕ) (at : ℕ) (bytes : List ℕ) : Type 0 where
  pub is : after ≡ take at before ++ (bytes ++ drop (at + length bytes) before)

-- a number was written from `at` on, in so many bytes; or it did not fit, and nothing changed
abbrev pub Written : List ℕ → List ℕ → ℕ → ℕ → Result ℕ Fault → Type 0
Written before after at value (Ok count) = (count ≡ length (encode value)) × (at + count ≤ length before) × Filled before after at (encode value)
Written before after at value (Err fault) = (length before < at + length (encode value)) × (fault ≡ bare MemoryTooShort) × (after ≡ before)
