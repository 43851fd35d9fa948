-- The flaw that counts in a text that may be too long.
use Rattle.std.specs.Prelude.{ℕ, Bool, cond, ◌&&◌, ◌||◌, ◌==◌, nat_le, nat_lt}
use Rattle.faults.specs.declared.refusal.Refusal.{Refusal}
use Rattle.faults.specs.Refusals.{number}
use Rattle.lexing.specs.declared.flaw.Flaw.{Flaw}

-- the flaw is not above the limit's, at 4,096
abbrev pub in_time : Flaw → Refusal → Bool
in_time f limit = nat_lt f.place 4096 || (f.place == 4096 && nat_le (number f.refusal) (number limit))

-- what was found, or the limit at 4,096 where the text is longer and that comes first
abbrev pub first_flaw : Flaw → ℕ → Refusal → Flaw
first_flaw f n limit = cond (nat_le n 4096 || in_time f limit) f (record { refusal = limit; place = 4096 })
