-- What a divider means.
use Rattle.std.specs.Prelude.{ℕ, ◌/◌, ◌%◌, ◌^◌, Bool, true, false, ◌&&◌, List, [], ◌∷◌, nat_lt}
use Rattle.source.specs.declared.mark.Mark.TheVariants.{Given, Free}
use Rattle.source.specs.Rows.{same}
use Rattle.source.specs.Meaning.{Meaning, clear}

-- the row is a dividend, its quotient with the fraction dropped, and the remainder
abbrev pub divides : ℕ → List ℕ → Bool
divides d [] = false
divides d (x ∷ rest) = nat_lt x (2 ^ 32) && same rest (x / d ∷ x % d ∷ [])

-- the dividend is given, quotient and remainder are free; steady, and nothing is barred
abbrev pub division : ℕ → Meaning
division d = record { marks = Given ∷ Free ∷ Free ∷ []; relation = divides d; bars = λ _. clear; steady = true }
