-- The terms of a query, as tokens.
use Rattle.std.specs.Prelude.{ℕ, ◌+◌, ◌-◌, ◌*◌, Bool, true, false, not, ◌&&◌, ◌||◌, List, [], ◌∷◌, ◌==◌}
use Rattle.lexing.specs.Classes.{upper, lettered, digit}
use Rattle.lexing.specs.Tokens.{Token}
use Rattle.lexing.specs.Names.{all}

-- an upper-case letter with letters or digits behind it
unfoldable pub is_variable : Token → Bool
is_variable [] = false
is_variable (x ∷ xs) = upper x && all lettered xs

abbrev pub empty : List ℕ → Bool
empty [] = true
empty (x ∷ xs) = false

-- digits, the first of which is no 0 unless it is the only one
unfoldable pub is_constant : Token → Bool
is_constant [] = false
is_constant (x ∷ xs) = (digit x && all digit xs) && (not (x == 48) || empty xs)

abbrev pub is_term : Token → Bool
is_term t = is_variable t || is_constant t

-- the number that decimal digits spell, behind what was spelled before
abbrev pub spelled : ℕ → List ℕ → ℕ
spelled n [] = n
spelled n (x ∷ xs) = spelled (10 * n + (x - 48)) xs

abbrev pub value : Token → ℕ
value t = spelled 0 t
