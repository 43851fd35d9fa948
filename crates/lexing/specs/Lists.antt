-- Bounded lists of names.
use Rattle.std.specs.Prelude.{◌≡◌, ℕ, ◌<◌, ◌≤◌, Bool, true, false, not, ◌&&◌, ◌||◌, ◌⊎◌, List, map, length, Some, None, Option, nat_le, nat_lt}
use Rattle.bounded.specs.declared.list.Bounded.{Bounded}
use Rattle.bounded.specs.Held.{held}
use Rattle.lexing.specs.Tokens.{Token}
use Rattle.lexing.specs.Names.{among, number_of, with_name}

-- the names in a bounded list of names
abbrev pub names : {n : ℕ} → Bounded (Bounded ℕ 16) n → List Token
names l = map held (held l)

-- no place for one more name: it is too long, or it is new and there are sixteen
abbrev pub crowded : Token → List Token → Bool
crowded t names = nat_lt 16 (length t) || (not (among t names) && nat_le 16 (length names))

-- a name is looked up in a list of names, and added if it is new
abbrev pub Numbered : List Token → List Token → Token → ℕ → Option ℕ → Type 0
Numbered old new t limit None = (new ≡ old) × ((16 < length t) ⊎ ((among t old ≡ false) × ((limit ≤ length old) ⊎ (16 ≤ length old))))
Numbered old new t limit (Some i) = (new ≡ with_name old t) × (i ≡ number_of t old) × (i < 16) × (length t ≤ 16) × ((among t old ≡ true) ⊎ (length old < limit))
