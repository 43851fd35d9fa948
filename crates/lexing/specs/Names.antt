-- Names, and lists of names without repeats.
use Rattle.std.specs.Prelude.{◌≡◌, ℕ, suc, Bool, true, false, cond, ◌&&◌, ◌||◌, List, [], ◌∷◌, ◌++◌, Some, None, Option}
use Rattle.std.specs.List.{list_all}
use Rattle.std.specs.Option.{option_map}
use Rattle.std.specs.Str.{bytes_eq}
use Rattle.lexing.specs.Classes.{lower, upper, name_byte, lettered, digit, blank}
use Rattle.lexing.specs.declared.name.Alphabet.{Alphabet}
use Rattle.lexing.specs.declared.name.Alphabet.TheVariants.{Names, Words, Digits, Lower, Upper, Blanks}
use Rattle.lexing.specs.Tokens.{Token}

-- all bytes pass a test
abbrev pub all : (ℕ → Bool) → List ℕ → Bool
all f xs = list_all f xs

-- the bytes of an alphabet
abbrev pub belongs : Alphabet → ℕ → Bool
belongs Names b = name_byte b
belongs Words b = lettered b
belongs Digits b = digit b
belongs Lower b = lower b
belongs Upper b = upper b
belongs Blanks b = blank b

-- a byte of one alphabet with bytes of another behind it
abbrev pub is_identifier : Alphabet → Alphabet → Token → Bool
is_identifier first others [] = false
is_identifier first others (x ∷ xs) = belongs first x && all (belongs others) xs

-- a lower-case letter with lower-case letters or digits behind it
unfoldable pub is_name : Token → Bool
is_name [] = false
is_name (x ∷ xs) = lower x && all name_byte xs

-- the token is one of these
abbrev pub among : Token → List Token → Bool
among t [] = false
among t (x ∷ xs) = bytes_eq t x || among t xs

-- the first place at which the token stands
abbrev pub place_of : Token → List Token → Option ℕ
place_of t [] = None
place_of t (x ∷ xs) = cond (bytes_eq t x) (Some 0) (option_map suc (place_of t xs))

-- the number of a token: its first place, or how many there are where it stands nowhere
abbrev pub number_of : Token → List Token → ℕ
number_of t [] = 0
number_of t (x ∷ xs) = cond (bytes_eq t x) 0 (suc (number_of t xs))

-- with a name added at the end, unless it is there
abbrev pub with_name : List Token → Token → List Token
with_name seen k = cond (among k seen) seen (seen ++ k ∷ [])

-- names in the order in which they first appear, behind those that appeared
abbrev pub first_seen : List Token → List Token → List Token
first_seen seen [] = seen
first_seen seen (k ∷ ks) = first_seen (with_name seen k) ks

-- the numbers of some tokens in a list of names
abbrev pub numbers : List Token → List Token → List ℕ
numbers names [] = []
numbers names (t ∷ ts) = number_of t names ∷ numbers names ts

-- all of these are among those
abbrev pub AllAmong : List Token → List Token → Type 0
AllAmong [] names = Unit {0}
AllAmong (t ∷ ts) names = (among t names ≡ true) × AllAmong ts names
