-- The class of a byte, by ranges.
use Rattle.std.specs.Prelude.{ℕ, Bool, true, false, cond, ◌||◌, ◌==◌, nat_le}
use Rattle.lexing.specs.declared.class.Class.{Class}
use Rattle.lexing.specs.declared.class.Class.TheVariants.{Lower, Upper, Digit, Blank, Punctuation, Other}

-- low ≤ b ≤ high
abbrev pub within : ℕ → ℕ → ℕ → Bool
within low b high = cond (nat_le low b) (nat_le b high) false

-- one of ( ) , - . :
abbrev pub punctuates : ℕ → Bool
punctuates b = within 40 b 41 || (within 44 b 46 || b == 58)

-- a lower-case letter, an upper-case letter, a digit, a space or a newline, a punctuation byte, or any other byte
unfoldable pub class : ℕ → Class
class b =
    cond (within 97 b 122) Lower (cond (within 65 b 90) Upper (cond (within 48 b 57) Digit
    (cond (b == 32 || b == 10) Blank (cond (punctuates b) Punctuation Other))))

abbrev pub is_lower : Class → Bool
is_lower Lower = true
is_lower Upper = false
is_lower Digit = false
is_lower Blank = false
is_lower Punctuation = false
is_lower Other = false

abbrev pub is_upper : Class → Bool
is_upper Lower = false
is_upper Upper = true
is_upper Digit = false
is_upper Blank = false
is_upper Punctuation = false
is_upper Other = false

abbrev pub is_digit : Class → Bool
is_digit Lower = false
is_digit Upper = false
is_digit Digit = true
is_digit Blank = false
is_digit Punctuation = false
is_digit Other = false

abbrev pub is_blank : Class → Bool
is_blank Lower = false
is_blank Upper = false
is_blank Digit = false
is_blank Blank = true
is_blank Punctuation = false
is_blank Other = false

abbrev pub lower : ℕ → Bool
lower b = is_lower (class b)

abbrev pub upper : ℕ → Bool
upper b = is_upper (class b)

abbrev pub digit : ℕ → Bool
digit b = is_digit (class b)

abbrev pub blank : ℕ → Bool
blank b = is_blank (class b)

-- a letter or a digit
abbrev pub lettered : ℕ → Bool
lettered b = lower b || (upper b || digit b)

-- what a name has behind its first letter
abbrev pub name_byte : ℕ → Bool
name_byte b = lower b || digit b
