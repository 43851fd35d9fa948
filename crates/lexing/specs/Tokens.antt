-- How a text is cut into tokens. A token is a list of bytes: a run of letters and digits, `:-`, or one byte.
use Rattle.std.specs.Prelude.{◌≡◌, ℕ, ◌+◌, ◌-◌, ◌<◌, ◌≤◌, Bool, false, cond, ◌&&◌, ◌||◌, List, [], ◌∷◌, length, take, drop, ◌==◌}
use Rattle.lexing.specs.Classes.{lettered, blank}

abbrev pub Token : Type 0
Token = List ℕ

-- tokens of one byte
abbrev pub space : Token
space = 32 ∷ []

abbrev pub newline : Token
newline = 10 ∷ []

abbrev pub colon : Token
colon = 58 ∷ []

abbrev pub comma : Token
comma = 44 ∷ []

abbrev pub dot : Token
dot = 46 ∷ []

abbrev pub opening : Token
opening = 40 ∷ []

abbrev pub closing : Token
closing = 41 ∷ []

-- the token is this one byte
abbrev pub is : ℕ → Token → Bool
is b [] = false
is b (x ∷ []) = x == b
is b (x ∷ y ∷ t) = false

abbrev pub begins_lettered : Token → Bool
begins_lettered [] = false
begins_lettered (x ∷ t) = lettered x

-- a letter or a digit belongs to the run behind it, and a colon to the - behind it
abbrev pub joins : ℕ → Token → Bool
joins b t = (lettered b && begins_lettered t) || (b == 58 && is 45 t)

abbrev pub before : ℕ → List Token → List Token
before b [] = (b ∷ []) ∷ []
before b (t ∷ ts) = cond (joins b t) ((b ∷ t) ∷ ts) ((b ∷ []) ∷ t ∷ ts)

-- the tokens of a text, from its end on: each byte joins the token behind it or stands before it
unfoldable pub tokens : List ℕ → List Token
tokens [] = []
tokens (b ∷ bs) = before b (tokens bs)

-- a token of the text stands from `from` to before `to`
pub record Cut (text : List ℕ) (from to : ℕ) : Type 0 where
  pub after : from < to
  pub within : to ≤ length text
  pub cut : tokens (drop from text) ≡ take (to - from) (drop from text) ∷ tokens (drop to text)

-- a space or a newline
abbrev pub is_blank_token : Token → Bool
is_blank_token [] = false
is_blank_token (x ∷ t) = blank x

-- a token and the place of its first byte
pub record Placed : Type 0 where
  pub token : Token
  pub place : ℕ

-- the tokens, the first of which begins at the place k
abbrev pub placed : ℕ → List Token → List Placed
placed k [] = []
placed k (t ∷ ts) = record { token = t; place = k } ∷ placed (k + length t) ts

-- those that are not passed over
abbrev pub sieved : (Token → Bool) → List Placed → List Placed
sieved skips [] = []
sieved skips (t ∷ ts) = cond (skips t.token) (sieved skips ts) (t ∷ sieved skips ts)

abbrev pub words : List Placed → List Token
words [] = []
words (t ∷ ts) = t.token ∷ words ts
