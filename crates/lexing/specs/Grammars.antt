-- What is wrong with a text, for any grammar whose texts are read from left to right.
use Rattle.std.specs.Prelude.{◌≡◌, ℕ, ◌<◌, ◌≤◌, Bool, true, ◌⊎◌, List, [], ◌∷◌, ◌++◌, length}
use Rattle.faults.specs.declared.refusal.Refusal.{Refusal}
use Rattle.faults.specs.Refusals.{number}
use Rattle.lexing.specs.Tokens.{Token, tokens, Placed, placed, sieved, words}

pub record Grammar : Type 1 where
  -- a text as far as it is written
  pub Part : Type 0
  -- what it is made of has its form
  pub Good : Part → Type 0
  -- its tokens, in front of others
  pub shown : Part → List Token → List Token
  -- nothing is missing
  pub whole : Part → Bool
  -- the token behind the part is refused so, its form aside
  pub Cause : Part → Token → Refusal → Type 0
  -- tokens that are passed over
  pub skips : Token → Bool
  -- the refusals of a wrong form and of a text that is too long
  pub form : Refusal
  pub limit : Refusal

abbrev pub read_of : Grammar → List ℕ → List Placed
read_of g text = sieved g.skips (placed 0 (tokens text))

-- these tokens are a whole text
pub record Whole (g : Grammar) (ts : List Token) : Type 0 where
  pub part : g.Part
  pub good : g.Good part
  pub complete : g.whole part ≡ true
  pub written : ts ≡ g.shown part []

-- a whole text begins with these tokens
pub record Begins (g : Grammar) (front : List Token) : Type 0 where
  pub rest : List Token
  pub ends : Whole g (front ++ rest)

-- What is wrong with a text: a refusal and a place. It may have many faults.
pub data Faulty (g : Grammar) (text : List ℕ) : Refusal → ℕ → Type 0 where
  -- no whole text has this token behind what stands before it
  unexpected : (front : List Placed) (t : Placed) (rest : List Placed) → read_of g text ≡ front ++ t ∷ rest →
      (Begins g (words front ++ t.token ∷ []) → ⊥) → Faulty g text g.form t.place
  -- the text ends too early
  unfinished : (Whole g (words (read_of g text)) → ⊥) → Faulty g text g.form (length text)
  -- the token has a cause of refusal behind what is written before it
  caused : (r : Refusal) (p : g.Part) (front : List Placed) (t : Placed) (rest : List Placed) → read_of g text ≡ front ++ t ∷ rest →
      g.Good p → words front ≡ g.shown p [] → g.Cause p t.token r → Faulty g text r t.place
  too_long : 4096 < length text → Faulty g text g.limit 4096

-- the lower place, or there the lower number
abbrev pub NotAbove : Refusal → ℕ → Refusal → ℕ → Type 0
NotAbove r p s q = (p < q) ⊎ ((p ≡ q) × (number r ≤ number s))

-- the text is refused so: the fault at the lowest place, and there of the lowest number
pub record Refused (g : Grammar) (text : List ℕ) (r : Refusal) (place : ℕ) : Type 0 where
  pub fault : Faulty g text r place
  pub lowest : (s : Refusal) (q : ℕ) → Faulty g text s q → NotAbove r place s q

-- the text is a whole one, and nothing is wrong with it
pub record Accepted (g : Grammar) (text : List ℕ) (p : g.Part) : Type 0 where
  pub good : g.Good p
  pub complete : g.whole p ≡ true
  pub written : words (read_of g text) ≡ g.shown p []
  pub faultless : (s : Refusal) (q : ℕ) → Faulty g text s q → ⊥
