-- The way of a reader over the tokens of a text. It is no part of what a text means: proofs/Course.antt shows that it finds the lowest fault or the whole text.
use Rattle.std.specs.Prelude.{◌≡◌, ℕ, ◌≤◌, Bool, cond, List, [], ◌∷◌, length, drop, Some, None, Ok, Err, Option, Result, nat_le}
use Rattle.faults.specs.declared.refusal.Refusal.{Refusal}
use Rattle.lexing.specs.declared.flaw.Flaw.{Flaw}
use Rattle.lexing.specs.Flaws.{first_flaw}
use Rattle.lexing.specs.Tokens.{Token, tokens, Placed, placed, sieved}
use Rattle.lexing.specs.Grammars.{Grammar}

-- where a reader begins, which tokens fit behind a part, the part that they make, and what is wrong with a token there
pub record Steps (g : Grammar) : Type 0 where
  pub start : g.Part
  pub fits : g.Part → Token → Bool
  pub next : g.Part → Token → g.Part
  pub wrong : g.Part → Token → Option Refusal

abbrev pub Outcome : Grammar → Type 0
Outcome g = Result g.Part Flaw

abbrev pub flaw : Refusal → ℕ → Flaw
flaw r k = record { refusal = r; place = k }

abbrev pub step : {P : Type 0} → Option Refusal → ℕ → Result P Flaw → Result P Flaw
step None k r = r
step (Some s) k r = Err (flaw s k)

unfoldable pub going : (g : Grammar) → Steps g → ℕ → g.Part → List Placed → Outcome g
going g c end p [] = cond (g.whole p) (Ok p) (Err (flaw g.form end))
going g c end p (t ∷ ts) = step (c.wrong p t.token) t.place (going g c end (c.next p t.token) ts)

-- the way from a place on
abbrev pub from : (g : Grammar) → Steps g → List ℕ → ℕ → g.Part → Outcome g
from g c text k p = going g c (length text) p (sieved g.skips (placed k (tokens (drop k text))))

-- a token is taken behind a part: it is refused as the steps say, or what is got stands behind the next part
abbrev pub Taken : {X : Type 0} {g : Grammar} → Steps g → (X → g.Part → Type 0) → g.Part → Token → Result X Refusal → Type 0
Taken c Stands p t (Ok x) = (c.wrong p t ≡ None) × Stands x (c.next p t)
Taken c Stands p t (Err r) = c.wrong p t ≡ Some r

-- the same, where a refusal is told with the token's place
abbrev pub TakenAt : {X : Type 0} {g : Grammar} → Steps g → (X → g.Part → Type 0) → g.Part → Placed → Result X Flaw → Type 0
TakenAt c Stands p t (Ok x) = (c.wrong p t.token ≡ None) × Stands x (c.next p t.token)
TakenAt c Stands p t (Err f) = (c.wrong p t.token ≡ Some f.refusal) × (f.place ≡ t.place)

-- what the reader's way over the whole text gives: a reader behind the whole of it, or a flaw
abbrev pub WentThrough : {R : Type 0} (g : Grammar) → Steps g → (R → g.Part → Type 0) → List ℕ → Result R Flaw → Type 0
WentThrough g c Stands text (Ok r) = (p : g.Part) × (from g c text 0 c.start ≡ Ok p) × Stands r p
WentThrough g c Stands text (Err f) = from g c text 0 c.start ≡ Err f

-- the answer over a text of a length: a text that is too long is refused, unless a flaw counts before that
abbrev pub with_length : (g : Grammar) → ℕ → Outcome g → Outcome g
with_length g n (Ok p) = cond (nat_le n 4096) (Ok p) (Err (flaw g.limit 4096))
with_length g n (Err f) = Err (first_flaw f n g.limit)

-- what is read of a text, its length too: a reader behind the whole of it, or the flaw that counts
abbrev pub HasRead : {R : Type 0} (g : Grammar) → Steps g → (R → g.Part → Type 0) → List ℕ → Result R Flaw → Type 0
HasRead g c Stands text (Ok r) = (length text ≤ 4096) × WentThrough g c Stands text (Ok r)
HasRead g c Stands text (Err f) = with_length g (length text) (from g c text 0 c.start) ≡ Err f
