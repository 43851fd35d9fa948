-- What is left of the tokens of a text.
use Rattle.std.proofs.Common.{◌≡◌, ℕ, ◌≤◌, List, [], length, drop, refl}
use Rattle.std.proofs.lemmas.List.{drop_all}
use Rattle.lexing.specs.Tokens.{tokens, placed}

-- nothing is left behind the text
pub none_left : (text : List ℕ) (k : ℕ) → length text ≤ k → placed k (tokens (drop k text)) ≡ []
unfolding tokens
none_left text k h = rw (drop_all k text h) refl
