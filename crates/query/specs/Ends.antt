-- What the reader's last steps give.
use Rattle.std.specs.Prelude.{◌≡◌, ℕ, ◌<◌, true, false, List, map, length, is_some, Some, None, Option, slice_index, slice_index_or}
use Rattle.lexing.specs.Tokens.{Placed, tokens, placed, sieved, is_blank_token}

-- the variable at this place of the head has a kind
abbrev pub has_kind : List ℕ → List (Option ℕ) → ℕ → Type 0
has_kind head cells k = is_some (slice_index_or cells (slice_index head k) None) ≡ true

-- the first place of the head whose variable has no kind
abbrev pub FirstMissing : List ℕ → List (Option ℕ) → Option ℕ → Type 0
FirstMissing head cells None = (k : ℕ) → k < length head → has_kind head cells k
FirstMissing head cells (Some i) = (i < length head) × (is_some (slice_index_or cells (slice_index head i) None) ≡ false) × ((k : ℕ) → k < i → has_kind head cells k)

-- the places of tokens
abbrev pub places : List Placed → List ℕ
places ts = map (λ t. t.place) ts

-- the tokens of a query text: those that are not blank
abbrev pub tokens_of : List ℕ → List Placed
tokens_of text = sieved is_blank_token (placed 0 (tokens text))
