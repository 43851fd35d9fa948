-- What comes of a list to which answers are given.
use Rattle.std.specs.Prelude.{◌≡◌, ℕ, ◌+◌, ◌*◌, ◌≤◌, true, false, ◌⊎◌, List, length, drop}
use Rattle.source.specs.Rows.{is_in, ascending}
use Rattle.listing.specs.declared.AnswerList.{AnswerList}
use Rattle.listing.specs.Answers.{Listing, listing, listed}

-- a list as it stands
abbrev pub listing_of : AnswerList → Listing
listing_of l = listing l.places l.memory.now l.listed

-- there are more than the places: so many different rows, each of them listed before or one of those of which P holds
pub record TooMany (places : ℕ) (before : List (List ℕ)) (P : List ℕ → Type 0) : Type 0 where
  pub rows : List (List ℕ)
  pub many : length rows ≡ places + 1
  pub ascends : ascending rows ≡ true
  pub each : (row : List ℕ) → is_in row rows ≡ true → (is_in row before ≡ true) ⊎ P row

-- the rows of which P holds were given to the list, and no others: all of them are listed, or there are more than the places;
-- the numbers behind the listed answers stay, and those behind the places
pub record Gathered (old new : Listing) (P : List ℕ → Type 0) : Type 0 where
  pub places : new.places ≡ old.places
  pub more : old.count ≤ new.count
  pub kept : (row : List ℕ) → is_in row (listed old) ≡ true → is_in row (listed new) ≡ true
  pub sound : (row : List ℕ) → is_in row (listed new) ≡ true → (is_in row (listed old) ≡ true) ⊎ P row
  pub complete : new.crowded ≡ false → (row : List ℕ) → P row → is_in row (listed new) ≡ true
  pub still : old.crowded ≡ true → new.crowded ≡ true
  pub crowd : new.crowded ≡ true → (old.crowded ≡ true) ⊎ TooMany old.places (listed old) P
  pub behind : drop (4 * new.count) new.memory ≡ drop (4 * new.count) old.memory
  pub beyond : drop (4 * old.places) new.memory ≡ drop (4 * old.places) old.memory
