-- Answers in memory: four numbers each, one after another from its start.
use Rattle.std.specs.Prelude.{◌≡◌, ℕ, ◌+◌, ◌*◌, ◌/◌, ◌<◌, ◌≤◌, min, Bool, true, false, ◌||◌, List, [], ◌++◌, length, drop, replicate, Some, None, Ok, Err, Option, Result, is_none, slice_index_or}
use Rattle.source.specs.Rows.{same, before, is_in, leads, rows_in}

-- the first answers in the memory, this many
abbrev pub answers : ℕ → List ℕ → List (List ℕ)
answers count memory = rows_in 4 count memory

-- how many answers have a place in the memory
abbrev pub places_in : List ℕ → ℕ
places_in memory = min (length memory / 4) 1024

-- how many answers are listed, where a list says nothing once one found no place: then every place is taken
abbrev pub count_listed : ℕ → Option ℕ → ℕ
count_listed places (Some count) = count
count_listed places None = places

-- a list as it stands: how many places it has, the memory, how many answers are listed, and whether one found no place
pub record Listing : Type 0 where
  pub places : ℕ
  pub memory : List ℕ
  pub count : ℕ
  pub crowded : Bool

-- the list over this memory, of which so many answers are listed, or nothing is said once one found no place
abbrev pub listing : ℕ → List ℕ → Option ℕ → Listing
listing places memory listed = record { places = places; memory = memory; count = count_listed places listed; crowded = is_none listed }

-- the answers that are listed
abbrev pub listed : Listing → List (List ℕ)
listed l = answers l.count l.memory

-- an answer was given to a list:
-- it was listed already, and nothing changed;
-- or it found its place among the others, and the numbers behind stay;
-- or it is not listed and every place is taken, which is noted
pub data Added (answer : List ℕ) (old new : Listing) : Type 0 where
  listed_before : is_in answer (listed old) ≡ true → new ≡ old → Added answer old new
  listed_now : is_in answer (listed old) ≡ false → new.places ≡ old.places → new.count ≡ old.count + 1 → ((other : List ℕ) → is_in other (listed new) ≡ (same other answer || is_in other (listed old))) → drop (4 * new.count) new.memory ≡ drop (4 * new.count) old.memory → new.crowded ≡ old.crowded → Added answer old new
  no_place : is_in answer (listed old) ≡ false → old.count ≡ old.places → new.places ≡ old.places → new.memory ≡ old.memory → new.count ≡ old.count → new.crowded ≡ true → Added answer old new

-- the memory with every place zero, and the numbers behind the places as they were
abbrev pub cleared : ℕ → List ℕ → List ℕ
cleared places memory = replicate (4 * places) 0 ++ drop (4 * places) memory

-- the rows before the place come before the row, and the row comes before the others
pub record Belongs (rows : List (List ℕ)) (row : List ℕ) (place : ℕ) : Type 0 where
  pub inside : place ≤ length rows
  pub above : (k : ℕ) → k < place → before (slice_index_or rows k []) row ≡ true
  pub below : leads row (drop place rows) ≡ true

-- the row is one of the rows, or belongs at the place
abbrev pub Spotted : List (List ℕ) → List ℕ → Result ℕ ℕ → Type 0
Spotted rows row (Ok place) = is_in row rows ≡ true
Spotted rows row (Err place) = Belongs rows row place
