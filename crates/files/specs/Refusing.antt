-- When bytes are no file, and with which fault they are refused.
use Rattle.std.specs.Prelude.{◌≡◌, ℕ, ◌+◌, ◌<◌, ◌≤◌, true, false, List, [], ◌∷◌, ◌++◌, length, take, drop, Some, None, Option, slice_index_or}
use Rattle.faults.specs.declared.fault.Fault.{Fault}
use Rattle.faults.specs.declared.refusal.Refusal.TheVariants.{NumberForm, HeaderRange, RowsNotAscending, TooManyMatches, BytesLeftOver}
use Rattle.faults.specs.Faults.{placed}
use Rattle.source.specs.declared.mark.Mark.{Mark}
use Rattle.source.specs.Rows.{all_values, ascending}
use Rattle.source.specs.Marks.{picked, matching, all_whole}
use Rattle.numbers.specs.Forms.{NoNumber, Number, encodes}
use Rattle.files.specs.Contents.{Header, header_numbers, numbers}

-- from `at` to `to` stand these numbers
pub record Reads (bytes : List ℕ) (at : ℕ) (ns : List ℕ) (to : ℕ) : Type 0 where
  pub small : all_values ns ≡ true
  pub bytes_are : drop at bytes ≡ encodes ns ++ drop to bytes
  pub place : to ≡ at + length (encodes ns)
  pub inside : to ≤ length bytes

-- fewer than `most` numbers stand from `at` to `to`, and there stands none
pub record Cut (bytes : List ℕ) (at most to : ℕ) : Type 0 where
  pub ns : List ℕ
  pub reads : Reads bytes at ns to
  pub fewer : length ns < most
  pub none : NoNumber (drop to bytes)

-- the numbers begin the header of some file
pub record Begun (ns : List ℕ) : Type 0 where
  pub marks : List Mark
  pub count : ℕ
  pub rest : List ℕ
  pub header : Header marks count
  pub numbers_are : header_numbers marks count ≡ ns ++ rest

-- up to `at` stand a header and some of its rows, with nothing wrong so far
pub record Front (bytes : List ℕ) (marks : List Mark) (count : ℕ) (rows : List (List ℕ)) (at : ℕ) : Type 0 where
  pub header : Header marks count
  pub rows_whole : all_whole marks rows ≡ true
  pub ascends : ascending rows ≡ true
  pub most : length rows ≤ count
  pub reads : Reads bytes 0 (numbers marks count rows) at

-- the earlier rows that hold the inputs of the row at place i
abbrev pub earlier : List Mark → List (List ℕ) → ℕ → List (List ℕ)
earlier marks rows i = matching marks (picked marks (slice_index_or rows i [])) (take i rows)

-- the row at place i is the first that has 64 earlier rows with its inputs
pub record Crowded (marks : List Mark) (rows : List (List ℕ)) (i : ℕ) : Type 0 where
  pub inside : i < length rows
  pub many : 64 ≤ length (earlier marks rows i)
  pub first : (j : ℕ) → j < i → length (earlier marks rows j) < 64

-- the bytes are refused with this fault:
pub data Refuses (bytes : List ℕ) : Fault → Type 0 where
  -- where a number of the header is due, none stands
  header_cut : {ns : List ℕ} {p : ℕ} → Reads bytes 0 ns p → Begun ns → length ns < 3 → NoNumber (drop p bytes) → Refuses bytes (placed NumberForm p)
  -- a number of the header is out of range
  header_range : {ns : List ℕ} {p n k : ℕ} → Reads bytes 0 ns p → Begun ns → length ns < 3 → Number bytes p n k → (Begun (ns ++ n ∷ []) → ⊥) → Refuses bytes (placed HeaderRange p)
  -- where a value of a row is due, no number stands
  row_cut : {marks : List Mark} {count p q : ℕ} {rows : List (List ℕ)} → Front bytes marks count rows p → length rows < count → Cut bytes p (length marks) q → Refuses bytes (placed NumberForm q)
  -- a row does not come after the one before it
  row_order : {marks : List Mark} {count p q : ℕ} {rows : List (List ℕ)} {row : List ℕ} → Front bytes marks count rows p → length rows < count → Reads bytes p row q → length row ≡ length marks → ascending (rows ++ row ∷ []) ≡ false → Refuses bytes (placed RowsNotAscending p)
  -- bytes stand behind the last row
  left_over : {marks : List Mark} {p : ℕ} {rows : List (List ℕ)} → Front bytes marks (length rows) rows p → p < length bytes → Refuses bytes (placed BytesLeftOver p)
  -- a row has too many earlier rows with its inputs
  crowded : {marks : List Mark} {i p : ℕ} {rows : List (List ℕ)} → Front bytes marks (length rows) rows (length bytes) → Crowded marks rows i → Reads bytes 0 (numbers marks (length rows) (take i rows)) p → Refuses bytes (placed TooManyMatches p)

-- the first row that has 64 earlier rows with its inputs, or that there is none
abbrev pub CrowdFound : List Mark → List (List ℕ) → Option ℕ → Type 0
CrowdFound marks rows (Some i) = Crowded marks rows i
CrowdFound marks rows None = (j : ℕ) → j < length rows → length (earlier marks rows j) < 64
