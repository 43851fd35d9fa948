-- A register is lawful, and answers the rows that match.
use Rattle.std.specs.Prelude.{◌≡◌, ℕ, ◌≤◌, true, List, ◌++◌, length, drop, None}
use Rattle.std.proofs.Common.{◌∙◌, arith}
use Rattle.source.specs.declared.mark.Mark.{Mark}
use Rattle.source.specs.Rows.{is_in, ascending, flat}
use Rattle.source.specs.Marks.{inputs_of, whole, matching}
use Rattle.source.specs.Meaning.{Lawful, wanted}
use Rattle.source.specs.Calls.{misuse, Answer, Answered}
use Rattle.source.proofs.Unique.{within_no_longer}
use Rattle.source.proofs.Matching.{in_matching, matching_ascends}
use Rattle.source.proofs.Calls.{refused_by_bar, later_same}
use Rattle.ends.specs.Storage.{storage}

module _ (marks : List Mark) (rows : List (List ℕ)) (ascends : ascending rows ≡ true) where
  pub answer : (inputs : List ℕ) → Answer (storage marks rows) inputs (matching marks inputs rows)
  answer inputs = record { ascends = matching_ascends marks inputs rows ascends; exact = in_matching marks inputs rows }

  pub lawful : 1 ≤ length marks → length marks ≤ 4 → inputs_of marks ≤ 3 → ((row : List ℕ) → is_in row rows ≡ true → whole marks row ≡ true) → ((inputs : List ℕ) → length (matching marks inputs rows) ≤ 64) → Lawful (storage marks rows)
  lawful some four three wholes few = record {
    some_column = some;
    four_columns = four;
    three_given = three;
    rows_whole = wholes;
    few_match = λ inputs xs s w. few_of inputs xs s w;
    bars_proper = λ inputs. tt;
  }
    where
      few_of : (inputs : List ℕ) (xs : List (List ℕ)) → ascending xs ≡ true → ((row : List ℕ) → is_in row xs ≡ true → wanted (storage marks rows) inputs row ≡ true) → length xs ≤ 64
      few_of inputs xs s w = omega (arith, few inputs, within_no_longer xs (matching marks inputs rows) s (matching_ascends marks inputs rows ascends) (λ r i. in_matching marks inputs rows r ∙ w r i))

  pub answered : (inputs memory memory' : List ℕ) (count : ℕ) → misuse marks inputs (length memory) ≡ None → count ≡ length (matching marks inputs rows) → memory' ≡ flat (matching marks inputs rows) ++ drop (length (flat (matching marks inputs rows))) memory → Answered (storage marks rows) (storage marks rows) inputs memory memory' count
  answered inputs memory memory' count admitted counted written = record {
    granted = refused_by_bar (storage marks rows) inputs (length memory) admitted;
    rows = matching marks inputs rows;
    answer = answer inputs;
    counted = counted;
    written = written;
    later = later_same (storage marks rows);
  }
