-- A binary search among ascending rows.
use Rattle.std.proofs.Common.{◌≡◌, ℕ, zero, suc, ◌+◌, ◌*◌, ◌/◌, ◌<◌, ◌≤◌, true, List, [], ◌∷◌, length, get_or, take, drop, Ok, Err, Result, Option, Some, Ordering, Less, Equal, sym, refl, ap, ◌∙◌, add-one, arith}
use Rattle.std.specs.Simd.{first_chunks}
use Rattle.std.specs.Ordering.{is_lt, is_eq, is_gt, nat_cmp}
use Rattle.std.specs.Cmp.Lexicographic.{slice_cmp}
use Rattle.std.specs.List.Sorted.{IsBinarySearchResult, IsSearchInRange, IsSortedBy}
use Rattle.std.proofs.lemmas.Bool.{and_parts, or_left, false_from_ne_true}
use Rattle.std.specs.Option.{option_map}
use Rattle.std.specs.List.{slice_get}
use Rattle.std.proofs.lemmas.Cmp.{nat_list_cmp_total}
use Rattle.std.proofs.lemmas.List.Sorted.{searchable_from_sorted}
use Rattle.source.specs.Rows.{same, before, is_in, ascending, rows_in}
use Rattle.source.proofs.Rows.{same_eq, before_irrefl, before_trans, ascending_tail}
use Rattle.listing.specs.Answers.{answers, Belongs, Spotted}
use Rattle.listing.proofs.Ascents.{in_at, leads_at}
use Rattle.listing.proofs.Comparing.{is_before, is_behind, is_same}

-- the first cells of a memory are its first rows
first_cells : (columns count many : ℕ) (memory : List ℕ) → count ≤ many → take count (first_chunks columns many memory) ≡ rows_in columns count memory
first_cells columns zero many memory le = refl
first_cells columns (suc count) zero memory le = absurd (omega arith)
first_cells columns (suc count) (suc many) memory le = ap (λ (rows : List (List ℕ)). take columns memory ∷ rows) (first_cells columns count many (drop columns memory) (omega arith))

next_behind : (rows : List (List ℕ)) → ascending rows ≡ true → (k : ℕ) (d : List ℕ) → suc k < length rows → before (get_or rows k d) (get_or rows (suc k) d) ≡ true
next_behind [] asc k d h = absurd (omega arith)
next_behind (r ∷ []) asc k d h = absurd (omega arith)
next_behind (r ∷ q ∷ rows) asc zero d h = (and_parts (before r q) (ascending (q ∷ rows)) asc).0
next_behind (r ∷ q ∷ rows) asc (suc k) d h = next_behind (q ∷ rows) (ascending_tail r (q ∷ rows) asc) k d (omega arith)

sorted : (rows : List (List ℕ)) → ascending rows ≡ true → IsSortedBy (λ x y. is_lt (slice_cmp nat_cmp x y)) rows
sorted rows asc k d low h =
    let ahead : before (get_or rows k d) (get_or rows (k + 1) d) ≡ true = rw add-one (next_behind rows asc k d (omega arith)) in
    let one = get_or rows k d in
    let next = get_or rows (k + 1) d in
    is_before next one ∙ false_from_ne_true (before next one) (λ back. before_irrefl one (before_trans one next one ahead back))

spotted : (rows : List (List ℕ)) (row : List ℕ) (r : Result ℕ ℕ) → ascending rows ≡ true → IsSearchInRange r (length rows) → IsBinarySearchResult (λ y. slice_cmp nat_cmp y row) rows r → Spotted rows row r
spotted rows row (Ok k) asc bound found = in_at rows k row bound (same_eq (get_or rows k []) row (sym (is_same (get_or rows k []) row) ∙ ap is_eq (found [])))
spotted rows row (Err k) asc bound found =
    let parted = found (searchable_from_sorted nat_list_cmp_total (λ (x : List ℕ). x) rows row (sorted rows asc)) in
    record {
      inside = bound;
      above = λ j h. sym (is_before (get_or rows j []) row) ∙ ap is_lt (parted.0 j [] (omega arith) h);
      below = leads_at rows k row (λ h. sym (is_behind (get_or rows k []) row) ∙ ap is_gt (parted.1 k [] (omega arith) h));
    }

-- the first cells of a memory are its answers
cells_are_rows : (count : ℕ) (memory : List ℕ) (cells : List (List ℕ)) → 4 * count ≤ length memory → cells ≡ first_chunks 4 (length memory / 4) memory → take count cells ≡ answers count memory
cells_are_rows count memory cells room front =
    let fits : count ≤ length memory / 4 = omega arith in
    ap (take count) front ∙ first_cells 4 count (length memory / 4) memory fits

-- the same among the first cells of a memory
pub spotted_among : (count : ℕ) (memory answer : List ℕ) (cells : List (List ℕ)) (r : Result ℕ ℕ) → 4 * count ≤ length memory → cells ≡ first_chunks 4 (length memory / 4) memory → ascending (answers count memory) ≡ true → IsSearchInRange r (length (take count cells)) → IsBinarySearchResult (λ y. slice_cmp nat_cmp y answer) (take count cells) r → Spotted (answers count memory) answer r
spotted_among count memory answer cells r room front asc bound found =
    let rows = cells_are_rows count memory cells room front in
    spotted (answers count memory) answer r asc (rw (← rows) bound) (rw (← rows) found)

-- how a row compares with the first of the rows, where there is one
abbrev pub compared_first : List (List ℕ) → List ℕ → Option Ordering
compared_first rows row = option_map (λ first. slice_cmp nat_cmp row first) (slice_get rows 0)

-- a row that comes before the first belongs in front, and one that is the first is found
module _ (count : ℕ) (memory answer : List ℕ) (cells : List (List ℕ)) (room : 4 * count ≤ length memory) (front : cells ≡ first_chunks 4 (length memory / 4) memory) where
  among_rows : {o : Option Ordering} → compared_first (take count cells) answer ≡ o → compared_first (answers count memory) answer ≡ o
  among_rows e = ap (λ rows. compared_first rows answer) (sym (cells_are_rows count memory cells room front)) ∙ e

  pub first_behind : compared_first (take count cells) answer ≡ Some Less → Belongs (answers count memory) answer 0
  first_behind e = go (answers count memory) (among_rows e)
    where
      go : (rows : List (List ℕ)) → compared_first rows answer ≡ Some Less → Belongs rows answer 0
      go [] e = cc
      go (r ∷ rows) e = record { inside = omega arith; above = λ k h. absurd (omega arith); below = let less : slice_cmp nat_cmp answer r ≡ Less = cc in sym (is_before answer r) ∙ ap is_lt less }

  pub first_found : compared_first (take count cells) answer ≡ Some Equal → is_in answer (answers count memory) ≡ true
  first_found e = go (answers count memory) (among_rows e)
    where
      go : (rows : List (List ℕ)) → compared_first rows answer ≡ Some Equal → is_in answer rows ≡ true
      go [] e = cc
      go (r ∷ rows) e = or_left (same answer r) (is_in answer rows) (let equal : slice_cmp nat_cmp answer r ≡ Equal = cc in sym (is_same answer r) ∙ ap is_eq equal)
