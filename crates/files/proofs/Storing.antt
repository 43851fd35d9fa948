-- Tables made from values, and their files.
use Rattle.std.proofs.Common.{◌≡◌, ℕ, ◌*◌, ◌<◌, ◌≤◌, true, false, List, [], length, get_or, take, Ok, Err, Result, sym, refl, ap, ◌∙◌, subst, inr, arith}
use Rattle.std.proofs.lemmas.List.{length-map}
use Rattle.std.proofs.lemmas.Bool.{both_ways}
use Rattle.faults.specs.declared.fault.Fault.{Fault}
use Rattle.faults.specs.declared.refusal.Refusal.TheVariants.{HeaderRange, RowsNotAscending, TooManyMatches}
use Rattle.faults.specs.Faults.{bare}
use Rattle.bounded.proofs.Holding.{length_most}
use Rattle.source.specs.declared.mark.Mark.{Mark}
use Rattle.source.specs.Rows.{all_values, ascending, flat}
use Rattle.source.specs.Marks.{inputs_of, picked, all_whole, matching}
use Rattle.files.specs.declared.rows.Rows.{Rows}
use Rattle.files.specs.declared.table.Table.{Table}
use Rattle.files.specs.Contents.{Header, Storable, file}
use Rattle.files.specs.Listed.{rows_marks, rows_cells, rows_values}
use Rattle.files.specs.Refusing.{Crowded}
use Rattle.files.specs.Making.{Divided, Unfit, Wrote, FileWritten}
use Rattle.files.specs.Making.Unfit.{out_of_range, not_ascending, too_many}
use Rattle.files.specs.Tables.{table_marks, table_rows}
use Rattle.files.specs.Theorems.{CellsHoldRows, OneReason, FitOrNot}
use Rattle.files.proofs.Matching.{crowd_matches}
use Rattle.files.proofs.Heads.{columns_header}
use Rattle.files.proofs.Dividing.{whole_long, divided_same, Cutting, whole_cut, cut_falls}

pub why : {marks : List Mark} {values : List ℕ} {f g : Fault} → f ≡ g → Unfit marks values g → Unfit marks values f
why {marks} {values} e u = subst (Unfit marks values) (sym e) u

-- marks out of range
pub unfit_marks : {marks : List Mark} {values : List ℕ} {fault : Fault} → (1 ≤ length marks → length marks ≤ 4 → inputs_of marks ≤ 3 → ⊥) → fault ≡ bare HeaderRange → Unfit marks values fault
unfit_marks z e = why e (out_of_range (λ rows d. z d.header.some_column d.header.four_columns d.header.three_given))

-- values that are not whole rows, or too many
pub unfit_values : {marks : List Mark} {values : List ℕ} {fault : Fault} → ((count : ℕ) → count * length marks ≡ length values → count ≤ 1024 → ⊥) → fault ≡ bare HeaderRange → Unfit marks values fault
unfit_values {marks} z e = why e (out_of_range (λ rows d. z (length rows) (sym (whole_long marks rows d.rows_whole) ∙ ap length d.values_are) d.header.few_rows))

-- a row that does not come after the one before it
pub unfit_order : {marks : List Mark} {values left : List ℕ} {rows : List (List ℕ)} {fault : Fault} → 1 ≤ length marks → ((n : ℕ) → n ≤ 1024 → Header marks n) → all_values values ≡ true → all_whole marks rows ≡ true → Cutting marks values rows left → ascending rows ≡ false → fault ≡ bare RowsNotAscending → Unfit marks values fault
unfit_order some header s w cutting f e = why e (not_ascending (whole_cut some cutting header s w) (cut_falls some cutting f))

-- too many rows with the same inputs
pub unfit_inputs : {marks : List Mark} {values : List ℕ} {rows : List (List ℕ)} {fault : Fault} (i : ℕ) → Divided marks values rows → ascending rows ≡ true → Crowded marks rows i → fault ≡ bare TooManyMatches → Unfit marks values fault
unfit_inputs {marks} {rows = rows} i d a w e = why e (too_many (picked marks (get_or rows i [])) d a (crowd_matches marks rows i w.inside w.many))

-- what rows under a header hold can be stored, if not too many match
pub rows_storable : (r : Rows) → length (rows_values r) ≤ 1024 → ((inputs : List ℕ) → length (matching (rows_marks r) inputs (rows_values r)) ≤ 64) → Storable (rows_marks r) (rows_values r)
rows_storable r h few = record { header = columns_header r.columns h; rows_whole = r.whole; ascends = r.ascends; few_match = few }

pub few_rows : (r : Rows) → length (rows_values r) ≤ 1024
few_rows r = omega (arith, length-map (rows_cells r) (take (length (rows_marks r))), length_most r.cells)

-- every table can be stored
pub table_storable : (t : Table) → Storable (table_marks t) (table_rows t)
table_storable t = rows_storable t.rows (few_rows t.rows) t.matched

pub cells_hold_rows : CellsHoldRows
cells_hold_rows t = refl

pub filed : {marks : List Mark} {values : List ℕ} (before after : List ℕ) (r : Result ℕ Fault) (t : Table) → table_marks t ≡ marks → flat (table_rows t) ≡ values → Wrote (table_marks t) (table_rows t) before after r → FileWritten marks values before after r
filed {marks} {values} before after (Ok n) t e f w = record { rows = table_rows t; storable = subst (λ (x : List Mark). Storable x (table_rows t)) e (table_storable t); values_are = f; wrote = subst (λ (x : List Mark). Wrote x (table_rows t) before after (Ok n)) e w }
filed {marks} {values} before after (Err y) t e f w = (inr (record { rows = table_rows t; storable = subst (λ (x : List Mark). Storable x (table_rows t)) e (table_storable t); values_are = f; longer = subst (λ (x : List Mark). length before < length (file x (table_rows t))) e w.0; told = w.1 }), w.2)

-- why marks and values are unfit
clash : {rows : List (List ℕ)} {rows' : List (List ℕ)} → rows ≡ rows' → ascending rows ≡ false → ascending rows' ≡ true → ⊥
clash {rows} e f t = both_ways (ascending rows) f (ap ascending e ∙ t)

pub one_reason : OneReason
one_reason ms values f g (out_of_range z) (out_of_range y) = refl
one_reason ms values f g (out_of_range z) (not_ascending {rows} d a) = absurd (z rows d)
one_reason ms values f g (out_of_range z) (too_many {rows} inputs d a m) = absurd (z rows d)
one_reason ms values f g (not_ascending {rows} d a) (out_of_range y) = absurd (y rows d)
one_reason ms values f g (not_ascending d a) (not_ascending e b) = refl
one_reason ms values f g (not_ascending {rows} d a) (too_many {rows = rows'} inputs e b m) = absurd (clash (divided_same ms values rows rows' d e) a b)
one_reason ms values f g (too_many {rows} inputs d a m) (out_of_range y) = absurd (y rows d)
one_reason ms values f g (too_many {rows} inputs d a m) (not_ascending {rows = rows'} e b) = absurd (clash (divided_same ms values rows' rows e d) b a)
one_reason ms values f g (too_many inputs d a m) (too_many inputs' e b n) = refl

pub fit_or_not : FitOrNot
fit_or_not ms values rows f d s (out_of_range z) = z rows d
fit_or_not ms values rows f d s (not_ascending {rows = rows'} e a) = clash (divided_same ms values rows' rows e d) a s.ascends
fit_or_not ms values rows f d s (too_many {rows = rows'} inputs e a m) =
    omega (arith, s.few_match inputs, ap (λ (x : List (List ℕ)). length (matching ms inputs x)) (divided_same ms values rows rows' d e))
