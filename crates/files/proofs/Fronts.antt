-- Rows that are read one after another.
use Rattle.std.proofs.Common.{◌≡◌, ℕ, ◌<◌, ◌≤◌, Bool, true, false, cond, List, [], ◌∷◌, ◌++◌, length, take, sym, ◌∙◌, arith, length-append}
use Rattle.std.proofs.lemmas.List.{length-take-le}
use Rattle.faults.specs.declared.fault.Fault.{Fault}
use Rattle.faults.specs.declared.refusal.Refusal.TheVariants.{RowsNotAscending}
use Rattle.faults.specs.Faults.{placed}
use Rattle.source.specs.declared.mark.Mark.{Mark}
use Rattle.source.specs.Rows.{ascending}
use Rattle.files.specs.Refusing.{Reads, Front, Refuses}
use Rattle.files.specs.Refusing.Refuses.{row_cut, row_order}
use Rattle.files.specs.Steps.{Row, RowCut}
use Rattle.files.proofs.Reading.{reads_join}
use Rattle.files.proofs.Holding.{flat_push}
use Rattle.files.proofs.Pushing.{whole_row, whole_push}
use Rattle.files.proofs.Heads.{told}

pub front_push : {bytes : List ℕ} {ms : List Mark} {n p q : ℕ} {rows : List (List ℕ)} {row : List ℕ} → Front bytes ms n rows p → length rows < n → Reads bytes p row q → length row ≡ length ms → ascending (rows ++ row ∷ []) ≡ true → Front bytes ms n (rows ++ row ∷ []) q
front_push {bytes} {ms} {n} {p} {q} {rows} {row} f h r l w =
    record {
      header = f.header;
      rows_whole = whole_push ms rows row f.rows_whole (whole_row ms row l r.small);
      ascends = w;
      most = rw (length-append rows (row ∷ [])) (omega arith);
      reads = rw (flat_push rows row) (reads_join f.reads r);
    }

module _ {bytes : List ℕ} {ms : List Mark} {n p : ℕ} (rows : List (List ℕ)) (few : length ms ≤ 4) (inside : length rows < n) (front : Front bytes ms n rows p) where
  row_long : {q : ℕ} {row : List ℕ} → Row bytes p (length ms) row q → length (take (length ms) row) ≡ length ms
  row_long {q} {row} r = length-take-le (length ms) row (omega (arith, r.four))

  pub turn : {q : ℕ} {row : List ℕ} (after : List (List ℕ)) (b : Bool) → Row bytes p (length ms) row q → b ≡ ascending (rows ++ take (length ms) row ∷ []) → after ≡ cond b (rows ++ take (length ms) row ∷ []) rows → b ≡ true → Front bytes ms n after q
  turn after b r e f t = rw (f, t) (front_push front inside r.reads (row_long r) (sym e ∙ t))

  pub fell : {q : ℕ} {row : List ℕ} {fault : Fault} (b : Bool) → Row bytes p (length ms) row q → b ≡ ascending (rows ++ take (length ms) row ∷ []) → b ≡ false → fault ≡ placed RowsNotAscending p → Refuses bytes fault
  fell b r e t z = told z (row_order front inside r.reads (row_long r) (sym e ∙ t))

  pub stopped : {fault : Fault} → RowCut bytes p (length ms) fault → Refuses bytes fault
  stopped r = told r.told (row_cut front inside r.cut)
