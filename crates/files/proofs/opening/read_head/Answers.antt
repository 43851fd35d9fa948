use Rattle.std.proofs.Common.{◌≡◌, Some, None, rules, arith}
use Rattle.std.proofs.lemmas.Result.{err_from_is_err_and}
use Rattle.faults.specs.declared.refusal.Refusal.TheVariants.{HeaderRange}
use Rattle.faults.specs.Faults.{placed}
use Rattle.files.specs.Held.{columns_marks}
use Rattle.files.proofs.Heads.{told, range_1, cut_2, range_2, front_0, columns_header, width_read, bits_read, number_few}
use Rattle.files.proofs.opening.read_head.Goals as goal

pub returns-in_err-columns : goal.returns-in_err-columns
returns-in_err-columns c =
    let none : c.unpack.result ≡ None = grind arith in
    let p = err_from_is_err_and c.from_residual-in_err-columns.result c.from_residual-in_err-columns.ensures.1 in
    let why : c.in_err-columns.field-0.0 ≡ placed HeaderRange c.in_ok-width.a = search rules in
    rw (p.1, p.2) (told why (range_1 c.in_ok-width.ensures.found c.if-width-lt1.false c.if-width-gt-COLUMNS_MAX.false c.in_ok-packed.ensures.found (rw none at c.unpack.ensures)))

pub returns-in_err-count : goal.returns-in_err-count
returns-in_err-count c =
    let some : c.unpack.result ≡ Some c.in_ok-columns.columns = grind arith in
    let read = rw some at c.unpack.ensures in
    let h = c.in_err-count.ensures.found in
    let columns = c.in_ok-columns.columns in
    let ms = columns_marks columns in
    let p = err_from_is_err_and c.from_residual-in_err-count.result c.from_residual-in_err-count.ensures.1 in
    rw (p.1, p.2) (told h.1 (cut_2 (columns_header columns {n = 0} (omega arith)) (width_read ms read.0 c.in_ok-width.ensures.found) (bits_read ms read.1 c.in_ok-packed.ensures.found) h.0))

pub returns-then-count-gt-ROWS_MAX : goal.returns-then-count-gt-ROWS_MAX
returns-then-count-gt-ROWS_MAX c =
    let some : c.unpack.result ≡ Some c.in_ok-columns.columns = grind arith in
    let read = rw some at c.unpack.ensures in
    let columns = c.in_ok-columns.columns in
    let ms = columns_marks columns in
    told c.placed-then-count-gt-ROWS_MAX.ensures.value (range_2 (columns_header columns {n = 0} (omega arith)) (width_read ms read.0 c.in_ok-width.ensures.found) (bits_read ms read.1 c.in_ok-packed.ensures.found) c.in_ok-count.ensures.found c.if-count-gt-ROWS_MAX.true)

pub returns : goal.returns
returns c =
    let some : c.unpack.result ≡ Some c.in_ok-columns.columns = grind arith in
    let read = rw some at c.unpack.ensures in
    let columns = c.in_ok-columns.columns in
    let ms = columns_marks columns in
    record {
      few_rows = c.if-count-gt-ROWS_MAX.false;
      near = omega (arith, number_few c.in_ok-width.ensures.found, number_few c.in_ok-packed.ensures.found, number_few c.in_ok-count.ensures.found);
      front = front_0 (columns_header columns c.if-count-gt-ROWS_MAX.false) (width_read ms read.0 c.in_ok-width.ensures.found) (bits_read ms read.1 c.in_ok-packed.ensures.found) c.in_ok-count.ensures.found;
    }
