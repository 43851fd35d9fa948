use Rattle.std.proofs.Common.{◌≡◌, ℕ, List, length, take, ◌∙◌, rules, arith}
use Rattle.std.specs.List.{sum_by}
use Rattle.bounded.proofs.Holding.{length_most}
use Rattle.numbers.specs.Forms.{encodes}
use Rattle.files.specs.Held.{columns_marks}
use Rattle.files.proofs.Sizes.{rows_long, rows_few}
use Rattle.files.proofs.writing.rows_size.Goals as goal

pub returns : goal.returns
returns c =
    let width : ℕ = length (columns_marks c.args.columns.now) in
    let long : c.sum.result ≡ sum_by (λ (row : List ℕ). length (encodes (take width row))) c.args.rows.now = search rules in
    record { long = long ∙ rows_long width c.args.rows.now; few = omega (arith, long, rows_long width c.args.rows.now, rows_few width c.args.rows.now (length_most c.args.columns.now.marks)) }
