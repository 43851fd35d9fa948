use Rattle.std.proofs.Common.{◌≡◌, ℕ, length, ◌∙◌, rules, arith}
use Rattle.std.specs.List.{sum_by}
use Rattle.numbers.specs.Forms.{encode}
use Rattle.files.proofs.Sizes.{values_long, values_few}
use Rattle.files.proofs.writing.values_size.Goals as goal

pub returns : goal.returns
returns c =
    let long : c.sum.result ≡ sum_by (λ (x : ℕ). length (encode x)) c.args.values.now = search rules in
    record { long = long ∙ values_long c.args.values.now; few = omega (arith, long, values_long c.args.values.now, values_few c.args.values.now, c.requires) }
