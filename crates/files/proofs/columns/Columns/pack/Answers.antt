use Rattle.std.proofs.Common.{◌≡◌, rules, arith}
use Rattle.bounded.proofs.Holding.{length_most}
use Rattle.files.specs.Contents.{bit}
use Rattle.files.proofs.Packing.{bit_few, packed_few}
use Rattle.files.proofs.columns.Columns.pack.Goals as goal

pub overflow_mul-packed : goal.overflow_mul-packed
overflow_mul-packed c = record { fits = omega (arith, packed_few (length_most c.args.self.now.marks) c.loop-mark.invariant) }

pub overflow_add-packed : goal.overflow_add-packed
overflow_add-packed c =
    let packed : c.from.result ≡ bit c.in-Some.mark.now = search rules in
    record { fits = omega (arith, packed_few (length_most c.args.self.now.marks) c.loop-mark.invariant, bit_few c.in-Some.mark.now) }
