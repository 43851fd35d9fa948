use Rattle.std.proofs.Common.{◌≡◌, drop, ◌∙◌, arith}
use Rattle.std.proofs.lemmas.List.{take_rest}
use Rattle.numbers.proofs.Encoding.{stands, none_past}
use Rattle.numbers.proofs.reading.find.Goals as goal

pub returns-in_err-get : goal.returns-in_err-get
returns-in_err-get c = record { stands = rw c.from_residual.ensures (none_past c.args.bytes.now c.args.at (omega (arith, c.in_err-get.ensures.lookup))) }

pub returns : goal.returns
returns c =
    let rest : c.in_ok-get.field-0.now ≡ drop c.args.at c.args.bytes.now = c.in_ok-get.ensures.lookup.0.2 ∙ take_rest c.args.bytes.now c.args.at in
    record { stands = stands c.args.bytes.now c.args.at _ (rw rest at c.read_groups.ensures.groups) }
