use Rattle.std.proofs.Common.{◌≡◌, ℕ, ◌+◌, ◌<◌, ◌≤◌, List, get_or, ap, arith}
use Rattle.numbers.proofs.Forms.{last_group, not_shortest, too_large, one_more}
use Rattle.numbers.proofs.reading.+read_groups.Goals as goal

pub returns-then-first-lt-MORE : goal.returns-then-first-lt-MORE
returns-then-first-lt-MORE t c =
    let some : 1 ≤ c.args.left = omega (arith, c.in_ok-behind.ensures) in
    let begins = c.in_ok-first.ensures.cases.0 in
    let byte = c.from.ensures in
    let few = c.if-first-lt-MORE.true in
    record { groups = rw (begins, byte) (last_group _ _ _ some few) }

pub returns-then-value-eq0 : goal.returns-then-value-eq0
returns-then-value-eq0 t c =
    let one : c.args.left ≡ c.in_ok-behind.behind + 1 = omega (arith, c.in_ok-behind.ensures) in
    record { groups = rw (c.in_ok-first.ensures.cases.0, one) (not_shortest _ _ _ c.if-first-lt-MORE.false _ _ c.if-value-eq0.true c.in_ok-value.ensures.groups) }

pub returns-in_err-above : goal.returns-in_err-above
returns-in_err-above t c =
    let one : c.args.left ≡ c.in_ok-behind.behind + 1 = omega (arith, c.in_ok-behind.ensures) in
    record { groups = rw (c.from_residual-in_err-above.ensures, c.in_ok-first.ensures.cases.0, one) (too_large _ _ _ c.if-first-lt-MORE.false _ _ (omega (arith, c.in_err-above.ensures)) c.in_ok-value.ensures.groups) }

pub returns : goal.returns
returns t c =
    let one : c.args.left ≡ c.in_ok-behind.behind + 1 = omega (arith, c.in_ok-behind.ensures) in
    let byte = c.from-2.ensures in
    let above = c.in_ok-above.ensures in
    let begins = c.in_ok-first.ensures.cases.0 in
    let fits : c.in_ok-first.field-0-0.now < 256 = omega (arith, c.type_inv.bytes 0, ap (λ (xs : List ℕ). get_or xs 0 0) begins) in
    record { groups = rw (begins, one, byte, above.1) (one_more _ _ _ c.if-first-lt-MORE.false _ _ fits c.if-value-eq0.false above.0 c.in_ok-value.ensures.groups) }
