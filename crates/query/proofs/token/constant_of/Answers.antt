use Rattle.std.proofs.Common.{◌<◌, ◌+◌, ◌*◌, ◌-◌, get_or, arith, rules}
use Rattle.query.proofs.Spelling.{this_digit, too_large}
use Rattle.query.proofs.token.constant_of.Goals as goal

pub overflow_sub-byte : goal.overflow_sub-byte
overflow_sub-byte c = (this_digit _ _ c.loop-byte.sum c.loop-byte-test.true c.loop-byte.invariant.1 c.loop-byte.invariant.2).0

pub returns-in_err-checked_mul : goal.returns-in_err-checked_mul
returns-in_err-checked_mul c =
    let t = c.args.token.now in
    let i = c.loop-byte.byte-index in
    let sum = c.loop-byte.sum in
    let past : 4294967295 < 10 * sum + (get_or t i 0 - 48) = omega arith in
    let large = too_large t i sum c.loop-byte-test.true c.loop-byte.invariant.1 c.loop-byte.invariant.2 past in
    search rules

pub returns-in_err-sum : goal.returns-in_err-sum
returns-in_err-sum c =
    let t = c.args.token.now in
    let i = c.loop-byte.byte-index in
    let sum = c.loop-byte.sum in
    let past : 4294967295 < 10 * sum + (get_or t i 0 - 48) = omega arith in
    let large = too_large t i sum c.loop-byte-test.true c.loop-byte.invariant.1 c.loop-byte.invariant.2 past in
    search rules
