use Rattle.std.proofs.Common.{◌<◌, sym, arith, ltb-true}
use Rattle.bounded.proofs.Holding.{length_held}
use Rattle.lexing.proofs.Holding.{number_found, number_new}
use Rattle.lexing.proofs.name.number_in.Goals as goal

pub returns-in-Some : goal.returns-in-Some
returns-in-Some c = record { value = number_found c.args.list.now _ c.args.token.now c.args.limit c.as_slice.ensures.value _ c.in-Some.ensures.value c.in_ok-name.ensures.value.0 }

pub returns : goal.returns
returns c =
    let h = ltb-true c.args.list.now.used 16 (sym c.if-not-push.ensures.room) in
    let z = length_held c.args.list.now in
    let u : c.len-count.result < 16 = omega (arith, c.len-count.ensures.value) in
    record { value = number_new c.args.list.now _ c.args.token.now c.args.limit c.as_slice.ensures.value c.len-count.result c.push.new.self c.in_ok-name.name c.in_default.ensures.value c.len-count.ensures.value c.if-count-limit.false c.in_ok-name.ensures.value.0 c.in_ok-name.ensures.value.1 u c.if-not-push.ensures.items }
