use Rattle.std.proofs.Common.{length, Ok, Err, refl, ap, arith}
use Rattle.std.proofs.lemmas.List.{length_push}
use Rattle.ordering.specs.Answers.{Answered}
use Rattle.ordering.specs.Listed.{places_of}
use Rattle.ordering.proofs.Theorems.{picked_few, picked_first, picked_unordered, only_answer}
use Rattle.ordering.proofs.picking.order.Goals as goal

pub take-requires : goal.take-requires
take-requires g c =
    let picks = rw c.loop-place.invariant.0 at c.in-Some.ensures.picked in
    let more = picked_few c.loop-place.invariant.1 picks in
    record { room = omega (arith, more, (g.met.Q.Conjunction.lawful c.args.query.now).few) }

pub loop-place-smaller : goal.loop-place-smaller
loop-place-smaller g c =
    let picks = rw c.loop-place.invariant.0 at c.in-Some.ensures.picked in
    let more = picked_few c.loop-place.invariant.1 picks in
    omega (arith, more, ap length c.take.ensures.after, length_push (places_of c.loop-place.search.taken) c.in-Some.place)

pub returns-in-Some-lowest_left : goal.returns-in-Some-lowest_left
returns-in-Some-lowest_left g c =
    let q = g.Q.Conjunction.literals c.args.query.now in
    let stuck = rw c.loop-place.invariant.0 at c.in_default.ensures.picked in
    let left = rw c.loop-place.invariant.0 at c.in-Some-lowest_left.ensures.left in
    let refused : Answered q (Err c.at_literal.result) = rw c.at_literal.ensures.value (record { fault_is = refl; unordered = picked_unordered c.loop-place.invariant.1 stuck left }) in
    record { answered = refused; only = only_answer q (Err c.at_literal.result) refused }

pub returns-in-None : goal.returns-in-None
returns-in-None g c =
    let q = g.Q.Conjunction.literals c.args.query.now in
    let all = rw c.loop-place.invariant.0 at c.in-None.ensures.left in
    let first : Answered q (Ok c.loop-place.search.taken) = picked_first c.loop-place.invariant.1 all in
    record { answered = first; only = only_answer q (Ok c.loop-place.search.taken) first }
