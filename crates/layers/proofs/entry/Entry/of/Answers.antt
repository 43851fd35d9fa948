use Rattle.std.proofs.Common.{length}
use Rattle.bounded.specs.Held.{held}
use Rattle.bounded.proofs.Holding.{length_most}
use Rattle.layers.proofs.Storing.{cut_long}
use Rattle.layers.proofs.entry.Entry.of.Goals as goal

pub invariant_of-result-clause-full : goal.invariant_of-result-clause-full
invariant_of-result-clause-full c = cut_long c.args.count c.len.result (length (held c.args.asked.marks)) (held c.unwrap.result) c.args.memory.now (rw c.unwrap.ensures at c.from_slice.ensures.value).1 c.len.ensures.value (length_most c.args.asked.marks) c.requires.count c.requires.room
