use lib.ListN.{length-replicate}
use Rattle.std.proofs.Common.{arith}
use Rattle.bounded.proofs.list.Bounded.new.Goals as goal

pub invariant_of-result : goal.invariant_of-result
invariant_of-result g c = record { room = length-replicate g.row.N c.args.filler; within = omega arith }
