use Rattle.std.proofs.Common.{◌≡◌, ◌-◌, length}
use Rattle.ordering.specs.Listed.{places_of}
use Rattle.ordering.proofs.Theorems.{Picked}
use Rattle.ordering.proofs.picking.order.Given as goal

abbrev pub invariant-loop-place : goal.invariant-loop-place
invariant-loop-place g l = (l.search.query.now ≡ l.query) × Picked (g.Q.Conjunction.literals l.query) (places_of l.search.taken)

abbrev pub decreases-loop-place : goal.decreases-loop-place
decreases-loop-place g l = length (g.Q.Conjunction.literals l.query) - length (places_of l.search.taken)
