use Rattle.std.proofs.Common.{take}
use Rattle.ordering.specs.Picking.{Binds}
use Rattle.ordering.proofs.bound_variables.BoundVariables.bind.Given as goal

abbrev pub invariant-loop-term : goal.invariant-loop-term
invariant-loop-term l = Binds (take l.term-index l.terms) l.initial.self.cells l.self.cells
