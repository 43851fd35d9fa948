-- What ordering answers.
use Rattle.std.specs.Prelude.{◌≡◌, List, Ok, Err, Result}
use Rattle.faults.specs.declared.fault.Fault.{Fault}
use Rattle.faults.specs.declared.refusal.Refusal.TheVariants.{NoExecutableOrder}
use Rattle.faults.specs.Faults.{at_literal}
use Rattle.ordering.specs.declared.places.Order.{Order}
use Rattle.ordering.specs.Listed.{places_of}
use Rattle.ordering.specs.Literals.{Literal}
use Rattle.ordering.specs.Orders.{First, Unordered}

-- 17, and nothing else is known but the place of the literal: the lowest that lies in no executable order of any selection
pub record Refused (literals : List Literal) (fault : Fault) : Type 0 where
  pub fault_is : fault ≡ at_literal NoExecutableOrder fault.literal
  pub unordered : Unordered literals fault.literal

-- the first executable order of all literals where there is one, and a refusal where there is none
abbrev pub Answered : List Literal → Result Order Fault → Type 0
Answered literals (Ok order) = First literals (places_of order)
Answered literals (Err fault) = Refused literals fault

-- the same places in the same order, or the same fault
abbrev pub SameAnswer : Result Order Fault → Result Order Fault → Type 0
SameAnswer (Ok order) (Ok other) = places_of order ≡ places_of other
SameAnswer (Ok order) (Err fault) = ⊥
SameAnswer (Err fault) (Ok order) = ⊥
SameAnswer (Err fault) (Err other) = fault ≡ other

-- no other answer is right
abbrev pub Only : List Literal → Result Order Fault → Type 0
Only literals answer = (other : Result Order Fault) → Answered literals other → SameAnswer answer other
