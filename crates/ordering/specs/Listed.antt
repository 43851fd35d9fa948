-- What an order holds.
use Rattle.std.specs.Prelude.{ℕ, List}
use Rattle.bounded.specs.Held.{held}
use Rattle.ordering.specs.declared.places.Order.{Order}

-- the places, first to last
abbrev pub places_of : Order → List ℕ
places_of order = held order.places
