-- What a bounded list holds.
use Rattle.std.specs.Prelude.{ℕ, List, take}
use Rattle.bounded.specs.declared.list.Bounded.{Bounded}

-- its items, first to last
abbrev pub held : {X : Type 0} {n : ℕ} → Bounded X n → List X
held l = take l.used l.items
