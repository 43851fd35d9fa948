-- How many items a bounded list holds, and what a push adds.
use Rattle.std.proofs.Common.{◌≡◌, ℕ, ◌<◌, ◌≤◌, Bool, cond, ltb, [], ◌∷◌, ◌++◌, length, refl, ◌∙◌, arith, lt-ltb}
use Rattle.std.proofs.lemmas.List.{length-take-le}
use Rattle.bounded.specs.declared.list.Bounded.{Bounded}
use Rattle.bounded.specs.Held.{held}

pub length_held : {X : Type 0} {n : ℕ} (l : Bounded X n) → length (held l) ≡ l.used
length_held l = length-take-le l.used l.items (omega (arith, l.room, l.within))

pub length_most : {X : Type 0} {n : ℕ} (l : Bounded X n) → length (held l) ≤ n
length_most l = omega (arith, length_held l, l.within)

-- where there is room, a push adds
pub pushed : {X : Type 0} {n : ℕ} (old new : Bounded X n) (x : X) (b : Bool) → b ≡ ltb old.used n → held new ≡ cond b (held old ++ x ∷ []) (held old) → length (held old) < n → held new ≡ held old ++ x ∷ []
pushed {n = n} old new x b e f h = f ∙ rw (e ∙ lt-ltb old.used n (omega (arith, length_held old))) refl
