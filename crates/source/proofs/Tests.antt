-- Tests that decide the same fact.
use Rattle.std.proofs.Common.{◌≡◌, Bool, true, false, Decides, sym, refl}

pub deciders_agree : {P : Type 0} (a b : Bool) → Decides a P → Decides b P → a ≡ b
deciders_agree true b p q = sym (q.1 (p.0 refl))
deciders_agree false true p q = p.1 (q.0 refl)
deciders_agree false false p q = refl
