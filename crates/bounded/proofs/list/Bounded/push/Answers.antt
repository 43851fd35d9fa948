use Rattle.std.proofs.Common.{◌<◌, length, sym, refl, arith, lt-ltb}
use Rattle.std.proofs.lemmas.List.{take_more_set}
use Rattle.bounded.proofs.list.Bounded.push.Goals as goal

pub returns-then-self : goal.returns-then-self
returns-then-self g c =
    let h : c.args.self.now.used < length c.args.self.now.items = omega arith in
    record { room = sym (lt-ltb _ _ c.if-self.true); items = take_more_set _ _ _ h; count = refl }
