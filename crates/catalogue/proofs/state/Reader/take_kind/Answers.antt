use Rattle.std.proofs.Common.{sym, subst, arith}
use Rattle.lexing.specs.Lists.{names, Numbered}
use Rattle.catalogue.proofs.Taking.{was_some, fifth, has_kind}
use Rattle.catalogue.proofs.state.Reader.take_kind.Goals as goal

pub returns-then-len-ge-COLUMNS_MAX : goal.returns-then-len-ge-COLUMNS_MAX
returns-then-len-ge-COLUMNS_MAX c = record { taken = λ ls n cs behind. fifth c.args.self.now c.args.token.now ls n cs behind (sym c.if-not-is_name.ensures.value) (omega arith) }

pub returns : goal.returns
returns c =
    let q = subst (Numbered (names c.args.self.now.kinds) (names c.number_in.new.list) c.args.token.now 16) (was_some c.number_in.result _ _ c.in_ok-kind.ensures.value) c.number_in.ensures.value in
    record { taken = λ ls n cs behind. has_kind c.args.self.now c.args.token.now ls n cs behind (sym c.if-not-is_name.ensures.value) c.number_in.new.list c.in_ok-kind.kind (omega arith) q }
