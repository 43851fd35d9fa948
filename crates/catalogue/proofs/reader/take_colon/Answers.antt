use Rattle.std.proofs.Common.{sym}
use Rattle.catalogue.proofs.Taking.{has_colon}
use Rattle.catalogue.proofs.reader.take_colon.Goals as goal

pub returns : goal.returns
returns c = record { taken = λ r ls n cs k behind. has_colon r c.args.kind c.args.token.now ls n cs k behind (sym c.if-not-is_byte.ensures.value) }
