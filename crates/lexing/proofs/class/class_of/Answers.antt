use Rattle.std.proofs.Common.{◌<◌, rules}
use Rattle.lexing.specs.Classes.{class}
use Rattle.lexing.specs.declared.class.Class.TheVariants.{Lower}
use Rattle.lexing.proofs.Table.{at, classes}
use Rattle.lexing.proofs.class.class_of.Goals as goal

pub returns : goal.returns
unfolding class
returns c = let h : c.args.byte < 256 = search rules in record { value = at class classes Lower tt c.args.byte h }
