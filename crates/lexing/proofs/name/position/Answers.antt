use Rattle.std.proofs.Common.{rules, ◌∙◌}
use borrow.Author.Tests.{tests}
use Rattle.std.specs.Str.{bytes_eq}
use Rattle.std.proofs.lemmas.Iterator.{YieldsList-from_slice}
use Rattle.std.proofs.lemmas.Iterator.Search.{position_from_yields_List}
use Rattle.lexing.proofs.Naming.{place_position}
use Rattle.lexing.proofs.name.position.Goals as goal

pub returns : goal.returns
returns g c = record {
  value = position_from_yields_List (λ x. bytes_eq c.args.name.now (g.T.Named.name_of x)) _ _ c.position.result c.position.ensures.ran (YieldsList-from_slice c.args.list.now cc) (λ x b q k. search (rules, tests))
      ∙ place_position g.T.Named.name_of c.args.name.now c.args.list.now;
}
