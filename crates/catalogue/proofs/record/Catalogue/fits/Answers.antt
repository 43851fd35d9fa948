use Rattle.std.proofs.Common.{length, sym, ap, ◌∙◌, rules, arith}
use borrow.Author.Tests.{tests}
use Rattle.std.proofs.lemmas.Iterator.{YieldsList-from_slice}
use Rattle.std.proofs.lemmas.Iterator.Consumers.{YieldsList-from_enumerate}
use Rattle.std.proofs.lemmas.Iterator.Search.{all_from_yields_List}
use Rattle.std.proofs.lemmas.List.{length-map}
use Rattle.bounded.specs.Held.{held}
use Rattle.bounded.proofs.Holding.{length_most}
use Rattle.catalogue.specs.Plain.{entry_columns}
use Rattle.catalogue.specs.Records.{source_columns}
use Rattle.catalogue.proofs.Comparing.{uneven_told, even_told, compared, all_compared}
use Rattle.catalogue.proofs.record.Catalogue.fits.Goals as goal

pub returns-then-from-entries : goal.returns-then-from-entries
returns-then-from-entries g c =
    let es = held c.args.self.now.entries in
    let n = length-map es entry_columns in
    let z = ap length c.as_slice-entries.ensures.value in
    let few = length_most c.args.self.now.entries in
    record { value = uneven_told (source_columns c.args.self.now) (g.R.Rack.meanings c.args.rack.now) c.count.result c.count.ensures.value (omega arith) (λ e. c.if-from-entries.true (c.from.ensures ∙ e ∙ n ∙ sym z)) }

pub returns : goal.returns
returns g c =
    let es = held c.args.self.now.entries in
    let n = length-map es entry_columns in
    let z = ap length c.as_slice-entries.ensures.value in
    let few = length_most c.args.self.now.entries in
    let even = even_told (source_columns c.args.self.now) (g.R.Rack.meanings c.args.rack.now) c.count.result c.count.ensures.value (omega arith) (sym c.from.ensures ∙ c.if-from-entries.false ∙ z ∙ sym n) in
    let every = all_from_yields_List (compared (g.R.Rack.meanings c.args.rack.now)) _ _ c.all.result c.all.ensures.ran (YieldsList-from_enumerate (YieldsList-from_slice es (cc)) c.enumerate.ensures.count) (λ x b q k. search (rules, tests)) in
    record { value = every ∙ all_compared es (g.R.Rack.meanings c.args.rack.now) even }
