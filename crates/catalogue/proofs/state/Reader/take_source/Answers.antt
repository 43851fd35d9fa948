use Rattle.std.proofs.Common.{List, map, length, sym, ap, ◌∙◌, arith}
use Rattle.std.proofs.lemmas.Option.{MatchOption-at_some}
use Rattle.lexing.specs.Names.{place_of}
use Rattle.catalogue.specs.declared.columns.Entry.{Entry}
use Rattle.catalogue.specs.Plain.{entry_name}
use Rattle.catalogue.proofs.Taking.{was_some, begins_line}
use Rattle.catalogue.proofs.state.Reader.take_source.Goals as goal

pub returns : goal.returns
returns c =
    let n = MatchOption-at_some _ _ _ (was_some c.to_name.result _ _ c.in_ok-name.ensures.value) c.to_name.ensures.value in
    let z = ap length c.as_slice-entries.ensures.value in
    record {
      taken = λ ls s. begins_line c.args.self.now c.args.token.now ls s (sym c.if-not-is_name.ensures.value) n.0 (omega arith) c.position.result (c.position.ensures.value ∙ ap (λ (l : List Entry). place_of c.args.token.now (map entry_name l)) c.as_slice-entries.ensures.value) (sym c.if-is_some.ensures) _ n.1 c.new-columns.ensures.kinds c.new-columns.ensures.marks;
    }
