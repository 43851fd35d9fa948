use Rattle.std.proofs.Common.{ℕ, length, ap, ◌∙◌, arith}
use Rattle.catalogue.specs.Records.{columns_of}
use Rattle.query.proofs.Taking.{closed_early, literal_closed}
use Rattle.query.proofs.draft.Draft.take_end.Goals as goal

pub returns-then-len-kinds : goal.returns-then-len-kinds
returns-then-len-kinds c = record {
  taken = λ cat p t form s.
      let e = ap length (c.kinds-kinds.ensures.value ∙ ap (λ (i : ℕ). (columns_of c.args.self.now.catalogue.now i).kinds) c.from.ensures) in
      closed_early cat c.args.self.now t form s (omega arith);
}

pub returns : goal.returns
returns c = record {
  taken = λ cat p t form s.
      let e = ap length (c.kinds-kinds.ensures.value ∙ ap (λ (i : ℕ). (columns_of c.args.self.now.catalogue.now i).kinds) c.from.ensures) in
      literal_closed cat c.args.self.now t form c.push.new.self c.push.result s (omega arith) c.push.ensures.room c.push.ensures.items;
}
