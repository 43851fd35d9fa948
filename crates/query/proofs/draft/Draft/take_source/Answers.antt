use Rattle.std.proofs.Common.{sym, ◌∙◌, rules}
use Rattle.std.proofs.lemmas.Result.{err_from_is_err_and}
use Rattle.query.proofs.Taking.{refusal_from_ok_or, no_source, ninth, source_taken, source_small}
use Rattle.query.proofs.draft.Draft.take_source.Goals as goal

pub returns-in_err-source : goal.returns-in_err-source
returns-in_err-source c = record {
  taken = λ cat p s.
      let e = err_from_is_err_and c.from_residual.result c.from_residual.ensures.1 in
      rw (e.1, e.2, refusal_from_ok_or c.find_source.result _ _ c.in_err-source.ensures.value) (no_source cat c.args.self.now c.args.token.now s (sym c.if-not-is_name.ensures.value) (sym c.find_source.ensures.value ∙ c.in_err-source.ensures.ok_part));
}

pub returns-then-len-ge-LITERAL_MAX : goal.returns-then-len-ge-LITERAL_MAX
returns-then-len-ge-LITERAL_MAX c = record {
  taken = λ cat p s. ninth cat c.args.self.now c.args.token.now c.in_ok-source.source (sym c.find_source.ensures.value ∙ c.in_ok-source.ensures.ok_part) (sym c.if-not-is_name.ensures.value) c.len.result c.len.ensures.value s c.if-len-ge-LITERAL_MAX.true;
}

pub overflow_cast-source : goal.overflow_cast-source
overflow_cast-source c = let h = source_small c.args.self.now.catalogue.now c.args.token.now c.in_ok-source.source (sym c.find_source.ensures.value ∙ c.in_ok-source.ensures.ok_part) in search rules

pub returns : goal.returns
returns c = record {
  taken = λ cat p s. source_taken cat c.args.self.now c.args.token.now c.in_ok-source.source (sym c.find_source.ensures.value ∙ c.in_ok-source.ensures.ok_part) (sym c.if-not-is_name.ensures.value) c.len.result c.len.ensures.value c.new-self.result s c.if-len-ge-LITERAL_MAX.false c.new-self.ensures.source c.new-self.ensures.none;
}
