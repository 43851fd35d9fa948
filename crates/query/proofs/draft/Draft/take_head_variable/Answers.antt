use Rattle.std.proofs.Common.{sym, ltb-true, ltb-false}
use Rattle.std.proofs.lemmas.Result.{err_from_is_err_and}
use Rattle.query.proofs.Taking.{no_head_place, fifth, head_taken}
use Rattle.query.proofs.draft.Draft.take_head_variable.Goals as goal

pub returns-in_err-number : goal.returns-in_err-number
returns-in_err-number c = record {
  taken = λ cat p s.
      let e = err_from_is_err_and c.from_residual.result c.from_residual.ensures.1 in
      let numbered = c.in_err-number.ensures.numbered in
      rw (e.1, e.2, numbered.0) (no_head_place cat c.args.self.now c.args.token.now (sym c.if-not-is_variable.ensures.value) _ s numbered.1);
}

pub returns-then-not-push : goal.returns-then-not-push
returns-then-not-push c = record {
  taken = λ cat p s. fifth cat c.args.self.now c.args.token.now (sym c.if-not-is_variable.ensures.value) s (ltb-false _ _ (sym c.if-not-push.ensures.room));
}

pub returns : goal.returns
returns c = record {
  taken = λ cat p s. head_taken cat c.args.self.now c.args.token.now (sym c.if-not-is_variable.ensures.value) c.number_of.new.variables c.in_ok-number.number c.push.new.self s c.in_ok-number.ensures.numbered (ltb-true _ _ (sym c.if-not-push.ensures.room)) c.if-not-push.ensures.items;
}
