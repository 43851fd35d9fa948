use Rattle.std.proofs.lemmas.Result.{err_from_is_err_and}
use Rattle.query.proofs.Spelling.{constant_digits}
use Rattle.query.proofs.Taking.{refusal_from_ok_or, constant_fits, term_too_many, too_large, constant_taken}
use Rattle.query.proofs.draft.Draft.take_constant.Goals as goal

pub returns-in_err-kind_due : goal.returns-in_err-kind_due
returns-in_err-kind_due c = record {
  taken = λ cat p s.
      let e = err_from_is_err_and c.from_residual.result c.from_residual.ensures.1 in
      let due = c.in_err-kind_due.ensures.due in
      rw (e.1, e.2, due.1) (term_too_many cat c.args.self.now c.args.token.now s (constant_fits c.args.token.now c.requires.form) due.0);
}

pub constant_of-requires : goal.constant_of-requires
constant_of-requires c = record { digits = constant_digits _ c.requires.form }

pub returns-in_err-value : goal.returns-in_err-value
returns-in_err-value c = record {
  taken = λ cat p s.
      let e = err_from_is_err_and c.from_residual-in_err-value.result c.from_residual-in_err-value.ensures.1 in
      rw (e.1, e.2, refusal_from_ok_or c.constant_of.result _ _ c.in_err-value.ensures.value)
      (too_large cat c.args.self.now c.args.token.now s c.requires.form c.in_ok-kind_due.ensures.due.0 (rw c.in_err-value.ensures.ok_part at c.constant_of.ensures.value));
}

pub returns : goal.returns
returns c = record {
  taken = λ cat p s.
      let v = rw c.in_ok-value.ensures.ok_part at c.constant_of.ensures.value in
      constant_taken cat c.args.self.now c.args.token.now s c.requires.form c.in_ok-kind_due.ensures.due.0 c.in_ok-value.value v.0 v.1;
}
