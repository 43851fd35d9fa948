use Rattle.std.proofs.lemmas.Result.{err_from_is_err_and}
use Rattle.query.proofs.Taking.{variable_fits, term_too_many, no_variable_place, in_two_kinds, variable_taken}
use Rattle.query.proofs.draft.Draft.take_variable.Goals as goal

pub returns-in_err-kind : goal.returns-in_err-kind
returns-in_err-kind c = record {
  taken = λ cat p s.
      let e = err_from_is_err_and c.from_residual.result c.from_residual.ensures.1 in
      let due = c.in_err-kind.ensures.due in
      rw (e.1, e.2, due.1) (term_too_many cat c.args.self.now c.args.token.now s (variable_fits c.args.token.now c.requires.form) due.0);
}

pub returns-in_err-number : goal.returns-in_err-number
returns-in_err-number c = record {
  taken = λ cat p s.
      let e = err_from_is_err_and c.from_residual-in_err-number.result c.from_residual-in_err-number.ensures.1 in
      let numbered = c.in_err-number.ensures.numbered in
      rw (e.1, e.2, numbered.0) (no_variable_place cat c.args.self.now c.args.token.now s c.requires.form c.in_ok-kind.ensures.due.0 _ numbered.1);
}

pub returns-then-not-note : goal.returns-then-not-note
returns-then-not-note c = record {
  taken = λ cat p s. in_two_kinds cat c.args.self.now c.args.token.now s c.requires.form c.in_ok-kind.kind c.in_ok-kind.ensures.due c.number_of.new.variables c.in_ok-number.number c.in_ok-number.ensures.numbered c.if-not-note.ensures.agrees;
}

pub returns : goal.returns
returns c = record {
  taken = λ cat p s. variable_taken cat c.args.self.now c.args.token.now s c.requires.form c.in_ok-kind.kind c.in_ok-kind.ensures.due c.number_of.new.variables c.in_ok-number.number c.in_ok-number.ensures.numbered c.note.new.self c.if-not-note.ensures.agrees c.if-not-note.ensures.noted;
}
