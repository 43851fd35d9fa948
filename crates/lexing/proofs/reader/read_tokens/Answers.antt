use Rattle.std.proofs.lemmas.Result.{err_from_is_err_and}
use Rattle.lexing.specs.Left.{placed_token}
use Rattle.lexing.proofs.Turns.{taken, refused, ends_whole, ends_short}
use Rattle.lexing.proofs.reader.read_tokens.Goals as goal

pub loop-token-preserved : goal.loop-token-preserved
loop-token-preserved g c =
    (tt, tt, λ x s. taken (g.R.TokenReader.grammar x) (g.R.TokenReader.steps x) (g.R.TokenReader.StandsBehind x) c.args.text.now c.loop-token.reader _ _ (placed_token c.in-Some.token) (c.loop-token.invariant.2 x s) c.in-Some.ensures.steps (c.if-passes_over.ensures.value x) c.take_placed.new.reader tt (c.in_ok-take_placed.ensures.taken x))

pub returns-in_err-take_placed : goal.returns-in_err-take_placed
returns-in_err-take_placed g c = record {
  gone = λ x s.
      let p = err_from_is_err_and c.from_residual.result c.from_residual.ensures.1 in
      rw (p.1, p.2) (refused (g.R.TokenReader.grammar x) (g.R.TokenReader.steps x) (g.R.TokenReader.StandsBehind x) c.args.text.now c.loop-token.reader _ _ (placed_token c.in-Some.token) (c.loop-token.invariant.2 x s) c.in-Some.ensures.steps (c.if-passes_over.ensures.value x) c.take_placed.new.reader c.in_err-take_placed.field-0.0 (c.in_err-take_placed.ensures.taken x));
}

pub returns-then-not-is_whole : goal.returns-then-not-is_whole
returns-then-not-is_whole g c = record {
  gone = λ x s. ends_short (g.R.TokenReader.grammar x) (g.R.TokenReader.steps x) (g.R.TokenReader.StandsBehind x) c.args.text.now c.loop-token.reader _ (c.loop-token.invariant.2 x s) c.in-None.ensures.steps.0 c.form.result (c.form.ensures.value x) (c.if-not-is_whole.ensures.value x);
}

pub returns : goal.returns
returns g c = record {
  gone = λ x s. ends_whole (g.R.TokenReader.grammar x) (g.R.TokenReader.steps x) (g.R.TokenReader.StandsBehind x) c.args.text.now c.loop-token.reader _ (c.loop-token.invariant.2 x s) c.in-None.ensures.steps.0 (c.if-not-is_whole.ensures.value x);
}
