use Rattle.std.proofs.Common.{sym, ◌∙◌}
use Rattle.query.proofs.Taking.{unfit, fits_named, open_taken}
use Rattle.query.proofs.draft.take_open.Goals as goal

pub returns-then-not-is_byte : goal.returns-then-not-is_byte
returns-then-not-is_byte c = record { taken = λ cat draft p s. unfit cat p c.args.token.now (fits_named c.args.token.now s.stage ∙ sym c.if-not-is_byte.ensures.value) }

pub returns : goal.returns
returns c = record { taken = λ cat draft p s. open_taken c.args.token.now s (sym c.if-not-is_byte.ensures.value) }
