use Rattle.std.proofs.Common.{sym, refl, ◌∙◌}
use Rattle.query.proofs.Taking.{unfit, fits_closed, closed_comma, closed_dot}
use Rattle.query.proofs.draft.take_closed.Goals as goal

pub returns-then-is_byte : goal.returns-then-is_byte
returns-then-is_byte c = record { taken = λ cat draft p s. closed_comma c.args.token.now s (sym c.if-is_byte.ensures.value) }

pub returns-then-is_byte-2 : goal.returns-then-is_byte-2
returns-then-is_byte-2 c = record { taken = λ cat draft p s. closed_dot c.args.token.now s (sym c.if-is_byte.ensures.value) (sym c.if-is_byte-2.ensures.value) }

pub returns : goal.returns
returns c = record { taken = λ cat draft p s. unfit cat p c.args.token.now (fits_closed c.args.token.now s.stage ∙ rw (sym c.if-is_byte.ensures.value, sym c.if-is_byte-2.ensures.value) refl) }
