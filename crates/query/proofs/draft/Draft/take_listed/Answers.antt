use Rattle.std.proofs.Common.{sym, refl, ◌∙◌}
use Rattle.query.proofs.Taking.{unfit, fits_listed, listed_comma, head_closed}
use Rattle.query.proofs.draft.Draft.take_listed.Goals as goal

pub returns-then-is_byte : goal.returns-then-is_byte
returns-then-is_byte c = record { taken = λ cat p s. listed_comma c.args.token.now s (sym c.if-is_byte.ensures.value) }

pub returns-then-not-is_byte : goal.returns-then-not-is_byte
returns-then-not-is_byte c = record { taken = λ cat p s. unfit cat p c.args.token.now (fits_listed c.args.token.now s.stage ∙ rw (sym c.if-is_byte.ensures.value, sym c.if-not-is_byte.ensures.value) refl) }

pub returns-in-Head : goal.returns-in-Head
returns-in-Head c = record { taken = λ cat p s. head_closed c.args.token.now (rw c.in-Head.is at s) (sym c.if-not-is_byte.ensures.value) }
