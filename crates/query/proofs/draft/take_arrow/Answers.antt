use Rattle.std.proofs.Common.{sym, ◌∙◌}
use Rattle.query.proofs.Taking.{unfit, fits_headed, arrow_taken}
use Rattle.query.proofs.draft.take_arrow.Goals as goal

pub returns-then-not-is_arrow : goal.returns-then-not-is_arrow
returns-then-not-is_arrow c = record { taken = λ cat draft p s. unfit cat p c.args.token.now (fits_headed c.args.token.now s.stage ∙ sym c.if-not-is_arrow.ensures.value) }

pub returns : goal.returns
returns c = record { taken = λ cat draft p s. arrow_taken c.args.token.now s (sym c.if-not-is_arrow.ensures.value) }
