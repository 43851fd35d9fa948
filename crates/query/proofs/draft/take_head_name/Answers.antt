use Rattle.std.proofs.Common.{sym}
use Rattle.query.proofs.Taking.{head_long, head_name_taken}
use Rattle.query.proofs.draft.take_head_name.Goals as goal

pub returns-then-token-gt-NAME_MAX : goal.returns-then-token-gt-NAME_MAX
returns-then-token-gt-NAME_MAX c = record { taken = λ cat draft p s. head_long c.args.token.now s.stage (sym c.if-not-is_name.ensures.value) c.if-token-gt-NAME_MAX.true }

pub returns : goal.returns
returns c = record { taken = λ cat draft p s. head_name_taken c.args.token.now s (sym c.if-not-is_name.ensures.value) c.if-token-gt-NAME_MAX.false }
