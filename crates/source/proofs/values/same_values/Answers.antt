use Rattle.std.proofs.Common.{◌∙◌}
use Rattle.source.proofs.Rows.{values_pointwise}
use Rattle.source.proofs.values.same_values.Goals as goal

pub returns : goal.returns
returns c = record { value = c.eq.ensures ∙ values_pointwise c.args.a.now c.args.b.now }
