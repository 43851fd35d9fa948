use Rattle.std.proofs.Common.{◌∙◌}
use Rattle.source.proofs.Columns.{marks_pointwise}
use Rattle.source.proofs.values.same_marks.Goals as goal

pub returns : goal.returns
returns c = record { value = c.eq.ensures ∙ marks_pointwise c.args.marks.now c.args.others.now }
