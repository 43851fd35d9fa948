use Rattle.std.proofs.Common.{arith}
use Rattle.numbers.proofs.Filling.{put_last, put_more}
use Rattle.numbers.proofs.writing.+put_groups.Goals as goal

pub returns-then-value-lt-GROUP : goal.returns-then-value-lt-GROUP
returns-then-value-lt-GROUP t c = put_last _ _ _ _ c.in-Some.ensures.cases.0 c.if-value-lt-GROUP.true

pub returns-else-value-lt-GROUP : goal.returns-else-value-lt-GROUP
returns-else-value-lt-GROUP t c = put_more _ _ _ _ _ c.in-Some.ensures.cases.0 c.if-value-lt-GROUP.false (omega arith) c.put_groups.ensures
