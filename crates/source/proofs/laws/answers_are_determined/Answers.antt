use Rattle.source.proofs.Unique.{one_answer}
use Rattle.source.proofs.Calls.{at_most_64_rows}
use Rattle.source.proofs.laws.answers_are_determined.Goals as goal

pub returns : goal.returns
returns c = record { one = one_answer; few = at_most_64_rows }
