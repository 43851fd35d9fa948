-- A quota over a lawful source is lawful.
use Rattle.std.specs.Prelude.{ℕ, ◌==◌}
use Rattle.std.proofs.Common.{arith}
use Rattle.std.proofs.lemmas.Bool.{cond_both}
use Rattle.faults.specs.declared.refusal.Refusal.TheVariants.{Spent}
use Rattle.source.specs.Meaning.{barred, Meaning, Proper, Lawful, raised_bar}
use Rattle.source.proofs.Calls.{raised_proper}
use Rattle.layers.specs.Limits.{limited}

pub lawful : (units : ℕ) (m : Meaning) → Lawful m → Lawful (limited units m)
lawful units m w = record {
  some_column = w.some_column;
  four_columns = w.four_columns;
  three_given = w.three_given;
  rows_whole = w.rows_whole;
  few_match = w.few_match;
  bars_proper = λ inputs. cond_both (units == 0) (barred Spent 0) (raised_bar (m.bars inputs)) Proper (λ _. (omega arith, omega arith, omega arith)) (λ _. raised_proper (m.bars inputs) (w.bars_proper inputs));
}
