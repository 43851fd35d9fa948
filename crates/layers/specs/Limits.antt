-- What a quota means.
use Rattle.std.specs.Prelude.{ℕ, false, cond, ◌==◌}
use Rattle.faults.specs.declared.refusal.Refusal.TheVariants.{Spent}
use Rattle.source.specs.Meaning.{barred, Meaning, raised_bar}

-- without a unit left, the quota itself bars all inputs; else the bars are those below; never steady
abbrev pub limited : ℕ → Meaning → Meaning
limited units m = record { marks = m.marks; relation = m.relation; bars = λ inputs. cond (units == 0) (barred Spent 0) (raised_bar (m.bars inputs)); steady = false }

-- the most units that a quota holds
abbrev pub units_max : ℕ
units_max = 1000000
