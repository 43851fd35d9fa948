-- What the stranger's end and layer mean.
use Rattle.std.specs.Prelude.{ℕ, true, cond, [], ◌∷◌}
use Rattle.faults.specs.declared.refusal.Refusal.TheVariants.{Unverified}
use Rattle.source.specs.declared.mark.Mark.TheVariants.{Given, Free}
use Rattle.source.specs.Rows.{same}
use Rattle.source.specs.Meaning.{Meaning, clear, barred, raised_bar}

-- one row, and one key that is barred
abbrev pub sealed_row : ℕ → ℕ → ℕ → Meaning
sealed_row key value broken = record {
  marks = Given ∷ Free ∷ [];
  relation = λ row. same row (key ∷ value ∷ []);
  bars = λ inputs. cond (same inputs (broken ∷ [])) (barred Unverified 0) clear;
  steady = true;
}

-- the source below, one layer further
abbrev pub passed_on : Meaning → Meaning
passed_on m = record { marks = m.marks; relation = m.relation; bars = λ inputs. raised_bar (m.bars inputs); steady = m.steady }
