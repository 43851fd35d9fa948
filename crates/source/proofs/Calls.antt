-- What the proof of every source uses of a call.
use Rattle.std.proofs.Common.{◌≡◌, ℕ, Bool, List, None, sym, refl, ap, ◌∙◌, arith}
use Rattle.source.specs.Meaning.{Meaning, Bar, clear, barred, Proper, raised_bar}
use Rattle.source.specs.Calls.{misuse, refusal, bar_fault, earlier, MayBecome, Later}
use Rattle.source.specs.Laws.{AtMost64Rows}

pub refused_by_bar : (m : Meaning) (inputs : List ℕ) (room : ℕ) → misuse m.marks inputs room ≡ None → refusal m inputs room ≡ bar_fault (m.bars inputs)
refused_by_bar m inputs room e = ap (λ f. earlier f (bar_fault (m.bars inputs))) e

pub raised_proper : (b : Bar) → Proper b → Proper (raised_bar b)
raised_proper clear p = tt
raised_proper (barred r layer) p = (p.0, p.1, omega arith)

pub bar_stays : (s : Bool) (b : Bar) → MayBecome s b b
bar_stays s clear = tt
bar_stays s (barred r layer) = tt

pub raised_becomes : (s : Bool) (x y : Bar) → MayBecome s x y → MayBecome s (raised_bar x) (raised_bar y)
raised_becomes s clear clear h = tt
raised_becomes s clear (barred r l) h = h
raised_becomes s (barred r l) clear h = absurd h
raised_becomes s (barred r l) (barred r' l') h = tt

pub later_same : (m : Meaning) → Later m m
later_same m = record { marks = refl; relation = refl; steady = refl; bars = λ inputs. bar_stays m.steady (m.bars inputs) }

pub at_most_64_rows : AtMost64Rows
at_most_64_rows m inputs rows w a = w.few_match inputs rows a.ascends (λ row i. sym (a.exact row) ∙ i)
