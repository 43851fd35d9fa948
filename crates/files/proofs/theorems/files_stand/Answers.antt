use Rattle.std.proofs.Common.{sym, refl, ◌∙◌}
use Rattle.files.specs.Contents.{FileOf, file}
use Rattle.files.proofs.Exact.{one_content, one_fault, not_both}
use Rattle.files.proofs.Answering.{always_answered}
use Rattle.files.proofs.Storing.{table_storable, cells_hold_rows, one_reason, fit_or_not}
use Rattle.files.proofs.theorems.files_stand.Goals as goal

pub returns : goal.returns
returns c = record {
  file = λ bytes bytes' ms rows g h. g.bytes_are ∙ sym h.bytes_are;
  content = one_content;
  both = not_both;
  fault = one_fault;
  answered = always_answered;
  opens = λ ms rows s.
      let h : FileOf (file ms rows) ms rows = record { storable = s; bytes_are = refl } in
      (h, (λ ms' rows' g. one_content _ ms' ms rows' rows g h), (λ f r. not_both _ ms rows f h r));
  storable = table_storable;
  cells = cells_hold_rows;
  reason = one_reason;
  fit = fit_or_not;
}
