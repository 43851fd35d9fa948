-- What an entry stores.
use Rattle.std.proofs.Common.{◌≡◌, ℕ, ◌*◌, ◌≤◌, true, List, length, take, sym, ap, ◌∙◌, arith, mul-le-mul}
use Rattle.std.proofs.lemmas.List.{take_all, length-take-le}
use Rattle.source.specs.Rows.{flat, rows_in}
use Rattle.bounded.specs.Held.{held}
use Rattle.layers.specs.declared.entry.Entry.{Entry}
use Rattle.source.specs.declared.mark.Mark.{Mark}
use Rattle.layers.specs.Entries.{sound}
use Rattle.layers.specs.Memory.{kept}
use Rattle.layers.proofs.Chunking.{flat_rows_in, rows_in_front}

-- the values of the rows, and nothing else
pub stored_values : (e : Entry) → flat (kept e).rows ≡ held e.values
stored_values e = flat_rows_in (length (held e.asked.marks)) e.count (held e.values) ∙ (ap (λ n. take n (held e.values)) (sym e.full) ∙ take_all (length (held e.values)) (held e.values) (omega arith))

-- values cut from a memory are those of as many rows, and of the same rows
module _ (count n columns : ℕ) (values memory : List ℕ) (cut : values ≡ take (count * n) memory) (same : n ≡ columns) where
  pub cut_long : columns ≤ 4 → count ≤ 8 → 32 ≤ length memory → length values ≡ count * columns
  cut_long few rows room =
      let inside : count * n ≤ length memory = omega (arith, mul-le-mul rows few, ap (λ k. count * k) same) in
      ap length cut ∙ (length-take-le (count * n) memory inside ∙ ap (λ k. count * k) same)

  pub cut_rows : rows_in columns count values ≡ rows_in columns count memory
  cut_rows = ap (rows_in columns count) cut ∙ rows_in_front columns count (count * n) memory (omega (arith, ap (λ k. count * k) same))

  pub cut_sound : (marks : List Mark) (inputs : List ℕ) → sound marks inputs (rows_in columns count memory) ≡ true → sound marks inputs (rows_in columns count values) ≡ true
  cut_sound marks inputs s = ap (sound marks inputs) cut_rows ∙ s
