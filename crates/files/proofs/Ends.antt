-- The end of a file.
use Rattle.std.proofs.Common.{◌≡◌, ℕ, ◌+◌, ◌<◌, ◌≤◌, List, [], ◌++◌, length, take, drop, sym, ap, ◌∙◌, subst, append-nil, arith, take-append-drop}
use Rattle.std.proofs.lemmas.List.{drop_all}
use Rattle.faults.specs.declared.fault.Fault.{Fault}
use Rattle.faults.specs.declared.refusal.Refusal.TheVariants.{TooManyMatches, BytesLeftOver}
use Rattle.faults.specs.Faults.{placed}
use Rattle.source.specs.declared.mark.Mark.{Mark}
use Rattle.source.specs.Rows.{flat}
use Rattle.numbers.specs.Forms.{encodes}
use Rattle.files.specs.Contents.{header_numbers, numbers, FileOf}
use Rattle.files.specs.Refusing.{Reads, Front, Refuses, Crowded, earlier}
use Rattle.files.specs.Refusing.Refuses.{left_over, crowded}
use Rattle.files.proofs.Reading.{reads_front}
use Rattle.files.proofs.Holding.{flat-++}
use Rattle.files.proofs.Matching.{few_match}
use Rattle.files.proofs.Heads.{told}

-- where the first rows of a file end
pub front_rows : {bytes : List ℕ} {p q s : ℕ} (ms : List Mark) (rows : List (List ℕ)) (i : ℕ) → Reads bytes 0 (numbers ms (length rows) rows) p → q ≡ 0 + length (encodes (header_numbers ms (length rows))) → s ≡ length (encodes (flat (take i rows))) → Reads bytes 0 (numbers ms (length rows) (take i rows)) (q + s)
front_rows {bytes} {p} ms rows i r d f =
    let e : flat rows ≡ flat (take i rows) ++ flat (drop i rows) = ap flat (sym (take-append-drop i rows)) ∙ flat-++ (take i rows) (drop i rows) in
    reads_front (header_numbers ms (length rows)) (flat (take i rows)) (flat (drop i rows)) d f (subst (λ (x : List ℕ). Reads bytes 0 (header_numbers ms (length rows) ++ x) p) e r)

-- nothing is left over
module _ {bytes : List ℕ} {ms : List Mark} {rows : List (List ℕ)} {p : ℕ} (front : Front bytes ms (length rows) rows p) (end : length bytes ≤ p) where
  pub too_crowded : {i q : ℕ} → Crowded ms rows i → Reads bytes 0 (numbers ms (length rows) (take i rows)) q → Refuses bytes (placed TooManyMatches q)
  too_crowded w r =
      let z : p ≡ length bytes = omega (arith, front.reads.inside) in
      crowded (subst (λ (x : ℕ). Front bytes ms (length rows) rows x) z front) w r

  pub file_held : ((j : ℕ) → j < length rows → length (earlier ms rows j) < 64) → FileOf bytes ms rows
  file_held u = record {
    storable = record { header = front.header; rows_whole = front.rows_whole; ascends = front.ascends; few_match = few_match ms rows u };
    bytes_are = front.reads.bytes_are ∙ rw (drop_all p bytes end) (append-nil (encodes (numbers ms (length rows) rows)));
  }

-- the rows are as many as the header says
module _ {bytes : List ℕ} {ms : List Mark} {n p : ℕ} (rows : List (List ℕ)) (all : length rows ≡ n) (front : Front bytes ms n rows p) where
  all_rows : Front bytes ms (length rows) rows p
  all_rows = subst (λ (x : ℕ). Front bytes ms x rows p) (sym all) front

  pub over : {fault : Fault} → p < length bytes → fault ≡ placed BytesLeftOver p → Refuses bytes fault
  over h e = told e (left_over all_rows h)

  pub full : {fault : Fault} (i s q : ℕ) → length bytes ≤ p → Front bytes ms n [] q → Crowded ms rows i → s ≡ length (encodes (flat (take i rows))) → fault ≡ placed TooManyMatches (q + s) → Refuses bytes fault
  full i s q h g w e t =
      let d : q ≡ 0 + length (encodes (header_numbers ms (length rows))) = rw all g.reads.place in
      told t (too_crowded all_rows h w (front_rows ms rows i all_rows.reads d e))

  pub holds : length bytes ≤ p → ((j : ℕ) → j < length rows → length (earlier ms rows j) < 64) → FileOf bytes ms rows
  holds h u = file_held all_rows h u
