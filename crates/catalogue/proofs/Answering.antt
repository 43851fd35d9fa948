-- From the reader's way to the answer.
use Rattle.std.proofs.Common.{◌≡◌, ℕ, ◌<◌, true, ◌⊎◌, List, map, length, Ok, Err, refl, ◌∙◌, subst, inl, inr, arith}
use Rattle.faults.specs.declared.refusal.Refusal.{Refusal}
use Rattle.lexing.specs.Grammars.{Accepted, Refused}
use Rattle.bounded.specs.Held.{held}
use Rattle.bounded.proofs.Holding.{length_held}
use Rattle.lexing.specs.Readers.{Outcome, HasRead}
use Rattle.lexing.proofs.Holding.{names_length}
use Rattle.lexing.proofs.Course.{way, one_part, one_refusal, not_both, near, judged, Judged, settled, accepted_so}
use Rattle.std.proofs.lemmas.Bool.{both_ways}
use Rattle.catalogue.specs.Sheets.{Line, Part, lines, columns, spaced, kinded, coloned, whole, kinds_in, sheets}
use Rattle.catalogue.specs.declared.state.Reader.{Reader}
use Rattle.catalogue.specs.Plain.{entry_columns, all_shaped}
use Rattle.catalogue.specs.Reading.{steps, Seen, Tied}
use Rattle.catalogue.proofs.Shaping.{some_there}
use Rattle.catalogue.proofs.Taking.{entries_count}
use Rattle.catalogue.specs.Texts.{OneAnswer}
use Rattle.catalogue.proofs.Laws.{lawful, decoder}

-- a whole part is made of lines
lines_of : (p : Part) → whole p ≡ true → (ls : List Line) × (p ≡ lines ls)
lines_of (lines ls) e = (ls, refl)
lines_of (columns ls n cs) e = absurd (both_ways _ refl e)
lines_of (spaced ls n cs) e = absurd (both_ways _ refl e)
lines_of (kinded ls n cs k) e = absurd (both_ways _ refl e)
lines_of (coloned ls n cs k) e = absurd (both_ways _ refl e)

-- what is read of a whole text
pub record Whole (text : List ℕ) (r : Reader) : Type 0 where
  pub lines_are : List Line
  pub accepted : Accepted sheets text (lines lines_are)
  pub seen : Seen r (kinds_in lines_are) lines_are
  pub count : length (held r.entries) ≡ length lines_are

module _ (text : List ℕ) (r : Reader) (h : HasRead sheets steps Tied text (Ok r)) where
  pub whole_read : Whole text r
  whole_read =
      let a = accepted_so sheets steps lawful text h.1.0 h.1.1 h.0 in
      let l = lines_of h.1.0 a.complete in
      let s : Seen r (kinds_in l.0) l.0 = (subst (Tied r) l.1 h.1.2).1 in
      record { lines_are = l.0; accepted = subst (Accepted sheets text) l.1 a; seen = s; count = entries_count r (kinds_in l.0) l.0 s }

  pub some_read : 0 < r.entries.used
  some_read =
      let w = whole_read in
      let z = some_there w.lines_are w.accepted.complete in
      omega (arith, length_held r.entries, w.count)

  pub shaped_read : all_shaped r.kinds.used (map entry_columns (held r.entries)) ≡ true
  shaped_read = subst (λ (n : ℕ). all_shaped n (map entry_columns (held r.entries)) ≡ true) (names_length r.kinds ∙ length_held r.kinds) whole_read.seen.shaped

pub one_answer : OneAnswer
one_answer = record {
  answered = λ text. go text (settled sheets steps lawful text (way sheets steps lawful text)) (judged sheets steps lawful text);
  one_catalogue = λ text ls ms a b. let e = one_part sheets steps lawful text (lines ls) (lines ms) a b in cc;
  one_refusal = λ text r s p q a b. one_refusal sheets decoder text r s p q a b;
  not_both = λ text ls r p a b. not_both sheets text (lines ls) r p a b;
  near = λ text r p a. near sheets text r p a;
}
  where
    go : (text : List ℕ) (o : Outcome sheets) → Judged sheets steps lawful text o → ((ls : List Line) × Accepted sheets text (lines ls)) ⊎ ((r : Refusal) × (place : ℕ) × Refused sheets text r place)
    go text (Ok p) a = let l = lines_of p a.complete in inl (l.0, subst (Accepted sheets text) l.1 a)
    go text (Err f) a = inr (f.refusal, f.place, a)
