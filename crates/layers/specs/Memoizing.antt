-- A memo over a lawful source is lawful.
use Rattle.std.specs.Prelude.{◌≡◌, ℕ, ◌≤◌, Bool, true, false, cond, ◌&&◌, List, [], ◌∷◌, map, length, take, Some, None, vec_items, Option, nat_le, refl}
use Rattle.std.proofs.Common.{sym, ap, ◌∙◌, subst, inl, inr, arith}
use Rattle.std.proofs.lemmas.Bool.{and_parts, and_from, or_cases, leb-true, false≢true}
use Rattle.source.specs.declared.mark.Mark.{Mark}
use Rattle.source.specs.Rows.{same, is_in, ascending}
use Rattle.source.specs.Marks.{picked, matches, whole, same_marks, all_whole}
use Rattle.source.specs.Meaning.{Meaning, Lawful, wanted, Proper}
use Rattle.source.proofs.Rows.{same_eq}
use Rattle.source.proofs.Matching.{each_whole}
use Rattle.source.proofs.Unique.{within_no_longer}
use Rattle.source.proofs.Columns.{same_marks_eq}
use Rattle.source.proofs.Calls.{raised_proper}
use Rattle.layers.specs.declared.entry.Entry.{Entry}
use Rattle.layers.specs.declared.table.Table.{Table}
use Rattle.layers.specs.Entries.{all_match, sound}
use Rattle.layers.specs.Memory.{Remembered, kept, kept_all, is_for, recalled, related, recalled_bar, memoized}

-- Rows that may be remembered.

each_match : (marks : List Mark) (inputs : List ℕ) (rows : List (List ℕ)) → all_match marks inputs rows ≡ true → (row : List ℕ) → is_in row rows ≡ true → matches marks inputs row ≡ true
each_match marks inputs [] w row i = absurd (false≢true i)
each_match marks inputs (r ∷ rs) w row i =
    let p = and_parts (matches marks inputs r) (all_match marks inputs rs) w in
    elim (or_cases (same row r) (is_in row rs) i) [ inl e ↦ subst (λ z. matches marks inputs z ≡ true) (sym (same_eq row r e)) p.0 | inr m ↦ each_match marks inputs rs p.1 row m ]

pub record Sound (marks : List Mark) (inputs : List ℕ) (rows : List (List ℕ)) : Type 0 where
  pub eight_rows : length rows ≤ 8
  pub ascends : ascending rows ≡ true
  pub wholes : (row : List ℕ) → is_in row rows ≡ true → whole marks row ≡ true
  pub hold : (row : List ℕ) → is_in row rows ≡ true → matches marks inputs row ≡ true

sound_parts : (marks : List Mark) (inputs : List ℕ) (rows : List (List ℕ)) → sound marks inputs rows ≡ true → Sound marks inputs rows
sound_parts marks inputs rows s =
    let p = and_parts (nat_le (length rows) 8 && ascending rows) (all_whole marks rows && all_match marks inputs rows) s in
    let q = and_parts (nat_le (length rows) 8) (ascending rows) p.0 in
    let r = and_parts (all_whole marks rows) (all_match marks inputs rows) p.1 in
    record { eight_rows = leb-true (length rows) 8 q.0; ascends = q.1; wholes = each_whole marks rows r.0; hold = each_match marks inputs rows r.1 }

abbrev pub AllSound : List Remembered → Type 0
AllSound [] = Unit {0}
AllSound (e ∷ es) = (sound e.marks e.inputs e.rows ≡ true) × AllSound es

entries_sound : (entries : List Entry) → AllSound (map kept entries)
entries_sound [] = tt
entries_sound (e ∷ es) = (e.sound, entries_sound es)

pub table_sound : (t : Table) → AllSound (kept_all t)
table_sound t = entries_sound (take t.used (vec_items t.entries))

pub recalled_sound : (es : List Remembered) (marks : List Mark) (inputs : List ℕ) (rows : List (List ℕ)) → AllSound es → recalled es marks inputs ≡ Some rows → Sound marks inputs rows
recalled_sound [] marks inputs rows a h = cc
recalled_sound (e ∷ es) marks inputs rows a h = go (is_for e marks inputs) refl h (recalled_sound es marks inputs rows a.1)
  where
    go : (b : Bool) → is_for e marks inputs ≡ b → cond b (Some e.rows) (recalled es marks inputs) ≡ Some rows → (recalled es marks inputs ≡ Some rows → Sound marks inputs rows) → Sound marks inputs rows
    go true f h ih =
        let p = and_parts (same_marks e.marks marks) (same e.inputs inputs) f in
        let m = same_marks_eq e.marks marks p.0 in
        let i = same_eq e.inputs inputs p.1 in
        let r : e.rows ≡ rows = cc in
        sound_parts marks inputs rows (subst (λ z. sound marks inputs z ≡ true) r (subst (λ z. sound marks z e.rows ≡ true) i (subst (λ z. sound z e.inputs e.rows ≡ true) m a.0)))
    go false f h ih = ih h

-- The law.

module _ (es : List Remembered) (m : Meaning) (a : AllSound es) (w : Lawful m) where
  whole_rows : (row : List ℕ) → (memoized es m).relation row ≡ true → whole m.marks row ≡ true
  whole_rows row h = go (recalled es m.marks (picked m.marks row)) refl h
    where
      go : (o : Option (List (List ℕ))) → recalled es m.marks (picked m.marks row) ≡ o → related o (m.relation row) row ≡ true → whole m.marks row ≡ true
      go (Some rows) e h = (recalled_sound es m.marks (picked m.marks row) rows a e).wholes row h
      go None e h = w.rows_whole row h

  few_rows : (inputs : List ℕ) (xs : List (List ℕ)) → ascending xs ≡ true → ((row : List ℕ) → is_in row xs ≡ true → wanted (memoized es m) inputs row ≡ true) → length xs ≤ 64
  few_rows inputs xs s f = go (recalled es m.marks inputs) refl
    where
      part : (row : List ℕ) (o : Option (List (List ℕ))) → recalled es m.marks inputs ≡ o → is_in row xs ≡ true → (matches m.marks inputs row ≡ true) × (related o (m.relation row) row ≡ true)
      part row o e i =
          let p = and_parts (matches m.marks inputs row) ((memoized es m).relation row) (f row i) in
          let same_inputs = same_eq (picked m.marks row) inputs p.0 in
          (p.0, subst (λ z. related z (m.relation row) row ≡ true) (ap (recalled es m.marks) same_inputs ∙ e) p.1)

      go : (o : Option (List (List ℕ))) → recalled es m.marks inputs ≡ o → length xs ≤ 64
      go (Some rows) e =
          let r = recalled_sound es m.marks inputs rows a e in
          omega (arith, r.eight_rows, within_no_longer xs rows s r.ascends (λ row i. (part row (Some rows) e i).1))
      go None e = w.few_match inputs xs s (λ row i. let p = part row None e i in and_from (matches m.marks inputs row) (m.relation row) p.0 p.1)

  proper : (inputs : List ℕ) → Proper ((memoized es m).bars inputs)
  proper inputs = go (recalled es m.marks inputs)
    where
      go : (o : Option (List (List ℕ))) → Proper (recalled_bar o (m.bars inputs))
      go (Some rows) = tt
      go None = raised_proper (m.bars inputs) (w.bars_proper inputs)

  pub lawful : Lawful (memoized es m)
  lawful = record { some_column = w.some_column; four_columns = w.four_columns; three_given = w.three_given; rows_whole = whole_rows; few_match = few_rows; bars_proper = proper }
