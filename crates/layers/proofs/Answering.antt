-- A memo answers as the source below does.
use Rattle.std.specs.Prelude.{◌≡◌, ℕ, ◌+◌, ◌<◌, ◌≤◌, Bool, true, false, ◌&&◌, ◌⊎◌, List, [], ◌∷◌, ◌++◌, map, length, take, drop, Some, None, vec_items, vec_len, MatchBool, Option, nat_le, nat_lt, refl}
use Rattle.std.proofs.Common.{Ok, Err, Result, MatchResult, IsErrAnd, sym, ap, ◌∙◌, subst, inl, inr, arith}
use Rattle.std.proofs.Math.Path.{fun_ext}
use Rattle.std.proofs.lemmas.List.{take_more_set, map_push}
use Rattle.std.proofs.lemmas.Bool.{and_parts, and_from, le-leb, ltb-true, cases_Bool, both_ways, cond-true, cond-false}
use Rattle.source.specs.declared.mark.Mark.{Mark}
use Rattle.source.specs.Rows.{same, is_in, ascending, flat, rows_in}
use Rattle.source.specs.Marks.{picked, matches, same_marks, all_whole}
use Rattle.source.specs.Meaning.{Bar, clear, barred, Meaning, Lawful, wanted, raised_bar}
use Rattle.faults.specs.declared.fault.Fault.{Fault}
use Rattle.source.specs.Calls.{misuse, bar_fault, earlier, MayBecome, Later, Answered, Called}
use Rattle.source.proofs.Rows.{same_eq, eq_same, in_head, in_tail}
use Rattle.source.proofs.Chunks.{rows_in_flat}
use Rattle.source.proofs.Matching.{whole_all}
use Rattle.source.proofs.Calls.{refused_by_bar, later_same, raised_becomes}
use Rattle.layers.specs.declared.table.Table.{Table}
use Rattle.layers.specs.Entries.{all_match, sound}
use Rattle.layers.specs.Memory.{Remembered, from_memory, kept, kept_all, is_for, recalled, related, recalled_bar, memoized, Fills, Remembers}
use Rattle.layers.proofs.Recalling.{recalled_later, recalled_earlier}
use Rattle.layers.specs.Memoizing.{Sound, AllSound, recalled_sound}

-- a call whose fault is told otherwise is answered where that call is
pub answered_there : (m m' : Meaning) (inputs memory memory' : List ℕ) (r r' : Result ℕ Fault) (count : ℕ) (P : Fault → Fault → Type 0) → Called m m' inputs memory memory' r → MatchResult r (λ n. r' ≡ Ok n) (λ fault. IsErrAnd r' (P fault)) → r' ≡ Ok count → Answered m m' inputs memory memory' count
answered_there m m' inputs memory memory' (Ok n) r' count P a e i = let same : n ≡ count = cc in subst (λ z. Answered m m' inputs memory memory' z) same a
answered_there m m' inputs memory memory' (Err fault) (Ok n) count P a e i = absurd e
answered_there m m' inputs memory memory' (Err fault) (Err told) count P a e i = cc

-- Answered from an entry.

pub answered_from_entry : (es : List Remembered) (m : Meaning) (inputs memory memory' : List ℕ) (count : ℕ) (rows : List (List ℕ)) → AllSound es → misuse m.marks inputs (length memory) ≡ None → recalled es m.marks inputs ≡ Some rows → count ≡ length rows → memory' ≡ flat rows ++ drop (length (flat rows)) memory → Answered (memoized es m) (memoized es m) inputs memory memory' count
answered_from_entry es m inputs memory memory' count rows a admitted e counted written = record {
  granted = refused_by_bar (memoized es m) inputs (length memory) admitted ∙ ap (λ o. bar_fault (recalled_bar o (m.bars inputs))) e;
  rows = rows;
  answer = record { ascends = r.ascends; exact = exact };
  counted = counted;
  written = written;
  later = later_same (memoized es m);
}
  where
    r : Sound m.marks inputs rows
    r = recalled_sound es m.marks inputs rows a e

    exact : (row : List ℕ) → is_in row rows ≡ wanted (memoized es m) inputs row
    exact row = go (matches m.marks inputs row) refl
      where
        go : (b : Bool) → matches m.marks inputs row ≡ b → is_in row rows ≡ (b && (memoized es m).relation row)
        go true t = sym (ap (λ o. related o (m.relation row) row) (ap (recalled es m.marks) (same_eq (picked m.marks row) inputs t) ∙ e))
        go false t = elim (cases_Bool (is_in row rows)) [ inl i ↦ absurd (both_ways (matches m.marks inputs row) t (r.hold row i)) | inr n ↦ n ]

-- Answered by the source below.

match_all : (marks : List Mark) (inputs : List ℕ) (rows : List (List ℕ)) → ((row : List ℕ) → is_in row rows ≡ true → matches marks inputs row ≡ true) → all_match marks inputs rows ≡ true
match_all marks inputs [] f = refl
match_all marks inputs (r ∷ rs) f = and_from (matches marks inputs r) (all_match marks inputs rs) (f r (in_head r rs)) (match_all marks inputs rs (λ row i. f row (in_tail row r rs i)))

-- the rows of an answer stand whole from the start of the memory
module _ (m m' : Meaning) (inputs memory memory' : List ℕ) (count : ℕ) (w : Lawful m) (b : Answered m m' inputs memory memory' count) where
  parts_of : (row : List ℕ) → is_in row b.rows ≡ true → (matches m.marks inputs row ≡ true) × (m.relation row ≡ true)
  parts_of row i = and_parts (matches m.marks inputs row) (m.relation row) (sym (b.answer.exact row) ∙ i)

  wholes_of : all_whole m.marks b.rows ≡ true
  wholes_of = whole_all m.marks b.rows (λ row i. w.rows_whole row (parts_of row i).1)

  pub rows_of_memory : rows_in (length m.marks) count memory' ≡ b.rows
  rows_of_memory =
      ap (λ z. rows_in (length m.marks) z memory') b.counted ∙ ap (rows_in (length m.marks) (length b.rows)) b.written
      ∙ rows_in_flat m.marks b.rows (drop (length (flat b.rows)) memory) wholes_of

  pub answer_sound : count ≤ 8 → sound m.marks inputs (rows_in (length m.marks) count memory') ≡ true
  answer_sound few =
      subst (λ z. sound m.marks inputs z ≡ true) (sym rows_of_memory)
      (and_from (nat_le (length b.rows) 8 && ascending b.rows) (all_whole m.marks b.rows && all_match m.marks inputs b.rows)
      (and_from (nat_le (length b.rows) 8) (ascending b.rows) (le-leb (length b.rows) 8 (omega (arith, b.counted))) b.answer.ascends)
      (and_from (all_whole m.marks b.rows) (all_match m.marks inputs b.rows) wholes_of (match_all m.marks inputs b.rows (λ row i. (parts_of row i).0))))

  bar_clear : m.bars inputs ≡ clear
  bar_clear = go (misuse m.marks inputs (length memory)) (m.bars inputs) b.granted
    where
      go : (o : Option Fault) (x : Bar) → earlier o (bar_fault x) ≡ None → x ≡ clear
      go (Some f) x h = cc
      go None clear h = refl
      go None (barred r layer) h = cc

  not_misused : misuse m.marks inputs (length memory) ≡ None
  not_misused = go (misuse m.marks inputs (length memory)) b.granted
    where
      go : (o : Option Fault) → earlier o (bar_fault (m.bars inputs)) ≡ None → o ≡ None
      go (Some f) h = cc
      go None h = refl

  -- what is remembered after the call: as before, but perhaps this answer for these inputs
  abbrev pub Grown : List Remembered → List Remembered → Type 0
  Grown es es' = (asked : List ℕ) → (recalled es' m.marks asked ≡ recalled es m.marks asked) ⊎ ((asked ≡ inputs) × (recalled es' m.marks asked ≡ Some b.rows))

  module _ (es es' : List Remembered) (new : recalled es m.marks inputs ≡ None) (grown : Grown es es') where
    abbrev relation_with : List Remembered → List Mark → (List ℕ → Bool) → List ℕ → Bool
    relation_with known marks relation row = related (recalled known marks (picked marks row)) (relation row) row

    relation_at : (row : List ℕ) → relation_with es' m.marks m.relation row ≡ relation_with es m.marks m.relation row
    relation_at row = elim (grown (picked m.marks row)) [
      | inl e ↦ ap (λ o. related o (m.relation row) row) e
      | inr p ↦ ap (λ o. related o (m.relation row) row) p.1 ∙ b.answer.exact row ∙ ap (λ z. z && m.relation row) (eq_same (picked m.marks row) inputs p.0) ∙ sym (ap (λ o. related o (m.relation row) row) (ap (recalled es m.marks) p.0 ∙ new))
    ]

    relation_stays : (memoized es' m').relation ≡ (memoized es m).relation
    relation_stays = fun_ext (λ row. ap (λ ms. relation_with es' ms m'.relation row) b.later.marks ∙ ap (λ r. relation_with es' m.marks r row) b.later.relation ∙ relation_at row)

    bar_with : (o : Option (List (List ℕ))) (s : Bool) (x y : Bar) → MayBecome s x y → MayBecome s (recalled_bar o x) (recalled_bar o y)
    bar_with (Some rows) s x y h = tt
    bar_with None s x y h = raised_becomes s x y h

    bars_at : (asked : List ℕ) → MayBecome m.steady ((memoized es m).bars asked) (recalled_bar (recalled es' m.marks asked) (m'.bars asked))
    bars_at asked = elim (grown asked) [
      | inl e ↦ subst (λ o. MayBecome m.steady ((memoized es m).bars asked) (recalled_bar o (m'.bars asked))) (sym e) (bar_with (recalled es m.marks asked) m.steady (m.bars asked) (m'.bars asked) (b.later.bars asked))
      | inr p ↦ subst (λ o. MayBecome m.steady ((memoized es m).bars asked) (recalled_bar o (m'.bars asked))) (sym p.1) (subst (λ x. MayBecome m.steady x clear) (sym (was_clear asked p.0)) tt)
    ]
      where
        was_clear : (asked : List ℕ) → asked ≡ inputs → (memoized es m).bars asked ≡ clear
        was_clear asked e = ap (λ z. (memoized es m).bars z) e ∙ ap (λ o. recalled_bar o (m.bars inputs)) new ∙ ap raised_bar bar_clear

    later : Later (memoized es m) (memoized es' m')
    later = record { marks = b.later.marks; relation = relation_stays; steady = b.later.steady; bars = λ asked. subst (λ ms. MayBecome m.steady ((memoized es m).bars asked) (recalled_bar (recalled es' ms asked) (m'.bars asked))) (sym b.later.marks) (bars_at asked) }

    exact : (row : List ℕ) → is_in row b.rows ≡ wanted (memoized es m) inputs row
    exact row = b.answer.exact row ∙ go (matches m.marks inputs row) refl
      where
        go : (t : Bool) → matches m.marks inputs row ≡ t → (t && m.relation row) ≡ (t && (memoized es m).relation row)
        go true e = sym (ap (λ o. related o (m.relation row) row) (ap (recalled es m.marks) (same_eq (picked m.marks row) inputs e) ∙ new))
        go false e = refl

    pub answered_below : Answered (memoized es m) (memoized es' m') inputs memory memory' count
    answered_below = record {
      granted = refused_by_bar (memoized es m) inputs (length memory) not_misused ∙ ap (λ o. bar_fault (recalled_bar o (m.bars inputs))) new ∙ ap (λ x. bar_fault (raised_bar x)) bar_clear;
      rows = b.rows;
      answer = record { ascends = b.answer.ascends; exact = exact };
      counted = b.counted;
      written = b.written;
      later = later;
    }

  abbrev entry : Remembered
  entry = from_memory m.marks inputs count memory'

  -- what a table learns is such growth
  pub learned : (before after : Table) → recalled (kept_all before) m.marks inputs ≡ None → Remembers before after entry → Grown (kept_all before) (kept_all after)
  learned before after new h = go (nat_le (length (rows_in (length m.marks) count memory')) 8 && nat_lt before.used (vec_len before.entries)) refl h
    where
      appended : (f : Fills before after entry) → before.used < vec_len before.entries → kept_all after ≡ kept_all before ++ entry ∷ []
      appended f l =
          let inside : before.used < length (vec_items before.entries) = omega (arith, before.entries.ok.0) in
          ap (λ n. map kept (take n (vec_items after.entries))) f.used ∙ ap (λ z. map kept (take (before.used + 1) z)) f.entries
          ∙ ap (map kept) (take_more_set (vec_items before.entries) before.used f.entry inside) ∙ map_push kept (take before.used (vec_items before.entries)) f.entry
          ∙ ap (λ z. kept_all before ++ z ∷ []) f.remembers

      at_new : (asked : List ℕ) → recalled (kept_all before) m.marks asked ≡ None → (recalled (kept_all before ++ entry ∷ []) m.marks asked ≡ recalled (kept_all before) m.marks asked) ⊎ ((asked ≡ inputs) × (recalled (kept_all before ++ entry ∷ []) m.marks asked ≡ Some b.rows))
      at_new asked none = elim (cases_Bool (is_for entry m.marks asked)) [
        | inl t ↦ inr (sym (same_eq inputs asked (and_parts (same_marks m.marks m.marks) (same inputs asked) t).1), recalled_later m.marks asked (kept_all before) (entry ∷ []) none ∙ cond-true (is_for entry m.marks asked) (Some entry.rows) None t ∙ ap Some rows_of_memory)
        | inr t ↦ inl (recalled_later m.marks asked (kept_all before) (entry ∷ []) none ∙ cond-false (is_for entry m.marks asked) (Some entry.rows) None t ∙ sym none)
      ]

      at_any : (asked : List ℕ) (o : Option (List (List ℕ))) → recalled (kept_all before) m.marks asked ≡ o → (recalled (kept_all before ++ entry ∷ []) m.marks asked ≡ recalled (kept_all before) m.marks asked) ⊎ ((asked ≡ inputs) × (recalled (kept_all before ++ entry ∷ []) m.marks asked ≡ Some b.rows))
      at_any asked (Some rows) e = inl (recalled_earlier m.marks asked (kept_all before) (entry ∷ []) rows e ∙ sym e)
      at_any asked None e = at_new asked e

      go : (t : Bool) → (nat_le (length (rows_in (length m.marks) count memory')) 8 && nat_lt before.used (vec_len before.entries)) ≡ t → MatchBool t (Fills before after entry) (after ≡ before) → Grown (kept_all before) (kept_all after)
      go true e f asked =
          let l = ltb-true before.used (vec_len before.entries) (and_parts (nat_le (length (rows_in (length m.marks) count memory')) 8) (nat_lt before.used (vec_len before.entries)) e).1 in
          subst (λ z. (recalled z m.marks asked ≡ recalled (kept_all before) m.marks asked) ⊎ ((asked ≡ inputs) × (recalled z m.marks asked ≡ Some b.rows))) (sym (appended f l)) (at_any asked (recalled (kept_all before) m.marks asked) refl)
      go false e f asked = inl (ap (λ t. recalled (kept_all t) m.marks asked) f)
