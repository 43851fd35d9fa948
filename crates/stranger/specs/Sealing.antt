-- The stranger's end and layer are lawful.
use Rattle.std.specs.Prelude.{◌≡◌, ℕ, ◌^◌, ◌<◌, ◌≤◌, true, false, List, [], ◌∷◌, ◌++◌, length, drop, Some, None, ◌==◌, ◌≢◌, nat_lt, slice_index, slice_set, refl}
use Rattle.std.proofs.Common.{sym, ap, ◌∙◌, subst, inl, inr, arith}
use Rattle.std.proofs.lemmas.Bool.{and_parts, and_from, and_left, and_right, or_left, or_from, ne_eqb, lt-ltb, cond_both, cond-true, cond-false, cases_Bool}
use Rattle.faults.specs.declared.refusal.Refusal.TheVariants.{Unverified}
use Rattle.source.specs.declared.mark.Mark.{Mark}
use Rattle.source.specs.declared.mark.Mark.TheVariants.{Given, Free}
use Rattle.source.specs.Rows.{same, before, is_in, ascending, all_values}
use Rattle.source.specs.Marks.{inputs_of, picked, whole}
use Rattle.source.specs.Meaning.{Meaning, clear, barred, Proper, Lawful, wanted}
use Rattle.faults.specs.Faults.{layered}
use Rattle.source.specs.Calls.{misuse, refusal, bar_fault, Answered}
use Rattle.source.proofs.Rows.{same_eq, eq_same, same_refl, before_irrefl, in_head, in_tail}
use Rattle.source.proofs.Calls.{refused_by_bar, later_same, raised_proper}
use Rattle.stranger.specs.Seals.{sealed_row, passed_on}

pub lawful_over : (m : Meaning) → Lawful m → Lawful (passed_on m)
lawful_over m w = record {
  some_column = w.some_column;
  four_columns = w.four_columns;
  three_given = w.three_given;
  rows_whole = w.rows_whole;
  few_match = w.few_match;
  bars_proper = λ inputs. raised_proper (m.bars inputs) (w.bars_proper inputs);
}

module _ (key value broken : ℕ) where
  abbrev m : Meaning
  m = sealed_row key value broken

  is_the_row : (row : List ℕ) → m.relation row ≡ true → row ≡ key ∷ value ∷ []
  is_the_row row h = same_eq row (key ∷ value ∷ []) h

  rows_whole : key < 2 ^ 32 → value < 2 ^ 32 → (row : List ℕ) → m.relation row ≡ true → whole (Given ∷ Free ∷ []) row ≡ true
  rows_whole k v row h =
      let values = and_from (nat_lt key (2 ^ 32)) (all_values (value ∷ [])) (lt-ltb key (2 ^ 32) k) (and_from (nat_lt value (2 ^ 32)) true (lt-ltb value (2 ^ 32) v) refl) in
      subst (λ z. whole (Given ∷ Free ∷ []) z ≡ true) (sym (is_the_row row h)) values

  one_row : (inputs : List ℕ) (rows : List (List ℕ)) → ascending rows ≡ true → ((row : List ℕ) → is_in row rows ≡ true → wanted m inputs row ≡ true) → length rows ≤ 64
  one_row inputs [] s w = omega arith
  one_row inputs (r ∷ []) s w = omega arith
  one_row inputs (r ∷ q ∷ rest) s w =
      let a = is_the_row r (and_parts (same (picked (Given ∷ Free ∷ []) r) inputs) (m.relation r) (w r (in_head r (q ∷ rest)))).1 in
      let b = is_the_row q (and_parts (same (picked (Given ∷ Free ∷ []) q) inputs) (m.relation q) (w q (in_tail q r (q ∷ rest) (in_head q rest)))).1 in
      let l = (and_parts (before r q) (ascending (q ∷ rest)) s).0 in
      absurd (before_irrefl q (subst (λ z. before z q ≡ true) (a ∙ sym b) l))

  pub lawful : key < 2 ^ 32 → value < 2 ^ 32 → Lawful m
  lawful k v = record {
    some_column = omega arith;
    four_columns = omega arith;
    three_given = omega arith;
    rows_whole = rows_whole k v;
    few_match = one_row;
    bars_proper = λ inputs. cond_both (same inputs (broken ∷ [])) (barred Unverified 0) clear Proper (λ _. (omega arith, omega arith, omega arith)) (λ _. tt);
  }

  module _ (asked : ℕ) (memory : List ℕ) (admitted : misuse (Given ∷ Free ∷ []) (asked ∷ []) (length memory) ≡ None) where
    pub refused_when_broken : asked ≡ broken → refusal m (asked ∷ []) (length memory) ≡ Some (layered Unverified 0)
    refused_when_broken e = refused_by_bar m (asked ∷ []) (length memory) admitted ∙ ap bar_fault (cond-true (same (asked ∷ []) (broken ∷ [])) (barred Unverified 0) clear (eq_same (asked ∷ []) (broken ∷ []) (ap (λ z. z ∷ []) e)))

    granted : (asked ≢ broken) → refusal m (asked ∷ []) (length memory) ≡ None
    granted n = refused_by_bar m (asked ∷ []) (length memory) admitted ∙ ap bar_fault (cond-false (same (asked ∷ []) (broken ∷ [])) (barred Unverified 0) clear (and_left (asked == broken) true (ne_eqb asked broken n)))

    -- a row of the relation matches the inputs exactly if its key is asked for
    pub answered_none : (asked ≢ broken) → (asked ≢ key) → Answered m m (asked ∷ []) memory memory 0
    answered_none n k = record {
      granted = granted n;
      rows = [];
      answer = record { ascends = refl; exact = none };
      counted = refl;
      written = refl;
      later = later_same m;
    }
      where
        none : (row : List ℕ) → false ≡ wanted m (asked ∷ []) row
        none row = elim (cases_Bool (m.relation row)) [
          | inl h ↦ (let e = is_the_row row h in let ne : key ≡ asked → ⊥ = λ q. k (sym q) in sym (and_left (same (picked (Given ∷ Free ∷ []) row) (asked ∷ [])) (m.relation row) (subst (λ z. same (picked (Given ∷ Free ∷ []) z) (asked ∷ []) ≡ false) (sym e) (and_left (key == asked) true (ne_eqb key asked ne)))))
          | inr h ↦ sym (and_right (same (picked (Given ∷ Free ∷ []) row) (asked ∷ [])) (m.relation row) h)
        ]

    pub answered_one : (asked ≢ broken) → asked ≡ key → 256 ≤ length memory → Answered m m (asked ∷ []) memory (slice_set (slice_set memory 0 asked) 1 value) 1
    answered_one n k room = record {
      granted = granted n;
      rows = (asked ∷ value ∷ []) ∷ [];
      answer = record { ascends = refl; exact = one };
      counted = refl;
      written = two_written memory asked value room;
      later = later_same m;
    }
      where
        two_written : (memory : List ℕ) (a b : ℕ) → 256 ≤ length memory → slice_set (slice_set memory 0 a) 1 b ≡ (a ∷ b ∷ []) ++ drop 2 memory
        two_written [] a b h = let z : ⊥ = omega arith in absurd z
        two_written (_ ∷ []) a b h = let z : ⊥ = omega arith in absurd z
        two_written (_ ∷ _ ∷ rest) a b h = refl

        one : (row : List ℕ) → is_in row ((asked ∷ value ∷ []) ∷ []) ≡ wanted m (asked ∷ []) row
        one row = elim (cases_Bool (m.relation row)) [
          | inl h ↦ (let e = is_the_row row h ∙ ap (λ z. z ∷ value ∷ []) (sym k) in
              or_left (same row (asked ∷ value ∷ [])) false (eq_same row (asked ∷ value ∷ []) e)
              ∙ sym (and_from (same (picked (Given ∷ Free ∷ []) row) (asked ∷ [])) (m.relation row) (subst (λ z. same (picked (Given ∷ Free ∷ []) z) (asked ∷ []) ≡ true) (sym e) (same_refl (asked ∷ []))) h))
          | inr h ↦ (let other = ap (λ z. same row (z ∷ value ∷ [])) k ∙ h in
              or_from (same row (asked ∷ value ∷ [])) false other refl ∙ sym (and_right (same (picked (Given ∷ Free ∷ []) row) (asked ∷ [])) (m.relation row) h))
        ]

single : (inputs : List ℕ) → length inputs ≡ 1 → inputs ≡ slice_index inputs 0 ∷ []
single [] h = let z : ⊥ = omega arith in absurd z
single (x ∷ []) h = refl
single (x ∷ y ∷ rest) h = let z : ⊥ = omega arith in absurd z

-- what is admitted has one input
pub record Asked (inputs : List ℕ) (room : ℕ) : Type 0 where
  pub alone : inputs ≡ slice_index inputs 0 ∷ []
  pub admitted : misuse (Given ∷ Free ∷ []) (slice_index inputs 0 ∷ []) room ≡ None

pub asked_one : (marks : List Mark) (inputs : List ℕ) (room : ℕ) → marks ≡ Given ∷ Free ∷ [] → misuse marks inputs room ≡ None → length inputs ≡ inputs_of marks → Asked inputs room
asked_one marks inputs room e a l =
    let alone = single inputs (l ∙ ap inputs_of e) in
    record { alone = alone; admitted = subst (λ z. misuse (Given ∷ Free ∷ []) z room ≡ None) alone (subst (λ z. misuse z inputs room ≡ None) e a) }
