-- A divider is lawful, and answers one row.
use Rattle.std.specs.Prelude.{◌≡◌, ℕ, ◌/◌, ◌%◌, ◌^◌, ◌<◌, ◌≤◌, Bool, true, false, ◌&&◌, ◌||◌, List, [], ◌∷◌, ◌++◌, length, drop, None, ◌==◌, nat_lt, slice_index, slice_index_or, slice_set, refl}
use Rattle.std.proofs.Common.{sym, ap, subst, arith, div-le_self}
use Rattle.std.proofs.Math.Nat.{mod-le}
use Rattle.std.proofs.lemmas.Bool.{and_parts, and_from, eqb-true, ltb-true, lt-ltb, false≢true}
use Rattle.source.specs.declared.mark.Mark.TheVariants.{Given, Free}
use Rattle.source.specs.Rows.{same, before, is_in, ascending}
use Rattle.source.specs.Marks.{picked, whole}
use Rattle.source.specs.Meaning.{Lawful, wanted}
use Rattle.source.specs.Calls.{misuse, Answer, Answered}
use Rattle.source.proofs.Rows.{same_eq, before_irrefl, in_head, in_tail}
use Rattle.source.proofs.Calls.{refused_by_bar, later_same}
use Rattle.ends.specs.Division.{division, divides}

abbrev pub row_of : ℕ → ℕ → List ℕ
row_of d x = x ∷ x / d ∷ x % d ∷ []

no_inputs : (rest : List ℕ) → picked (Free ∷ Free ∷ []) rest ≡ []
no_inputs [] = refl
no_inputs (_ ∷ []) = refl
no_inputs (_ ∷ _ ∷ _) = refl

-- a wanted row is the row of the one input
wanted_is_row : (d : ℕ) (inputs row : List ℕ) → wanted (division d) inputs row ≡ true → (x : ℕ) × (inputs ≡ x ∷ []) × (row ≡ row_of d x) × (x < 2 ^ 32)
wanted_is_row d inputs [] h = absurd (false≢true (and_parts (same [] inputs) false h).1)
wanted_is_row d inputs (x ∷ rest) h =
    let p = and_parts (same (x ∷ picked (Free ∷ Free ∷ []) rest) inputs) (divides d (x ∷ rest)) h in
    let q = and_parts (nat_lt x (2 ^ 32)) (same rest (x / d ∷ x % d ∷ [])) p.1 in
    let i = same_eq (x ∷ picked (Free ∷ Free ∷ []) rest) inputs p.0 in
    let n = no_inputs rest in
    let r = same_eq rest (x / d ∷ x % d ∷ []) q.1 in
    (x, cc, cc, ltb-true x (2 ^ 32) q.0)

one_matches : (d : ℕ) (inputs : List ℕ) (rows : List (List ℕ)) → ascending rows ≡ true → ((row : List ℕ) → is_in row rows ≡ true → wanted (division d) inputs row ≡ true) → length rows ≤ 64
one_matches d inputs [] s w = omega arith
one_matches d inputs (r ∷ []) s w = omega arith
one_matches d inputs (r ∷ q ∷ rest) s w =
    let a = wanted_is_row d inputs r (w r (in_head r (q ∷ rest))) in
    let b = wanted_is_row d inputs q (w q (in_tail q r (q ∷ rest) (in_head q rest))) in
    let ia = a.1 in
    let ib = b.1 in
    let ra = a.2 in
    let rb = b.2 in
    let e : r ≡ q = cc in
    let l = (and_parts (before r q) (ascending (q ∷ rest)) s).0 in
    absurd (before_irrefl q (subst (λ z. before z q ≡ true) e l))

rows_whole : (d : ℕ) (row : List ℕ) → divides d row ≡ true → whole (Given ∷ Free ∷ Free ∷ []) row ≡ true
rows_whole d [] h = absurd (false≢true h)
rows_whole d (x ∷ rest) h =
    let q = and_parts (nat_lt x (2 ^ 32)) (same rest (x / d ∷ x % d ∷ [])) h in
    let r = same_eq rest (x / d ∷ x % d ∷ []) q.1 in
    let l = ltb-true x (2 ^ 32) q.0 in
    let a = lt-ltb (x / d) (2 ^ 32) (omega (arith, div-le_self x d)) in
    let b = lt-ltb (x % d) (2 ^ 32) (omega (arith, mod-le x d)) in
    let values = and_from (nat_lt x (2 ^ 32)) _ q.0 (and_from (nat_lt (x / d) (2 ^ 32)) _ a (and_from (nat_lt (x % d) (2 ^ 32)) true b refl)) in
    subst (λ z. whole (Given ∷ Free ∷ Free ∷ []) (x ∷ z) ≡ true) (sym r) values

pub lawful : (d : ℕ) → Lawful (division d)
lawful d = record {
  some_column = omega arith;
  four_columns = omega arith;
  three_given = omega arith;
  rows_whole = rows_whole d;
  few_match = one_matches d;
  bars_proper = λ inputs. tt;
}

both : (e s p l t : Bool) → (e ≡ true → (t ≡ s) × (l ≡ true)) → p ≡ true → ((e && s) || false) ≡ ((e && p) && (l && t))
both false s p l t f q = refl
both true true p l t f q = rw (q, (f refl).1, (f refl).0)
both true false p l t f q = rw (q, (f refl).1, (f refl).0)

pub answer : (d x : ℕ) → x < 2 ^ 32 → Answer (division d) (x ∷ []) (row_of d x ∷ [])
answer d x fits = record { ascends = refl; exact = exact }
  where
    exact : (row : List ℕ) → is_in row (row_of d x ∷ []) ≡ wanted (division d) (x ∷ []) row
    exact [] = refl
    exact (y ∷ rest) =
        both (y == x) (same rest (x / d ∷ x % d ∷ [])) (same (picked (Free ∷ Free ∷ []) rest) []) (nat_lt y (2 ^ 32)) (same rest (y / d ∷ y % d ∷ []))
        (λ e. let i = eqb-true y x e in (ap (λ z. same rest (z / d ∷ z % d ∷ [])) i, lt-ltb y (2 ^ 32) (omega arith)))
        (ap (λ z. same z []) (no_inputs rest))

single : (inputs : List ℕ) → length inputs ≡ 1 → inputs ≡ slice_index inputs 0 ∷ []
single [] h = let z : ⊥ = omega arith in absurd z
single (x ∷ []) h = refl
single (x ∷ y ∷ rest) h = let z : ⊥ = omega arith in absurd z

three_written : (memory : List ℕ) (a b c : ℕ) → 256 ≤ length memory → slice_set (slice_set (slice_set memory 0 a) 1 b) 2 c ≡ (a ∷ b ∷ c ∷ []) ++ drop 3 memory
three_written [] a b c h = let z : ⊥ = omega arith in absurd z
three_written (_ ∷ []) a b c h = let z : ⊥ = omega arith in absurd z
three_written (_ ∷ _ ∷ []) a b c h = let z : ⊥ = omega arith in absurd z
three_written (_ ∷ _ ∷ _ ∷ rest) a b c h = refl

pub answered : (d : ℕ) (inputs memory : List ℕ) → misuse (division d).marks inputs (length memory) ≡ None → 256 ≤ length memory → length inputs ≡ 1 → slice_index inputs 0 < 2 ^ 32 → Answered (division d) (division d) inputs memory (slice_set (slice_set (slice_set memory 0 (slice_index inputs 0)) 1 (slice_index inputs 0 / d)) 2 (slice_index inputs 0 % d)) 1
answered d inputs memory admitted room one fits =
    let x = slice_index_or inputs 0 0 in
    record {
      granted = refused_by_bar (division d) inputs (length memory) admitted;
      rows = row_of d x ∷ [];
      answer = subst (λ z. Answer (division d) z (row_of d x ∷ [])) (sym (single inputs one)) (answer d x fits);
      counted = refl;
      written = three_written memory x (x / d) (x % d) room;
      later = later_same (division d);
    }
