-- Counting and comparing the given columns, one column after another.
use Rattle.std.proofs.Common.{◌≡◌, ℕ, suc, true, false, ◌⊎◌, ◌+◌, List, [], ◌∷◌, length, filter, sum_by, Decides, sym, refl, ap, ◌≤◌, subst, inl, inr, arith, ◌==◌}
use Rattle.std.specs.Int.{from_bool}
use Rattle.std.proofs.lemmas.List.Sums.{sum_by-cons, length-filter, count_by-le-length}
use Rattle.std.proofs.lemmas.Bool.{and_parts, eq-eqb, ne_eqb, and_from, false≢true}
use Rattle.std.specs.Cmp.Lexicographic.{pointwise}
use Rattle.std.proofs.lemmas.Slice.Eq.{slice_eq-Decides}
use Rattle.source.specs.contracts.mark.MarkPartialEq.TheImpl as mark_equality
use Rattle.source.specs.declared.mark.Mark.{Mark}
use Rattle.source.specs.declared.mark.Mark.TheVariants.{Given, Free}
use Rattle.source.specs.Rows.{same}
use Rattle.source.proofs.Tests.{deciders_agree}
use Rattle.source.specs.Marks.{is_given, inputs_of, picked, same_mark, same_marks}

-- the given marks are as many as the inputs
pub given_counted : (ms : List Mark) → length (filter is_given ms) ≡ inputs_of ms
given_counted [] = refl
given_counted (Given ∷ ms) = ap suc (given_counted ms)
given_counted (Free ∷ ms) = given_counted ms

-- a given column takes one input, and a free one none
abbrev pub one_if_given : Mark → ℕ
one_if_given m = from_bool (is_given m)

pub given_summed : (ms : List Mark) → sum_by one_if_given ms ≡ inputs_of ms
given_summed [] = refl
given_summed (Given ∷ ms) = let one : sum_by one_if_given (Given ∷ ms) ≡ 1 + sum_by one_if_given ms = sum_by-cons one_if_given Given ms in omega (arith, one, given_summed ms)
given_summed (Free ∷ ms) = let none : sum_by one_if_given (Free ∷ ms) ≡ 0 + sum_by one_if_given ms = sum_by-cons one_if_given Free ms in omega (arith, none, given_summed ms)

-- a call takes at most one input for each column
pub inputs_of_most : (ms : List Mark) → inputs_of ms ≤ length ms
inputs_of_most ms = omega (arith, given_counted ms, length-filter is_given ms, count_by-le-length is_given ms)

-- what a row holds in the given columns, one column after another
module _ {ms ms' : List Mark} {vs vs' : List ℕ} {v : ℕ} where
  pub picked_given : (m : Mark) → ms ≡ m ∷ ms' → vs ≡ v ∷ vs' → true ≡ is_given m → picked ms vs ≡ v ∷ picked ms' vs'
  picked_given Given e f g = rw (e, f) refl
  picked_given Free e f g = absurd (false≢true (sym g))

  pub picked_free : (m : Mark) → ms ≡ m ∷ ms' → vs ≡ v ∷ vs' → false ≡ is_given m → picked ms vs ≡ picked ms' vs'
  picked_free Given e f g = absurd (false≢true g)
  picked_free Free e f g = rw (e, f) refl

picked_none : (ms : List Mark) (vs : List ℕ) → (length ms ≡ 0) ⊎ (length vs ≡ 0) → picked ms vs ≡ []
picked_none [] vs h = refl
picked_none (Given ∷ ms) [] h = refl
picked_none (Free ∷ ms) [] h = refl
picked_none (m ∷ ms) (v ∷ vs) (inl e) = absurd (omega (arith, e))
picked_none (m ∷ ms) (v ∷ vs) (inr e) = absurd (omega (arith, e))

-- a list that begins with a value is equal to one that begins with the same, if their rests are
module _ {qs ps : List ℕ} {v : ℕ} (e : qs ≡ v ∷ ps) where
  pub same_short : (xs : List ℕ) → length xs ≡ 0 → same qs xs ≡ false
  same_short [] h = rw e refl
  same_short (x ∷ xs) h = absurd (omega (arith, h))

  pub same_other : {xs rest : List ℕ} {x : ℕ} → xs ≡ x ∷ rest → (x ≡ v → ⊥) → same qs xs ≡ false
  same_other {x = x} f n = rw (e, f, ne_eqb v x (λ h. n (sym h))) refl

  pub same_more : {xs rest : List ℕ} {x : ℕ} → xs ≡ x ∷ rest → x ≡ v → same qs xs ≡ same ps rest
  same_more {x = x} f h = rw (e, f, eq-eqb v x (sym h)) refl

-- where there is no column or no value left, no input may be left
pub same_ended : (ms : List Mark) (vs xs : List ℕ) → (length ms ≡ 0) ⊎ (length vs ≡ 0) → same (picked ms vs) xs ≡ (length xs == 0)
same_ended ms vs [] h = rw (picked_none ms vs h) refl
same_ended ms vs (x ∷ xs) h = rw (picked_none ms vs h, ne_eqb (length (x ∷ xs)) 0 (λ e. omega (arith, e))) refl

same_mark_eq : (m n : Mark) → same_mark m n ≡ true → m ≡ n
same_mark_eq Given Given e = refl
same_mark_eq Given Free e = absurd (false≢true e)
same_mark_eq Free Given e = absurd (false≢true e)
same_mark_eq Free Free e = refl

same_mark_refl : (m : Mark) → same_mark m m ≡ true
same_mark_refl Given = refl
same_mark_refl Free = refl

pub same_marks_eq : (ms ns : List Mark) → same_marks ms ns ≡ true → ms ≡ ns
same_marks_eq [] [] e = refl
same_marks_eq [] (n ∷ ns) e = absurd (false≢true e)
same_marks_eq (m ∷ ms) [] e = absurd (false≢true e)
same_marks_eq (m ∷ ms) (n ∷ ns) e =
    let p = and_parts (same_mark m n) (same_marks ms ns) e in
    let head = same_mark_eq m n p.0 in
    let tail = same_marks_eq ms ns p.1 in
    cc

pub same_marks_refl : (ms : List Mark) → same_marks ms ms ≡ true
same_marks_refl [] = refl
same_marks_refl (m ∷ ms) = and_from (same_mark m m) (same_marks ms ms) (same_mark_refl m) (same_marks_refl ms)

pub same_marks_decides : (ms ns : List Mark) → Decides (same_marks ms ns) (ms ≡ ns)
same_marks_decides ms ns = (same_marks_eq ms ns, λ e. subst (λ z. same_marks ms z ≡ true) e (same_marks_refl ms))

-- the derived test of two lists of marks
mark_eq_decides : (m n : Mark) → Decides ((mark_equality.eq-value).it m n) (m ≡ n)
mark_eq_decides Given Given = ((λ _. refl), (λ _. refl))
mark_eq_decides Given Free = ((λ e. absurd (false≢true e)), (λ e. cc))
mark_eq_decides Free Given = ((λ e. absurd (false≢true e)), (λ e. cc))
mark_eq_decides Free Free = ((λ _. refl), (λ _. refl))

pub marks_pointwise : (ms ns : List Mark) → pointwise (mark_equality.eq-value).it ms ns ≡ same_marks ms ns
marks_pointwise ms ns = deciders_agree _ _ (slice_eq-Decides mark_eq_decides _ _ _ refl) (same_marks_decides ms ns)
