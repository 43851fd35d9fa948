-- The shape of a source's columns.
use Rattle.std.proofs.Common.{◌≡◌, ℕ, suc, ◌<◌, ◌≤◌, Bool, true, ◌&&◌, eqb, ltb, leb, List, [], ◌∷◌, ◌++◌, length, sym, refl, ap, ◌∙◌, arith, ltb-true, lt-ltb, eq-eqb, le-leb}
use Rattle.source.specs.Marks.{inputs_of}
use Rattle.lexing.specs.Tokens.{Token}
use Rattle.lexing.specs.Names.{number_of, numbers, AllAmong}
use Rattle.std.proofs.lemmas.Bool.{and_parts, both_ways}
use Rattle.lexing.proofs.Naming.{number_below, numbers_length}
use Rattle.catalogue.specs.Sheets.{Column, Line, some, kinds_of, marks_in}
use Rattle.catalogue.specs.Plain.{PlainColumns, all_under, shaped, all_shaped}
use Rattle.catalogue.specs.Records.{numbered}

under_kept : (m n : ℕ) (ks : List ℕ) → m ≤ n → all_under m ks ≡ true → all_under n ks ≡ true
under_kept m n [] h e = refl
under_kept m n (k ∷ ks) h e = rw (lt-ltb k n (let z = ltb-true k m ((and_parts (ltb k m) (all_under m ks) e).0) in omega arith)) (under_kept m n ks h ((and_parts (ltb k m) (all_under m ks) e).1))

module _ (m n : ℕ) (c : PlainColumns) where
  abbrev even : Bool
  even = eqb (length c.kinds) (length c.marks)

  abbrev one : Bool
  one = ltb 0 (length c.marks)

  abbrev three : Bool
  three = leb (inputs_of c.marks) 3

  shaped_kept : m ≤ n → shaped m c ≡ true → shaped n c ≡ true
  shaped_kept h e =
      let b = (and_parts even (one && (three && all_under m c.kinds)) e).1 in
      let d = (and_parts one (three && all_under m c.kinds) b).1 in
      rw ((and_parts even (one && (three && all_under m c.kinds)) e).0, (and_parts one (three && all_under m c.kinds) b).0, (and_parts three (all_under m c.kinds) d).0)
      (under_kept m n c.kinds h ((and_parts three (all_under m c.kinds) d).1))

pub all_shaped_kept : (m n : ℕ) (cs : List PlainColumns) → m ≤ n → all_shaped m cs ≡ true → all_shaped n cs ≡ true
all_shaped_kept m n [] h e = refl
all_shaped_kept m n (c ∷ cs) h e = rw (shaped_kept m n c h ((and_parts (shaped m c) (all_shaped m cs) e).0)) (all_shaped_kept m n cs h ((and_parts (shaped m c) (all_shaped m cs) e).1))

pub all_shaped_push : (n : ℕ) (cs : List PlainColumns) (c : PlainColumns) → all_shaped n cs ≡ true → shaped n c ≡ true → all_shaped n (cs ++ c ∷ []) ≡ true
all_shaped_push n [] c e f = rw f refl
all_shaped_push n (x ∷ cs) c e f = rw ((and_parts (shaped n x) (all_shaped n cs) e).0) (all_shaped_push n cs c ((and_parts (shaped n x) (all_shaped n cs) e).1) f)

numbers_under : (ks ts : List Token) → AllAmong ts ks → all_under (length ks) (numbers ks ts) ≡ true
numbers_under ks [] a = refl
numbers_under ks (t ∷ ts) a = rw (lt-ltb (number_of t ks) (length ks) (number_below t ks a.0)) (numbers_under ks ts a.1)

pub kinds_length : (cs : List Column) → length (kinds_of cs) ≡ length cs
kinds_length [] = refl
kinds_length (c ∷ cs) = ap suc (kinds_length cs)

pub marks_length : (cs : List Column) → length (marks_in cs) ≡ length cs
marks_length [] = refl
marks_length (c ∷ cs) = ap suc (marks_length cs)

pub some_there : {X : Type 0} (xs : List X) → some xs ≡ true → 0 < length xs
some_there [] e = absurd (both_ways _ refl e)
some_there (x ∷ xs) e = omega arith

pub line_shaped : (ks : List Token) (l : Line) → some l.columns ≡ true → inputs_of (marks_in l.columns) ≤ 3 → AllAmong (kinds_of l.columns) ks → shaped (length ks) (numbered ks l) ≡ true
line_shaped ks l s few all =
    let cs = l.columns in
    let m = marks_length cs in
    rw (
      eq-eqb (length (numbers ks (kinds_of cs))) (length (marks_in cs)) (numbers_length ks (kinds_of cs) ∙ kinds_length cs ∙ sym m),
      lt-ltb 0 (length (marks_in cs)) (let z = some_there cs s in omega arith),
      le-leb (inputs_of (marks_in cs)) 3 few,
    ) (numbers_under ks (kinds_of cs) all)
