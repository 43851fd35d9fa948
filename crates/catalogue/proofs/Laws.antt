-- The steps of the reader go along with the grammar of catalogues.
use Rattle.std.proofs.Common.{◌≡◌, ℕ, ◌≤◌, Bool, true, false, cond, not, ◌&&◌, ◌||◌, eqb, ltb, leb, ◌⊎◌, List, [], ◌∷◌, ◌++◌, length, Some, None, sym, refl, ap, ◌∙◌, subst, inl, inr, append_assoc, append-nil, arith, ltb-true, lt-ltb, le-leb, leb-true}
use borrow.Author.Tests.{not-true}
use Rattle.std.proofs.lemmas.Bool.{or_cases, or_left, or_right, and_parts, both_ways}
use Rattle.faults.specs.declared.refusal.Refusal.{Refusal}
use Rattle.faults.specs.declared.refusal.Refusal.TheVariants.{CatalogueForm, CatalogueLimit, SourceNamedTwice}
use Rattle.faults.specs.Refusals.{number}
use Rattle.source.specs.declared.mark.Mark.{Mark}
use Rattle.source.specs.declared.mark.Mark.TheVariants.{Given, Free}
use Rattle.source.specs.Marks.{inputs_of}
use Rattle.lexing.specs.Classes.{class}
use Rattle.lexing.specs.Tokens.{Token, is}
use Rattle.lexing.specs.Lists.{crowded}
use Rattle.lexing.specs.Names.{is_name, among}
use Rattle.lexing.proofs.Bools.{is_it, one_of_two}
use Rattle.lexing.proofs.Course.{Lawful, Decoder, runs, after}
use Rattle.catalogue.specs.Sheets.{Column, Line, letter, write_columns, write, some, Named, FormedLine, Formed, Part, lines, columns, spaced, kinded, coloned, shown, GoodLine, Good, whole, marks_in, known, Cause, long_name, ninth_line, named_twice, long_kind, fifth_column, seventeenth_kind, fourth_given, sheets}
use Rattle.catalogue.specs.Reading.{mark_or_free, fits, next, over, again, refusal, wrong, steps}

-- one more at the end
named_more : (cs : List Column) (c : Column) → Named cs → is_name c.kind ≡ true → Named (cs ++ c ∷ [])
named_more [] c g e = (e, tt)
named_more (x ∷ cs) c g e = (g.0, named_more cs c g.1 e)

formed_more : (ls : List Line) (l : Line) → Formed ls → FormedLine l → Formed (ls ++ l ∷ [])
formed_more [] l g e = (e, tt)
formed_more (x ∷ ls) l g e = (g.0, formed_more ls l g.1 e)

some_more : {X : Type 0} (xs : List X) (x : X) → some (xs ++ x ∷ []) ≡ true
some_more [] x = refl
some_more (y ∷ xs) x = refl

columns_more : (cs : List Column) (c : Column) (rest : List Token) → write_columns (cs ++ c ∷ []) rest ≡ write_columns cs ((32 ∷ []) ∷ c.kind ∷ (58 ∷ []) ∷ letter c.mark ∷ rest)
columns_more [] c rest = refl
columns_more (x ∷ cs) c rest = ap (λ (r : List Token). (32 ∷ []) ∷ x.kind ∷ (58 ∷ []) ∷ letter x.mark ∷ r) (columns_more cs c rest)

lines_more : (ls : List Line) (l : Line) (rest : List Token) → write (ls ++ l ∷ []) rest ≡ write ls (l.name ∷ write_columns l.columns ((10 ∷ []) ∷ rest))
lines_more [] l rest = refl
lines_more (x ∷ ls) l rest = ap (λ (r : List Token). x.name ∷ write_columns x.columns ((10 ∷ []) ∷ r)) (lines_more ls l rest)

-- a token that fits
spaces_or_ends : (cs : List Column) (t : Token) → (is 32 t || (some cs && is 10 t)) ≡ true → (is 32 t ≡ true) ⊎ ((is 32 t ≡ false) × (some cs ≡ true) × (t ≡ 10 ∷ []))
spaces_or_ends cs t e = go (is 32 t) refl e
  where
    go : (b : Bool) → is 32 t ≡ b → (b || (some cs && is 10 t)) ≡ true → (is 32 t ≡ true) ⊎ ((is 32 t ≡ false) × (some cs ≡ true) × (t ≡ 10 ∷ []))
    go true i f = inl i
    go false i f = inr (i, (and_parts (some cs) (is 10 t) f).0, is_it 10 t ((and_parts (some cs) (is 10 t) f).1))

mark_is : (t : Token) → (is 98 t || is 102 t) ≡ true → letter (mark_or_free t) ≡ t
mark_is t e = go (one_of_two 98 102 t e)
  where
    go : (is 98 t ≡ true) ⊎ ((is 98 t ≡ false) × (t ≡ 102 ∷ [])) → letter (mark_or_free t) ≡ t
    go (inl i) = rw i (sym (is_it 98 t i))
    go (inr i) = rw i.0 (sym i.1)

good_next : (p : Part) (t : Token) → Good p → fits p t ≡ true → Good (next p t)
good_next (lines ls) t g e = record { formed = g; named = e; kinds = tt }
good_next (columns ls n cs) t g e = go (spaces_or_ends cs t e)
  where
    go : (is 32 t ≡ true) ⊎ ((is 32 t ≡ false) × (some cs ≡ true) × (t ≡ 10 ∷ [])) → Good (cond (is 32 t) (spaced ls n cs) (lines (ls ++ record { name = n; columns = cs } ∷ [])))
    go (inl i) = rw i g
    go (inr i) = rw i.0 (formed_more ls (record { name = n; columns = cs }) g.formed (record { named = g.named; kinds = g.kinds; column = i.1 }))
good_next (spaced ls n cs) t g e = (g, e)
good_next (kinded ls n cs k) t g e = g
good_next (coloned ls n cs k) t g e = record { formed = g.0.formed; named = g.0.named; kinds = named_more cs (record { kind = k; mark = mark_or_free t }) g.0.kinds g.1 }

shown_next : (p : Part) (t : Token) (rest : List Token) → fits p t ≡ true → shown (next p t) rest ≡ shown p (t ∷ rest)
shown_next (lines ls) t rest e = refl
shown_next (columns ls n cs) t rest e = go (spaces_or_ends cs t e)
  where
    go : (is 32 t ≡ true) ⊎ ((is 32 t ≡ false) × (some cs ≡ true) × (t ≡ 10 ∷ [])) → shown (cond (is 32 t) (spaced ls n cs) (lines (ls ++ record { name = n; columns = cs } ∷ []))) rest ≡ write ls (n ∷ write_columns cs (t ∷ rest))
    go (inl i) = rw i (ap (λ (x : Token). write ls (n ∷ write_columns cs (x ∷ rest))) (sym (is_it 32 t i)))
    go (inr i) = rw i.0 (lines_more ls (record { name = n; columns = cs }) rest ∙ ap (λ (x : Token). write ls (n ∷ write_columns cs (x ∷ rest))) (sym i.2))
shown_next (spaced ls n cs) t rest e = refl
shown_next (kinded ls n cs k) t rest e = ap (λ (x : Token). write ls (n ∷ write_columns cs ((32 ∷ []) ∷ k ∷ x ∷ rest))) (sym (is_it 58 t e))
shown_next (coloned ls n cs k) t rest e =
    ap (λ (x : List Token). write ls (n ∷ x)) (columns_more cs (record { kind = k; mark = mark_or_free t }) rest)
    ∙ ap (λ (x : Token). write ls (n ∷ write_columns cs ((32 ∷ []) ∷ k ∷ (58 ∷ []) ∷ x ∷ rest))) (mark_is t e)

-- what goes along with the parts goes along with what is shown
module _ {X : Type 0} (F : Part → List Token → X) (law : (p : Part) (t : Token) (ts : List Token) → fits p t ≡ true → F p (t ∷ ts) ≡ F (next p t) ts) where
  one_column : (ls : List Line) (n : Token) (cs : List Column) (k : Token) (m : Mark) (rest : List Token) → is_name k ≡ true → F (columns ls n cs) ((32 ∷ []) ∷ k ∷ (58 ∷ []) ∷ letter m ∷ rest) ≡ F (columns ls n (cs ++ record { kind = k; mark = m } ∷ [])) rest
  one_column ls n cs k Given rest e = law (columns ls n cs) (32 ∷ []) _ refl ∙ law (spaced ls n cs) k _ e ∙ law (kinded ls n cs k) (58 ∷ []) _ refl ∙ law (coloned ls n cs k) (98 ∷ []) rest refl
  one_column ls n cs k Free rest e = law (columns ls n cs) (32 ∷ []) _ refl ∙ law (spaced ls n cs) k _ e ∙ law (kinded ls n cs k) (58 ∷ []) _ refl ∙ law (coloned ls n cs k) (102 ∷ []) rest refl

  along_columns : (ls : List Line) (n : Token) (cs ds : List Column) (rest : List Token) → Named ds → F (columns ls n cs) (write_columns ds rest) ≡ F (columns ls n (cs ++ ds)) rest
  along_columns ls n cs [] rest g = rw (append-nil cs) refl
  along_columns ls n cs (d ∷ ds) rest g =
      one_column ls n cs d.kind d.mark (write_columns ds rest) g.0
      ∙ along_columns ls n (cs ++ d ∷ []) ds rest g.1
      ∙ ap (λ (x : List Column). F (columns ls n x) rest) (append_assoc cs (d ∷ []) ds)

  one_line : (ls : List Line) (l : Line) (rest : List Token) → FormedLine l → F (lines ls) (l.name ∷ write_columns l.columns ((10 ∷ []) ∷ rest)) ≡ F (lines (ls ++ l ∷ [])) rest
  one_line ls l rest g =
      law (lines ls) l.name _ g.named
      ∙ along_columns ls l.name [] l.columns ((10 ∷ []) ∷ rest) g.kinds
      ∙ law (columns ls l.name l.columns) (10 ∷ []) rest (rw g.column refl)

  along_lines : (xs ls : List Line) (rest : List Token) → Formed ls → F (lines xs) (write ls rest) ≡ F (lines (xs ++ ls)) rest
  along_lines xs [] rest g = rw (append-nil xs) refl
  along_lines xs (l ∷ ls) rest g =
      one_line xs l (write ls rest) g.0
      ∙ along_lines (xs ++ l ∷ []) ls rest g.1
      ∙ ap (λ (x : List Line). F (lines x) rest) (append_assoc xs (l ∷ []) ls)

  to_columns : (ls : List Line) (n : Token) (cs : List Column) (rest : List Token) → GoodLine ls n cs → F (lines []) (write ls (n ∷ write_columns cs rest)) ≡ F (columns ls n cs) rest
  to_columns ls n cs rest g =
      along_lines [] ls (n ∷ write_columns cs rest) g.formed
      ∙ law (lines ls) n _ g.named
      ∙ along_columns ls n [] cs rest g.kinds

  along : (p : Part) (rest : List Token) → Good p → F (lines []) (shown p rest) ≡ F p rest
  along (lines ls) rest g = along_lines [] ls rest g
  along (columns ls n cs) rest g = to_columns ls n cs rest g
  along (spaced ls n cs) rest g = to_columns ls n cs ((32 ∷ []) ∷ rest) g ∙ law (columns ls n cs) (32 ∷ []) rest refl
  along (kinded ls n cs k) rest g = to_columns ls n cs ((32 ∷ []) ∷ k ∷ rest) g.0 ∙ law (columns ls n cs) (32 ∷ []) (k ∷ rest) refl ∙ law (spaced ls n cs) k rest g.1
  along (coloned ls n cs k) rest g =
      to_columns ls n cs ((32 ∷ []) ∷ k ∷ (58 ∷ []) ∷ rest) g.0 ∙ law (columns ls n cs) (32 ∷ []) (k ∷ (58 ∷ []) ∷ rest) refl
      ∙ law (spaced ls n cs) k ((58 ∷ []) ∷ rest) g.1 ∙ law (kinded ls n cs k) (58 ∷ []) rest refl

-- what is shown stands in front
columns_front : (cs : List Column) (xs ys : List Token) → write_columns cs (xs ++ ys) ≡ write_columns cs xs ++ ys
columns_front [] xs ys = refl
columns_front (c ∷ cs) xs ys = ap (λ (r : List Token). (32 ∷ []) ∷ c.kind ∷ (58 ∷ []) ∷ letter c.mark ∷ r) (columns_front cs xs ys)

lines_front : (ls : List Line) (xs ys : List Token) → write ls (xs ++ ys) ≡ write ls xs ++ ys
lines_front [] xs ys = refl
lines_front (l ∷ ls) xs ys = ap (λ (r : List Token). l.name ∷ write_columns l.columns ((10 ∷ []) ∷ r)) (lines_front ls xs ys) ∙ ap (λ (r : List Token). l.name ∷ r) (columns_front l.columns ((10 ∷ []) ∷ write ls xs) ys)

behind : (ls : List Line) (n : Token) (cs : List Column) (xs ys : List Token) → write ls (n ∷ write_columns cs (xs ++ ys)) ≡ write ls (n ∷ write_columns cs xs) ++ ys
behind ls n cs xs ys = ap (λ (r : List Token). write ls (n ∷ r)) (columns_front cs xs ys) ∙ lines_front ls (n ∷ write_columns cs xs) ys

shown_front : (p : Part) (rest : List Token) → shown p rest ≡ shown p [] ++ rest
shown_front (lines ls) rest = lines_front ls [] rest
shown_front (columns ls n cs) rest = behind ls n cs [] rest
shown_front (spaced ls n cs) rest = behind ls n cs ((32 ∷ []) ∷ []) rest
shown_front (kinded ls n cs k) rest = behind ls n cs ((32 ∷ []) ∷ k ∷ []) rest
shown_front (coloned ls n cs k) rest = behind ls n cs ((32 ∷ []) ∷ k ∷ (58 ∷ []) ∷ []) rest

-- every part can be made whole
abbrev Ending : Part → Type 0
Ending p = (rest : List Token) × (runs fits next p rest ≡ true) × (whole (after next p rest) ≡ true)

abbrev last_mark : List Token
last_mark = (98 ∷ []) ∷ (10 ∷ []) ∷ []

ending : (p : Part) → Good p → Ending p
unfolding is_name class
ending (lines ls) g = ((97 ∷ []) ∷ (32 ∷ []) ∷ (97 ∷ []) ∷ (58 ∷ []) ∷ last_mark, refl, some_more ls _)
ending (columns ls n cs) g = ((32 ∷ []) ∷ (97 ∷ []) ∷ (58 ∷ []) ∷ last_mark, rw (some_more cs (record { kind = 97 ∷ []; mark = Given })) refl, some_more ls _)
ending (spaced ls n cs) g = ((97 ∷ []) ∷ (58 ∷ []) ∷ last_mark, rw (some_more cs (record { kind = 97 ∷ []; mark = Given })) refl, some_more ls _)
ending (kinded ls n cs k) g = ((58 ∷ []) ∷ last_mark, rw (some_more cs (record { kind = k; mark = Given })) refl, some_more ls _)
ending (coloned ls n cs k) g = (last_mark, rw (some_more cs (record { kind = k; mark = Given })) refl, some_more ls _)

-- what is wrong has a cause, and every cause is found
over_cause : (p : Part) (t : Token) → over p t ≡ true → Cause p t CatalogueLimit
over_cause (lines ls) t e = elim (or_cases (ltb 16 (length t)) (leb 8 (length ls)) e) [ inl h ↦ long_name ls t (ltb-true 16 (length t) h) | inr h ↦ ninth_line ls t (leb-true 8 (length ls) h) ]
over_cause (columns ls n cs) t e = absurd (both_ways _ refl e)
over_cause (spaced ls n cs) t e = go (or_cases (leb 4 (length cs)) (crowded t (known ls cs)) e)
  where
    by : (ltb 16 (length t) ≡ true) ⊎ ((not (among t (known ls cs)) && leb 16 (length (known ls cs))) ≡ true) → Cause (spaced ls n cs) t CatalogueLimit
    by (inl h) = long_kind ls n cs t (ltb-true 16 (length t) h)
    by (inr h) =
        let z = and_parts (not (among t (known ls cs))) (leb 16 (length (known ls cs))) h in
        seventeenth_kind ls n cs t (not-true (among t (known ls cs)) z.0) (leb-true 16 (length (known ls cs)) z.1)

    go : (leb 4 (length cs) ≡ true) ⊎ (crowded t (known ls cs) ≡ true) → Cause (spaced ls n cs) t CatalogueLimit
    go (inl h) = fifth_column ls n cs t (leb-true 4 (length cs) h)
    go (inr h) = by (or_cases (ltb 16 (length t)) (not (among t (known ls cs)) && leb 16 (length (known ls cs))) h)
over_cause (kinded ls n cs k) t e = absurd (both_ways _ refl e)
over_cause (coloned ls n cs k) t e =
    let z = and_parts (is 98 t) (leb 3 (inputs_of (marks_in cs))) e in
    subst (λ (x : Token). Cause (coloned ls n cs k) x CatalogueLimit) (sym (is_it 98 t z.0)) (fourth_given ls n cs k (leb-true 3 (inputs_of (marks_in cs)) z.1))

again_cause : (p : Part) (t : Token) → again p t ≡ true → Cause p t SourceNamedTwice
again_cause (lines ls) t e = named_twice ls t e
again_cause (columns ls n cs) t e = absurd (both_ways _ refl e)
again_cause (spaced ls n cs) t e = absurd (both_ways _ refl e)
again_cause (kinded ls n cs k) t e = absurd (both_ways _ refl e)
again_cause (coloned ls n cs k) t e = absurd (both_ways _ refl e)

found : (p : Part) (t : Token) (r : Refusal) → fits p t ≡ true → wrong p t ≡ Some r → Cause p t r
found p t r e w = go (fits p t) (over p t) (again p t) e refl refl w
  where
    go : (a b c : Bool) → a ≡ true → over p t ≡ b → again p t ≡ c → refusal a b c ≡ Some r → Cause p t r
    go false b c x y z k = absurd (both_ways _ refl x)
    go true true c x y z k = let q : CatalogueLimit ≡ r = cc in subst (Cause p t) q (over_cause p t y)
    go true false true x y z k = let q : SourceNamedTwice ≡ r = cc in subst (Cause p t) q (again_cause p t z)
    go true false false x y z k = absurd (let u : ◌≡◌ {A = ℕ} 0 1 = cc in omega arith)

abbrev Told : Part → Token → ℕ → Type 0
Told p t m = (s : Refusal) × (wrong p t ≡ Some s) × (number s ≤ m)

told_over : (p : Part) (t : Token) → over p t ≡ true → Told p t 2
told_over p t e = go (fits p t) refl
  where
    go : (a : Bool) → fits p t ≡ a → Told p t 2
    go true f = (CatalogueLimit, rw (f, e) refl, omega arith)
    go false f = (CatalogueForm, rw f refl, omega arith)

told_again : (p : Part) (t : Token) → again p t ≡ true → Told p t 3
told_again p t e = go (fits p t) (over p t) refl refl
  where
    go : (a b : Bool) → fits p t ≡ a → over p t ≡ b → Told p t 3
    go true true f o = (CatalogueLimit, rw (f, o) refl, omega arith)
    go true false f o = (SourceNamedTwice, rw (f, o, e) refl, omega arith)
    go false b f o = (CatalogueForm, rw f refl, omega arith)

least : (p : Part) (t : Token) (r : Refusal) → Cause p t r → Told p t (number r)
least p t r (long_name ls x h) = told_over (lines ls) x (or_left (ltb 16 (length x)) (leb 8 (length ls)) (lt-ltb 16 (length x) h))
least p t r (ninth_line ls x h) = told_over (lines ls) x (or_right (ltb 16 (length x)) (leb 8 (length ls)) (le-leb 8 (length ls) h))
least p t r (named_twice ls x h) = told_again (lines ls) x h
least p t r (long_kind ls n cs x h) = told_over (spaced ls n cs) x (or_right (leb 4 (length cs)) (crowded x (known ls cs)) (rw (lt-ltb 16 (length x) h) refl))
least p t r (fifth_column ls n cs x h) = told_over (spaced ls n cs) x (or_left (leb 4 (length cs)) (crowded x (known ls cs)) (le-leb 4 (length cs) h))
least p t r (seventeenth_kind ls n cs x h k) =
    told_over (spaced ls n cs) x (or_right (leb 4 (length cs)) (crowded x (known ls cs))
    (or_right (ltb 16 (length x)) (not (among x (known ls cs)) && leb 16 (length (known ls cs))) (rw h (le-leb 16 (length (known ls cs)) k))))
least p t r (fourth_given ls n cs k h) = told_over (coloned ls n cs k) (98 ∷ []) (le-leb 3 (inputs_of (marks_in cs)) h)

right : (p : Part) (t : Token) → wrong p t ≡ None → fits p t ≡ true
right p t e = go (fits p t) refl e
  where
    go : (a : Bool) → fits p t ≡ a → refusal a (over p t) (again p t) ≡ None → fits p t ≡ true
    go true i f = i
    go false i f = absurd (let u : ◌≡◌ {A = ℕ} 0 1 = cc in omega arith)

pub lawful : Lawful sheets steps
lawful = record {
  good_start = tt;
  shown_start = refl;
  good_next = good_next;
  shown_next = shown_next;
  shown_front = shown_front;
  along = λ F law p rest g. along F law p rest g;
  ending = ending;
  unfit = λ p t e. rw e refl;
  right = right;
  found = found;
  least = least;
}

abbrev of_number : ℕ → Refusal
of_number n = cond (eqb n 1) CatalogueForm (cond (eqb n 2) CatalogueLimit SourceNamedTwice)

of_cause : (p : Part) (t : Token) (r : Refusal) → Cause p t r → of_number (number r) ≡ r
of_cause p t r (long_name ls x h) = refl
of_cause p t r (ninth_line ls x h) = refl
of_cause p t r (named_twice ls x h) = refl
of_cause p t r (long_kind ls n cs x h) = refl
of_cause p t r (fifth_column ls n cs x h) = refl
of_cause p t r (seventeenth_kind ls n cs x h k) = refl
of_cause p t r (fourth_given ls n cs k h) = refl

pub decoder : Decoder sheets
decoder = record { decoded = of_number; of_form = refl; of_limit = refl; of_cause = of_cause }
