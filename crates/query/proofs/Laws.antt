-- The steps of the reader go along with the grammar of queries.
use Rattle.std.proofs.Common.{◌≡◌, ℕ, ◌≤◌, Bool, true, false, cond, not, ◌&&◌, eqb, ltb, leb, ◌⊎◌, List, [], ◌∷◌, ◌++◌, length, get_or, Some, None, Option, sym, refl, ap, ◌∙◌, subst, inl, inr, append_assoc, append-nil, arith, ltb-true, lt-ltb, ne_eqb, le-leb, leb-true}
use borrow.Author.Tests.{not-true, eqb-false}
use Rattle.std.proofs.lemmas.Bool.{or_cases, or_left, or_right, and_parts, and_from, both_ways}
use Rattle.faults.specs.declared.refusal.Refusal.{Refusal}
use Rattle.faults.specs.declared.refusal.Refusal.TheVariants.{QueryForm, UnfitLiteral, QueryLimit, VariableInTwoKinds, ConstantTooLarge}
use Rattle.faults.specs.Refusals.{number}
use Rattle.lexing.specs.Classes.{class}
use Rattle.lexing.specs.Tokens.{Token, is}
use Rattle.lexing.specs.Lists.{crowded}
use Rattle.lexing.specs.Names.{is_name, among}
use Rattle.lexing.proofs.Bools.{is_it, one_of_two}
use Rattle.lexing.proofs.Naming.{same_is, same_self}
use Rattle.lexing.proofs.Course.{Lawful, Decoder, runs, after}
use Rattle.catalogue.specs.Records.{Described}
use Rattle.query.specs.Terms.{is_variable, is_constant, is_term, value}
use Rattle.query.specs.Noted.{other_kind}
use Rattle.query.specs.Rules.{Atom, commas, write_atom, write_literals, arrow, write_atoms, Have, Formed, AllFormed, item_form, FormedAtoms, Part, wanted, named, due, listed, closed, stopped, shown, Good, whole, known, kinds_at, kind_of, Cause, long_head, fifth_head_variable, unknown_source, ninth_literal, term_too_many, closed_early, long_variable, seventeenth_variable, two_kinds, constant_too_large, queries}
use Rattle.query.specs.Reading.{fits, atom_of, next, stray, over, mixed, large, refusal, wrong, steps}

-- one more at the end
pub have_more : (f : Token → Bool) (ts : List Token) (t : Token) → Have f ts → f t ≡ true → Have f (ts ++ t ∷ [])
have_more f [] t g e = (e, tt)
have_more f (x ∷ ts) t g e = (g.0, have_more f ts t g.1 e)

formed_more : (ls : List Atom) (l : Atom) → AllFormed ls → Formed is_term l → AllFormed (ls ++ l ∷ [])
formed_more [] l g e = (e, tt)
formed_more (x ∷ ls) l g e = (g.0, formed_more ls l g.1 e)

commas_more : (ts : List Token) (t : Token) (rest : List Token) → commas (ts ++ t ∷ []) rest ≡ commas ts (t ∷ (44 ∷ []) ∷ rest)
commas_more [] t rest = refl
commas_more (x ∷ ts) t rest = ap (λ (r : List Token). x ∷ (44 ∷ []) ∷ r) (commas_more ts t rest)

literals_more : (ls : List Atom) (l : Atom) (rest : List Token) → write_literals (ls ++ l ∷ []) rest ≡ write_literals ls (write_atom l ((44 ∷ []) ∷ rest))
literals_more [] l rest = refl
literals_more (x ∷ ls) l rest = ap (λ (r : List Token). write_atom x ((44 ∷ []) ∷ r)) (literals_more ls l rest)

good_next : (p : Part) (t : Token) → Good p → fits p t ≡ true → Good (next p t)
good_next (wanted us) t g e = (g, e)
good_next (named us n) t g e = (g.0, g.1, tt)
good_next (due us n ts) t g e = (g.0, g.1, g.2, e)
good_next (listed us n ts x) t g e = go (is 44 t)
  where
    go : (b : Bool) → Good (cond b (due us n (ts ++ x ∷ [])) (closed us (atom_of n ts x)))
    go true = (g.0, g.1, have_more (item_form us) ts x g.2 g.3)
    go false = (g.0, record { named = g.1; fronts = g.2; lasts = g.3 })
good_next (closed [] a) t g e = (g.1, tt)
good_next (closed (h ∷ ls) a) t g e = go (is 44 t)
  where
    go : (b : Bool) → Good (cond b (wanted (h ∷ (ls ++ a ∷ []))) (stopped (h ∷ ls) a))
    go true = (g.0.0, formed_more ls a g.0.1 g.1)
    go false = (g.0, g.1, refl)
good_next (stopped us a) t g e = g

shown_next : (p : Part) (t : Token) (rest : List Token) → fits p t ≡ true → shown (next p t) rest ≡ shown p (t ∷ rest)
shown_next (wanted us) t rest e = refl
shown_next (named us n) t rest e = ap (λ (x : Token). write_atoms us (n ∷ x ∷ rest)) (sym (is_it 40 t e))
shown_next (due us n ts) t rest e = refl
shown_next (listed us n ts x) t rest e = go (one_of_two 44 41 t e)
  where
    go : (is 44 t ≡ true) ⊎ ((is 44 t ≡ false) × (t ≡ 41 ∷ [])) → shown (cond (is 44 t) (due us n (ts ++ x ∷ [])) (closed us (atom_of n ts x))) rest ≡ shown (listed us n ts x) (t ∷ rest)
    go (inl i) = rw i (ap (λ (r : List Token). write_atoms us (n ∷ (40 ∷ []) ∷ r)) (commas_more ts x rest) ∙ ap (λ (y : Token). shown (listed us n ts x) (y ∷ rest)) (sym (is_it 44 t i)))
    go (inr i) = rw i.0 (ap (λ (y : Token). shown (listed us n ts x) (y ∷ rest)) (sym i.1))
shown_next (closed [] a) t rest e = ap (λ (y : Token). write_atom a (y ∷ rest)) (sym (same_is t arrow e))
shown_next (closed (h ∷ ls) a) t rest e = go (one_of_two 44 46 t e)
  where
    go : (is 44 t ≡ true) ⊎ ((is 44 t ≡ false) × (t ≡ 46 ∷ [])) → shown (cond (is 44 t) (wanted (h ∷ (ls ++ a ∷ []))) (stopped (h ∷ ls) a)) rest ≡ shown (closed (h ∷ ls) a) (t ∷ rest)
    go (inl i) = rw i (ap (λ (r : List Token). write_atom h (arrow ∷ r)) (literals_more ls a rest) ∙ ap (λ (y : Token). shown (closed (h ∷ ls) a) (y ∷ rest)) (sym (is_it 44 t i)))
    go (inr i) = rw i.0 (ap (λ (y : Token). shown (closed (h ∷ ls) a) (y ∷ rest)) (sym i.1))
shown_next (stopped us a) t rest e = absurd (both_ways _ refl e)

-- what goes along with the parts goes along with what is shown
module _ {X : Type 0} (F : Part → List Token → X) (law : (p : Part) (t : Token) (ts : List Token) → fits p t ≡ true → F p (t ∷ ts) ≡ F (next p t) ts) where
  along_commas : (us : List Atom) (n : Token) (ts xs rest : List Token) → Have (item_form us) xs → F (due us n ts) (commas xs rest) ≡ F (due us n (ts ++ xs)) rest
  along_commas us n ts [] rest g = rw (append-nil ts) refl
  along_commas us n ts (x ∷ xs) rest g =
      law (due us n ts) x _ g.0 ∙ law (listed us n ts x) (44 ∷ []) _ refl ∙ along_commas us n (ts ++ x ∷ []) xs rest g.1
      ∙ ap (λ (y : List Token). F (due us n y) rest) (append_assoc ts (x ∷ []) xs)

  to_due : (us : List Atom) (n : Token) (ts rest : List Token) → is_name n ≡ true → Have (item_form us) ts → F (wanted us) (n ∷ (40 ∷ []) ∷ commas ts rest) ≡ F (due us n ts) rest
  to_due us n ts rest e g = law (wanted us) n _ e ∙ law (named us n) (40 ∷ []) _ refl ∙ along_commas us n [] ts rest g

  to_closed : (us : List Atom) (a : Atom) (rest : List Token) → Formed (item_form us) a → F (wanted us) (write_atom a rest) ≡ F (closed us a) rest
  to_closed us a rest g =
      to_due us a.name a.front (a.last ∷ (41 ∷ []) ∷ rest) g.named g.fronts
      ∙ law (due us a.name a.front) a.last _ g.lasts ∙ law (listed us a.name a.front a.last) (41 ∷ []) rest refl

  along_literals : (h : Atom) (xs ls : List Atom) (rest : List Token) → AllFormed ls → F (wanted (h ∷ xs)) (write_literals ls rest) ≡ F (wanted (h ∷ (xs ++ ls))) rest
  along_literals h xs [] rest g = rw (append-nil xs) refl
  along_literals h xs (l ∷ ls) rest g =
      to_closed (h ∷ xs) l _ g.0 ∙ law (closed (h ∷ xs) l) (44 ∷ []) _ refl ∙ along_literals h (xs ++ l ∷ []) ls rest g.1
      ∙ ap (λ (y : List Atom). F (wanted (h ∷ y)) rest) (append_assoc xs (l ∷ []) ls)

  along_atoms : (us : List Atom) (rest : List Token) → FormedAtoms us → F (wanted []) (write_atoms us rest) ≡ F (wanted us) rest
  along_atoms [] rest g = refl
  along_atoms (h ∷ ls) rest g = to_closed [] h _ g.0 ∙ law (closed [] h) arrow _ (same_self arrow) ∙ along_literals h [] ls rest g.1

  along : (p : Part) (rest : List Token) → Good p → F (wanted []) (shown p rest) ≡ F p rest
  along (wanted us) rest g = along_atoms us rest g
  along (named us n) rest g = along_atoms us _ g.0 ∙ law (wanted us) n rest g.1
  along (due us n ts) rest g = along_atoms us _ g.0 ∙ to_due us n ts rest g.1 g.2
  along (listed us n ts x) rest g = along_atoms us _ g.0 ∙ to_due us n ts _ g.1 g.2 ∙ law (due us n ts) x rest g.3
  along (closed us a) rest g = along_atoms us _ g.0 ∙ to_closed us a rest g.1
  along (stopped [] a) rest g = absurd (both_ways _ refl g.2)
  along (stopped (h ∷ ls) a) rest g = along_atoms (h ∷ ls) _ g.0 ∙ to_closed (h ∷ ls) a _ g.1 ∙ law (closed (h ∷ ls) a) (46 ∷ []) rest refl

-- what is shown stands in front
commas_front : (ts xs ys : List Token) → commas ts (xs ++ ys) ≡ commas ts xs ++ ys
commas_front [] xs ys = refl
commas_front (t ∷ ts) xs ys = ap (λ (r : List Token). t ∷ (44 ∷ []) ∷ r) (commas_front ts xs ys)

atom_front : (a : Atom) (xs ys : List Token) → write_atom a (xs ++ ys) ≡ write_atom a xs ++ ys
atom_front a xs ys = ap (λ (r : List Token). a.name ∷ (40 ∷ []) ∷ r) (commas_front a.front (a.last ∷ (41 ∷ []) ∷ xs) ys)

literals_front : (ls : List Atom) (xs ys : List Token) → write_literals ls (xs ++ ys) ≡ write_literals ls xs ++ ys
literals_front [] xs ys = refl
literals_front (l ∷ ls) xs ys = ap (λ (r : List Token). write_atom l ((44 ∷ []) ∷ r)) (literals_front ls xs ys) ∙ atom_front l ((44 ∷ []) ∷ write_literals ls xs) ys

atoms_front : (us : List Atom) (xs ys : List Token) → write_atoms us (xs ++ ys) ≡ write_atoms us xs ++ ys
atoms_front [] xs ys = refl
atoms_front (h ∷ ls) xs ys = ap (λ (r : List Token). write_atom h (arrow ∷ r)) (literals_front ls xs ys) ∙ atom_front h (arrow ∷ write_literals ls xs) ys

behind : (us : List Atom) (n : Token) (ts xs ys : List Token) → write_atoms us (n ∷ (40 ∷ []) ∷ commas ts (xs ++ ys)) ≡ write_atoms us (n ∷ (40 ∷ []) ∷ commas ts xs) ++ ys
behind us n ts xs ys = ap (λ (r : List Token). write_atoms us (n ∷ (40 ∷ []) ∷ r)) (commas_front ts xs ys) ∙ atoms_front us (n ∷ (40 ∷ []) ∷ commas ts xs) ys

pub shown_front : (p : Part) (rest : List Token) → shown p rest ≡ shown p [] ++ rest
shown_front (wanted us) rest = atoms_front us [] rest
shown_front (named us n) rest = atoms_front us (n ∷ []) rest
shown_front (due us n ts) rest = behind us n ts [] rest
shown_front (listed us n ts x) rest = behind us n ts (x ∷ []) rest
shown_front (closed us a) rest = behind us a.name a.front (a.last ∷ (41 ∷ []) ∷ []) rest
shown_front (stopped us a) rest = behind us a.name a.front (a.last ∷ (41 ∷ []) ∷ (46 ∷ []) ∷ []) rest

-- every part can be made whole
abbrev Ending : Part → Type 0
Ending p = (rest : List Token) × (runs fits next p rest ≡ true) × (whole (after next p rest) ≡ true)

abbrev to_dot : List Atom → List Token
to_dot [] = arrow ∷ (97 ∷ []) ∷ (40 ∷ []) ∷ (65 ∷ []) ∷ (41 ∷ []) ∷ (46 ∷ []) ∷ []
to_dot (h ∷ ls) = (46 ∷ []) ∷ []

ending : (p : Part) → Good p → Ending p
unfolding is_name is_variable class
ending (wanted []) g = ((97 ∷ []) ∷ (40 ∷ []) ∷ (65 ∷ []) ∷ (41 ∷ []) ∷ to_dot [], refl, refl)
ending (wanted (h ∷ ls)) g = ((97 ∷ []) ∷ (40 ∷ []) ∷ (65 ∷ []) ∷ (41 ∷ []) ∷ to_dot (h ∷ ls), refl, refl)
ending (named [] n) g = ((40 ∷ []) ∷ (65 ∷ []) ∷ (41 ∷ []) ∷ to_dot [], refl, refl)
ending (named (h ∷ ls) n) g = ((40 ∷ []) ∷ (65 ∷ []) ∷ (41 ∷ []) ∷ to_dot (h ∷ ls), refl, refl)
ending (due [] n ts) g = ((65 ∷ []) ∷ (41 ∷ []) ∷ to_dot [], refl, refl)
ending (due (h ∷ ls) n ts) g = ((65 ∷ []) ∷ (41 ∷ []) ∷ to_dot (h ∷ ls), refl, refl)
ending (listed [] n ts x) g = ((41 ∷ []) ∷ to_dot [], refl, refl)
ending (listed (h ∷ ls) n ts x) g = ((41 ∷ []) ∷ to_dot (h ∷ ls), refl, refl)
ending (closed [] a) g = (to_dot [], refl, refl)
ending (closed (h ∷ ls) a) g = (to_dot (h ∷ ls), refl, refl)
ending (stopped us a) g = ([], refl, refl)

-- what is wrong has a cause, and every cause is found
module _ (cat : Described) where
  stray_cause : (p : Part) (t : Token) → stray cat p t ≡ true → Cause cat p t UnfitLiteral
  stray_cause (wanted []) t e = absurd (both_ways _ refl e)
  stray_cause (wanted (h ∷ ls)) t e = unknown_source h ls t (not-true (among t cat.names) e)
  stray_cause (named us n) t e = absurd (both_ways _ refl e)
  stray_cause (due [] n ts) t e = absurd (both_ways _ refl e)
  stray_cause (due (h ∷ ls) n ts) t e = term_too_many h ls n ts t (leb-true (length (kinds_at cat n)) (length ts) e)
  stray_cause (listed [] n ts x) t e = absurd (both_ways _ refl e)
  stray_cause (listed (h ∷ ls) n ts x) t e =
      let z = and_parts (is 41 t) (ltb (length (ts ++ x ∷ [])) (length (kinds_at cat n))) e in
      subst (λ (y : Token). Cause cat (listed (h ∷ ls) n ts x) y UnfitLiteral) (sym (is_it 41 t z.0)) (closed_early h ls n ts x (ltb-true (length (ts ++ x ∷ [])) (length (kinds_at cat n)) z.1))
  stray_cause (closed us a) t e = absurd (both_ways _ refl e)
  stray_cause (stopped us a) t e = absurd (both_ways _ refl e)

  crowd_cause : (us : List Atom) (n : Token) (ts : List Token) (t : Token) → (is_variable t && crowded t (known us ts)) ≡ true → Cause cat (due us n ts) t QueryLimit
  crowd_cause us n ts t e = go (or_cases (ltb 16 (length t)) (not (among t (known us ts)) && leb 16 (length (known us ts))) (and_parts (is_variable t) (crowded t (known us ts)) e).1)
    where
      go : (ltb 16 (length t) ≡ true) ⊎ ((not (among t (known us ts)) && leb 16 (length (known us ts))) ≡ true) → Cause cat (due us n ts) t QueryLimit
      go (inl h) = long_variable us n ts t (and_parts (is_variable t) (crowded t (known us ts)) e).0 (ltb-true 16 (length t) h)
      go (inr h) =
          let z = and_parts (not (among t (known us ts))) (leb 16 (length (known us ts))) h in
          seventeenth_variable us n ts t (and_parts (is_variable t) (crowded t (known us ts)) e).0 (not-true (among t (known us ts)) z.0) (leb-true 16 (length (known us ts)) z.1)

  over_cause : (p : Part) (t : Token) → over p t ≡ true → Cause cat p t QueryLimit
  over_cause (wanted []) t e = long_head t (ltb-true 16 (length t) e)
  over_cause (wanted (h ∷ ls)) t e = ninth_literal h ls t (leb-true 8 (length ls) e)
  over_cause (named us n) t e = absurd (both_ways _ refl e)
  over_cause (due [] n ts) t e = elim (or_cases (leb 4 (length ts)) (is_variable t && crowded t (known [] ts)) e) [ inl h ↦ fifth_head_variable n ts t (leb-true 4 (length ts) h) | inr h ↦ crowd_cause [] n ts t h ]
  over_cause (due (h ∷ ls) n ts) t e = crowd_cause (h ∷ ls) n ts t e
  over_cause (listed us n ts x) t e = absurd (both_ways _ refl e)
  over_cause (closed us a) t e = absurd (both_ways _ refl e)
  over_cause (stopped us a) t e = absurd (both_ways _ refl e)

  mixed_cause : (p : Part) (t : Token) → mixed cat p t ≡ true → Cause cat p t VariableInTwoKinds
  mixed_cause (wanted us) t e = absurd (both_ways _ refl e)
  mixed_cause (named us n) t e = absurd (both_ways _ refl e)
  mixed_cause (due [] n ts) t e = absurd (both_ways _ refl e)
  mixed_cause (due (h ∷ ls) n ts) t e = go (kind_of cat t ls n ts) refl (and_parts (is_variable t) (other_kind (kind_of cat t ls n ts) (get_or (kinds_at cat n) (length ts) 0)) e).1
    where
      go : (o : Option ℕ) → kind_of cat t ls n ts ≡ o → other_kind o (get_or (kinds_at cat n) (length ts) 0) ≡ true → Cause cat (due (h ∷ ls) n ts) t VariableInTwoKinds
      go None f k = absurd (both_ways _ refl k)
      go (Some j) f k = two_kinds h ls n ts t j (and_parts (is_variable t) (other_kind (kind_of cat t ls n ts) (get_or (kinds_at cat n) (length ts) 0)) e).0 f (eqb-false j (get_or (kinds_at cat n) (length ts) 0) (not-true (eqb j (get_or (kinds_at cat n) (length ts) 0)) k))
  mixed_cause (listed us n ts x) t e = absurd (both_ways _ refl e)
  mixed_cause (closed us a) t e = absurd (both_ways _ refl e)
  mixed_cause (stopped us a) t e = absurd (both_ways _ refl e)

  large_cause : (p : Part) (t : Token) → large p t ≡ true → Cause cat p t ConstantTooLarge
  large_cause (wanted us) t e = absurd (both_ways _ refl e)
  large_cause (named us n) t e = absurd (both_ways _ refl e)
  large_cause (due [] n ts) t e = absurd (both_ways _ refl e)
  large_cause (due (h ∷ ls) n ts) t e = let z = and_parts (is_constant t) (ltb 4294967295 (value t)) e in constant_too_large h ls n ts t z.0 (ltb-true 4294967295 (value t) z.1)
  large_cause (listed us n ts x) t e = absurd (both_ways _ refl e)
  large_cause (closed us a) t e = absurd (both_ways _ refl e)
  large_cause (stopped us a) t e = absurd (both_ways _ refl e)

  found : (p : Part) (t : Token) (r : Refusal) → fits p t ≡ true → wrong cat p t ≡ Some r → Cause cat p t r
  found p t r e w = go (fits p t) (stray cat p t) (over p t) (mixed cat p t) (large p t) e refl refl refl refl w
    where
      go : (f a b c d : Bool) → f ≡ true → stray cat p t ≡ a → over p t ≡ b → mixed cat p t ≡ c → large p t ≡ d → refusal f a b c d ≡ Some r → Cause cat p t r
      go false a b c d x y z u v k = absurd (both_ways _ refl x)
      go true true b c d x y z u v k = let q : UnfitLiteral ≡ r = cc in subst (Cause cat p t) q (stray_cause p t y)
      go true false true c d x y z u v k = let q : QueryLimit ≡ r = cc in subst (Cause cat p t) q (over_cause p t z)
      go true false false true d x y z u v k = let q : VariableInTwoKinds ≡ r = cc in subst (Cause cat p t) q (mixed_cause p t u)
      go true false false false true x y z u v k = let q : ConstantTooLarge ≡ r = cc in subst (Cause cat p t) q (large_cause p t v)
      go true false false false false x y z u v k = absurd (let q : ◌≡◌ {A = ℕ} 0 1 = cc in omega arith)

  abbrev Told : Part → Token → ℕ → Type 0
  Told p t m = (s : Refusal) × (wrong cat p t ≡ Some s) × (number s ≤ m)

  -- with one of the tests true, a refusal of no higher number is told
  told_stray : (p : Part) (t : Token) → stray cat p t ≡ true → Told p t 12
  told_stray p t e = go (fits p t) refl
    where
      go : (f : Bool) → fits p t ≡ f → Told p t 12
      go true i = (UnfitLiteral, rw (i, e) refl, omega arith)
      go false i = (QueryForm, rw i refl, omega arith)

  told_over : (p : Part) (t : Token) → over p t ≡ true → Told p t 13
  told_over p t e = go (fits p t) (stray cat p t) refl refl
    where
      go : (f a : Bool) → fits p t ≡ f → stray cat p t ≡ a → Told p t 13
      go true true i j = (UnfitLiteral, rw (i, j) refl, omega arith)
      go true false i j = (QueryLimit, rw (i, j, e) refl, omega arith)
      go false a i j = (QueryForm, rw i refl, omega arith)

  told_mixed : (p : Part) (t : Token) → mixed cat p t ≡ true → Told p t 14
  told_mixed p t e = go (fits p t) (stray cat p t) (over p t) refl refl refl
    where
      go : (f a b : Bool) → fits p t ≡ f → stray cat p t ≡ a → over p t ≡ b → Told p t 14
      go true true b i j k = (UnfitLiteral, rw (i, j) refl, omega arith)
      go true false true i j k = (QueryLimit, rw (i, j, k) refl, omega arith)
      go true false false i j k = (VariableInTwoKinds, rw (i, j, k, e) refl, omega arith)
      go false a b i j k = (QueryForm, rw i refl, omega arith)

  told_large : (p : Part) (t : Token) → large p t ≡ true → Told p t 16
  told_large p t e = go (fits p t) (stray cat p t) (over p t) (mixed cat p t) refl refl refl refl
    where
      go : (f a b c : Bool) → fits p t ≡ f → stray cat p t ≡ a → over p t ≡ b → mixed cat p t ≡ c → Told p t 16
      go true true b c i j k l = (UnfitLiteral, rw (i, j) refl, omega arith)
      go true false true c i j k l = (QueryLimit, rw (i, j, k) refl, omega arith)
      go true false false true i j k l = (VariableInTwoKinds, rw (i, j, k, l) refl, omega arith)
      go true false false false i j k l = (ConstantTooLarge, rw (i, j, k, l, e) refl, omega arith)
      go false a b c i j k l = (QueryForm, rw i refl, omega arith)

  crowd_over : (us : List Atom) (n : Token) (ts : List Token) (t : Token) → (is_variable t && crowded t (known us ts)) ≡ true → over (due us n ts) t ≡ true
  crowd_over [] n ts t e = or_right (leb 4 (length ts)) (is_variable t && crowded t (known [] ts)) e
  crowd_over (h ∷ ls) n ts t e = e

  least : (p : Part) (t : Token) (r : Refusal) → Cause cat p t r → Told p t (number r)
  least p t r (long_head x h) = told_over (wanted []) x (lt-ltb 16 (length x) h)
  least p t r (fifth_head_variable n ts x h) = told_over (due [] n ts) x (or_left (leb 4 (length ts)) (is_variable x && crowded x (known [] ts)) (le-leb 4 (length ts) h))
  least p t r (unknown_source h ls x k) = told_stray (wanted (h ∷ ls)) x (rw k refl)
  least p t r (ninth_literal h ls x k) = told_over (wanted (h ∷ ls)) x (le-leb 8 (length ls) k)
  least p t r (term_too_many h ls n ts x k) = told_stray (due (h ∷ ls) n ts) x (le-leb (length (kinds_at cat n)) (length ts) k)
  least p t r (closed_early h ls n ts x k) = told_stray (listed (h ∷ ls) n ts x) (41 ∷ []) (lt-ltb (length (ts ++ x ∷ [])) (length (kinds_at cat n)) k)
  least p t r (long_variable us n ts x v h) = told_over (due us n ts) x (crowd_over us n ts x (and_from (is_variable x) (crowded x (known us ts)) v (rw (lt-ltb 16 (length x) h) refl)))
  least p t r (seventeenth_variable us n ts x v h k) =
      told_over (due us n ts) x (crowd_over us n ts x (and_from (is_variable x) (crowded x (known us ts)) v
      (or_right (ltb 16 (length x)) (not (among x (known us ts)) && leb 16 (length (known us ts))) (rw h (le-leb 16 (length (known us ts)) k)))))
  least p t r (two_kinds h ls n ts x j v k d) =
      told_mixed (due (h ∷ ls) n ts) x (and_from (is_variable x) (other_kind (kind_of cat x ls n ts) (get_or (kinds_at cat n) (length ts) 0)) v (rw k (rw (ne_eqb j (get_or (kinds_at cat n) (length ts) 0) d) refl)))
  least p t r (constant_too_large h ls n ts x v k) = told_large (due (h ∷ ls) n ts) x (and_from (is_constant x) (ltb 4294967295 (value x)) v (lt-ltb 4294967295 (value x) k))

  right : (p : Part) (t : Token) → wrong cat p t ≡ None → fits p t ≡ true
  right p t e = go (fits p t) refl e
    where
      go : (f : Bool) → fits p t ≡ f → refusal f (stray cat p t) (over p t) (mixed cat p t) (large p t) ≡ None → fits p t ≡ true
      go true i f = i
      go false i f = absurd (let u : ◌≡◌ {A = ℕ} 0 1 = cc in omega arith)

  pub lawful : Lawful (queries cat) (steps cat)
  lawful = record {
    good_start = tt;
    shown_start = refl;
    good_next = good_next;
    shown_next = shown_next;
    shown_front = shown_front;
    along = λ F law p rest g. along F law p rest g;
    ending = ending;
    unfit = λ p t e. rw e refl;
    right = right;
    found = found;
    least = least;
  }

  abbrev of_number : ℕ → Refusal
  of_number n = cond (eqb n 11) QueryForm (cond (eqb n 12) UnfitLiteral (cond (eqb n 13) QueryLimit (cond (eqb n 14) VariableInTwoKinds ConstantTooLarge)))

  of_cause : (p : Part) (t : Token) (r : Refusal) → Cause cat p t r → of_number (number r) ≡ r
  of_cause p t r (long_head x h) = refl
  of_cause p t r (fifth_head_variable n ts x h) = refl
  of_cause p t r (unknown_source h ls x k) = refl
  of_cause p t r (ninth_literal h ls x k) = refl
  of_cause p t r (term_too_many h ls n ts x k) = refl
  of_cause p t r (closed_early h ls n ts x k) = refl
  of_cause p t r (long_variable us n ts x v h) = refl
  of_cause p t r (seventeenth_variable us n ts x v h k) = refl
  of_cause p t r (two_kinds h ls n ts x j v k d) = refl
  of_cause p t r (constant_too_large h ls n ts x v k) = refl

  pub decoder : Decoder (queries cat)
  decoder = record { decoded = of_number; of_form = refl; of_limit = refl; of_cause = of_cause }
