-- A token taken, stage by stage.
use Rattle.std.proofs.Common.{◌≡◌, ℕ, ◌<◌, ◌≤◌, Bool, true, false, cond, not, ◌&&◌, ◌||◌, ltb, leb, ◌⊎◌, List, [], ◌∷◌, ◌++◌, map, length, get_or, Some, None, Option, Err, sym, refl, ap, ◌∙◌, subst, inl, inr, arith, le-ltb, lt-ltb, le-leb}
use borrow.Author.Tests.{lt-leb}
use Rattle.std.specs.Option.{option_or, ok_or}
use Rattle.std.specs.Str.{bytes_eq}
use Rattle.std.proofs.lemmas.Bool.{or_left, or_right, both_ways, cases_Bool}
use Rattle.std.proofs.lemmas.List.{map_push, length-map, length_push}
use Rattle.faults.specs.declared.refusal.Refusal.{Refusal}
use Rattle.faults.specs.declared.refusal.Refusal.TheVariants.{QueryForm, UnfitLiteral, QueryLimit, VariableInTwoKinds, ConstantTooLarge}
use Rattle.bounded.specs.declared.list.Bounded.{Bounded}
use Rattle.lexing.specs.Tokens.{Token, is}
use Rattle.lexing.specs.Names.{is_name, among, place_of, number_of, with_name, numbers}
use Rattle.bounded.specs.Held.{held}
use Rattle.lexing.specs.Lists.{names, crowded, Numbered}
use Rattle.lexing.proofs.Bools.{is_it}
use Rattle.lexing.proofs.Naming.{place_some, place_none, numbers_push, numbers_kept, numbers_length, number_added, all_among_kept, all_among_push, among_added, length_added}
use Rattle.bounded.proofs.Holding.{length_held, pushed}
use Rattle.lexing.proofs.Holding.{crowds, roomy}
use Rattle.catalogue.specs.declared.record.Catalogue.{Catalogue}
use Rattle.catalogue.specs.Records.{Described, described, source_names, columns_of}
use Rattle.catalogue.specs.Plain.{no_columns}
use Rattle.query.specs.declared.term.Term as rt
use Rattle.query.specs.declared.term.Term.TheVariants.{Constant, Variable}
use Rattle.query.specs.declared.term.Literal as rl
use Rattle.query.specs.declared.kinds.Kinds.{Kinds}
use Rattle.query.specs.declared.draft.Draft.{Draft}
use Rattle.query.specs.declared.stage.Begun.{Begun}
use Rattle.query.specs.declared.stage.Begun.TheVariants as atom
use Rattle.query.specs.declared.stage.Stage.TheVariants as at
use Rattle.query.specs.Terms.{is_variable, is_constant, value}
use Rattle.query.specs.Noted.{other_kind, noted}
use Rattle.query.specs.Plain.{Term, constant, variable, Literal, plain_term, plain_literal, fitting, all_fitting}
use Rattle.query.specs.Records.{term_of, literal_of}
use Rattle.query.specs.Rules.{Atom, items, Part, due, listed, known, kinds_at, kind_of}
use Rattle.query.specs.Reading.{is_arrow, atom_of, fits, next, refusal, wrong, Seen, Behind, Begins, StageAt, start, wanted_literal, named_head, named_literal, due_head, due_literal, listed_head, listed_literal, headed, closed_literal, whole, ReadAt, Stands, TermTaken, term_taken}
use Rattle.catalogue.proofs.Facts.{few_sources, as_many_columns, few_columns}
use Rattle.query.proofs.Spelling.{not_both_forms}
use Rattle.query.proofs.Growing.{known_variable, known_other, known_closed, all_known, literals_known, terms_kept, literals_kept, all_fitting_kept, all_fitting_push, literal_fits, kind_of_push, kind_closed, kind_same, kinds_grown, unused_grown, kinds_noted, unused_noted}

-- the tests, one after the other
told_12 : (f a b c d : Bool) → f ≡ true → a ≡ true → refusal f a b c d ≡ Some UnfitLiteral
told_12 f a b c d e g = rw (e, g) refl

told_13 : (f a b c d : Bool) → f ≡ true → a ≡ false → b ≡ true → refusal f a b c d ≡ Some QueryLimit
told_13 f a b c d e g h = rw (e, g, h) refl

told_14 : (f a b c d : Bool) → f ≡ true → a ≡ false → b ≡ false → c ≡ true → refusal f a b c d ≡ Some VariableInTwoKinds
told_14 f a b c d e g h i = rw (e, g, h, i) refl

told_16 : (f a b c d : Bool) → f ≡ true → a ≡ false → b ≡ false → c ≡ false → d ≡ true → refusal f a b c d ≡ Some ConstantTooLarge
told_16 f a b c d e g h i j = rw (e, g, h, i, j) refl

told_none : (f a b c d : Bool) → f ≡ true → a ≡ false → b ≡ false → c ≡ false → d ≡ false → refusal f a b c d ≡ None
told_none f a b c d e g h i j = rw (e, g, h, i, j) refl

-- the forms of terms
pub variable_fits : (t : Token) → is_variable t ≡ true → (is_variable t || is_constant t) ≡ true
variable_fits t e = or_left (is_variable t) (is_constant t) e

pub constant_fits : (t : Token) → is_constant t ≡ true → (is_variable t || is_constant t) ≡ true
constant_fits t e = or_right (is_variable t) (is_constant t) e

-- what `ok_or` tells of a value that is not there
pub refusal_from_ok_or : {X : Type 0} (found : Option X) (refusal r : Refusal) → Err r ≡ ok_or found refusal → r ≡ refusal
refusal_from_ok_or None refusal r e = cc
refusal_from_ok_or (Some x) refusal r e = absurd (let u : ◌≡◌ {A = ℕ} 0 1 = cc in omega arith)

-- the same lists and kinds under other names
moved : {cat : Described} {d : Draft} {vs ws hd : List Token} {ls : List Atom} {k : Token → Option ℕ} → vs ≡ ws → Seen cat d vs hd ls k → Seen cat d ws hd ls k
moved {cat} {d} {hd = hd} {ls = ls} {k = k} e s = subst (λ (l : List Token). Seen cat d l hd ls k) e s

begins_moved : {cat : Described} {source : ℕ} {terms : List rt.Term} {vs ws : List Token} {count : ℕ} {n : Token} {ts : List Token} → vs ≡ ws → Begins cat source terms vs count n ts → Begins cat source terms ws count n ts
begins_moved {cat} {source} {terms} {count = count} {n = n} {ts = ts} e g = subst (λ (l : List Token). Begins cat source terms l count n ts) e g

rekinded : {cat : Described} {d : Draft} {vs hd : List Token} {ls : List Atom} {k j : Token → Option ℕ} → ((v : Token) → is_variable v ≡ true → k v ≡ j v) → Seen cat d vs hd ls k → Seen cat d vs hd ls j
rekinded q s = record {
  catalogue = s.catalogue;
  variables = s.variables;
  kinds = λ v e. s.kinds v e ∙ q v e;
  unused = s.unused;
  heads = s.heads;
  head = s.head;
  literals = s.literals;
  fitting = s.fitting;
}

-- the same, whichever literal is begun
with_literal : {cat : Described} {d : Draft} {vs hd : List Token} {ls : List Atom} {k : Token → Option ℕ} (l : rl.Literal) → Seen cat d vs hd ls k → Seen cat (record d { literal = l }) vs hd ls k
with_literal l s = record {
  catalogue = s.catalogue;
  variables = s.variables;
  kinds = s.kinds;
  unused = s.unused;
  heads = s.heads;
  head = s.head;
  literals = s.literals;
  fitting = s.fitting;
}

pub constant_alone : (t : Token) → is_constant t ≡ true → is_variable t ≡ false
constant_alone t e = go (cases_Bool (is_variable t))
  where
    go : (is_variable t ≡ true) ⊎ (is_variable t ≡ false) → is_variable t ≡ false
    go (inl f) = absurd (both_ways _ (not_both_forms t f) e)
    go (inr f) = f

literals_count : (cat : Described) (d : Draft) (vs hd : List Token) (ls : List Atom) (k : Token → Option ℕ) → Seen cat d vs hd ls k → length (held d.literals) ≡ length ls
literals_count cat d vs hd ls k s = sym (length-map (held d.literals) plain_literal) ∙ ap length s.literals ∙ length-map ls (literal_of cat vs)

pub source_small : (c : Catalogue) (t : Token) (i : ℕ) → place_of t (source_names c) ≡ Some i → i < 8
source_small c t i e = let p = place_some t (source_names c) i e in let z = few_sources c in omega (arith, p.0)

few_kinds : (d : Draft) (cat : Described) (n : Token) → described d.catalogue.now ≡ cat → length (kinds_at cat n) ≤ 4
few_kinds d cat n e = subst (λ (x : Described). length (kinds_at x n) ≤ 4) e (few_columns d.catalogue.now (number_of n (source_names d.catalogue.now)))

paired_lists : (d : Draft) (cat : Described) → described d.catalogue.now ≡ cat → length cat.names ≡ length cat.columns
paired_lists d cat e = subst (λ (x : Described). length x.names ≡ length x.columns) e (as_many_columns d.catalogue.now)

-- a token of another form than is due
pub unfit : (cat : Described) (p : Part) (t : Token) → fits p t ≡ false → wrong cat p t ≡ Some QueryForm
unfit cat p t e = rw e refl

module _ {cat : Described} {l : rl.Literal} (t : Token) where
  pub fits_named : {p : Part} {b : Begun} → StageAt cat l (at.Named b) p → fits p t ≡ is 40 t
  fits_named (named_head n) = refl
  fits_named (named_literal h ls n g) = refl

  pub fits_listed : {p : Part} {b : Begun} → StageAt cat l (at.Listed b) p → fits p t ≡ (is 44 t || is 41 t)
  fits_listed (listed_head n ts x) = refl
  fits_listed (listed_literal h ls n ts x g) = refl

  pub fits_headed : {p : Part} → StageAt cat l at.Headed p → fits p t ≡ is_arrow t
  fits_headed (headed a) = refl

  pub fits_closed : {p : Part} → StageAt cat l at.Closed p → fits p t ≡ (is 44 t || is 46 t)
  fits_closed (closed_literal h ls a) = refl

  -- the name of the head
  pub head_long : {p : Part} → StageAt cat l at.Start p → is_name t ≡ true → 16 < length t → wrong cat p t ≡ Some QueryLimit
  head_long start e h = told_13 (is_name t) false (ltb 16 (length t)) false false e refl (lt-ltb 16 (length t) h)

module _ {cat : Described} {d : Draft} (t : Token) where
  pub head_name_taken : {p : Part} → Stands cat d at.Start p → is_name t ≡ true → length t ≤ 16 → (wrong cat p t ≡ None) × Stands cat d (at.Named atom.Head) (next p t)
  head_name_taken s e h = go s.stage s.read
    where
      go : {p : Part} → StageAt cat d.literal at.Start p → ReadAt cat d p → (wrong cat p t ≡ None) × Stands cat d (at.Named atom.Head) (next p t)
      go start read = (told_none (is_name t) false (ltb 16 (length t)) false false e refl (le-ltb 16 (length t) h) refl refl, record { stage = named_head t; read = read })

  -- punctuation
  pub open_taken : {p : Part} {b : Begun} → Stands cat d (at.Named b) p → is 40 t ≡ true → (wrong cat p t ≡ None) × Stands cat d (at.Due b) (next p t)
  open_taken s e = go s.stage s.read
    where
      go : {p : Part} {b : Begun} → StageAt cat d.literal (at.Named b) p → ReadAt cat d p → (wrong cat p t ≡ None) × Stands cat d (at.Due b) (next p t)
      go (named_head n) read = (rw e refl, record { stage = due_head n []; read = read })
      go (named_literal h ls n g) read = (rw e refl, record { stage = due_literal h ls n [] g; read = read })

  pub arrow_taken : {p : Part} → Stands cat d at.Headed p → is_arrow t ≡ true → (wrong cat p t ≡ None) × Stands cat d at.Wanted (next p t)
  arrow_taken s e = go s.stage s.read
    where
      go : {p : Part} → StageAt cat d.literal at.Headed p → ReadAt cat d p → (wrong cat p t ≡ None) × Stands cat d at.Wanted (next p t)
      go (headed a) read = (rw e refl, record { stage = wanted_literal a []; read = read })

  pub closed_comma : {p : Part} → Stands cat d at.Closed p → is 44 t ≡ true → (wrong cat p t ≡ None) × Stands cat d at.Wanted (next p t)
  closed_comma s e = go s.stage s.read
    where
      go : {p : Part} → StageAt cat d.literal at.Closed p → ReadAt cat d p → (wrong cat p t ≡ None) × Stands cat d at.Wanted (next p t)
      go (closed_literal h ls a) read = (rw e refl, rw e (record { stage = wanted_literal h (ls ++ a ∷ []); read = read }))

  pub closed_dot : {p : Part} → Stands cat d at.Closed p → is 44 t ≡ false → is 46 t ≡ true → (wrong cat p t ≡ None) × Stands cat d at.Stopped (next p t)
  closed_dot s e f = go s.stage s.read
    where
      go : {p : Part} → StageAt cat d.literal at.Closed p → ReadAt cat d p → (wrong cat p t ≡ None) × Stands cat d at.Stopped (next p t)
      go (closed_literal h ls a) read = (rw (e, f) refl, rw e (record { stage = whole (h ∷ ls) a; read = read }))

  pub listed_comma : {p : Part} {b : Begun} → Stands cat d (at.Listed b) p → is 44 t ≡ true → (wrong cat p t ≡ None) × Stands cat d (at.Due b) (next p t)
  listed_comma s e = go s.stage s.read
    where
      go : {p : Part} {b : Begun} → StageAt cat d.literal (at.Listed b) p → ReadAt cat d p → (wrong cat p t ≡ None) × Stands cat d (at.Due b) (next p t)
      go (listed_head n ts x) read = (rw e refl, rw e (record { stage = due_head n (ts ++ x ∷ []); read = read }))
      go (listed_literal h ls n ts x g) read =
          let no : is 41 t ≡ false = ap (is 41) (is_it 44 t e) in
          (rw (e, no) refl, rw e (record { stage = due_literal h ls n (ts ++ x ∷ []) g; read = read }))

  pub head_closed : {p : Part} → Stands cat d (at.Listed atom.Head) p → is 41 t ≡ true → (wrong cat p t ≡ None) × Stands cat d at.Headed (next p t)
  head_closed s e = go s.stage s.read
    where
      go : {p : Part} → StageAt cat d.literal (at.Listed atom.Head) p → ReadAt cat d p → (wrong cat p t ≡ None) × Stands cat d at.Headed (next p t)
      go (listed_head n ts x) read =
          let no : is 44 t ≡ false = ap (is 44) (is_it 41 t e) in
          (rw (no, e) refl, rw no (record { stage = headed (atom_of n ts x); read = moved (known_closed [] (atom_of n ts x)) read }))

-- the name of a literal
module _ (cat : Described) (d : Draft) (t : Token) where
  sought : described d.catalogue.now ≡ cat → place_of t (source_names d.catalogue.now) ≡ place_of t cat.names
  sought e = ap (λ (x : Described). place_of t x.names) e

  pub no_source : {p : Part} → Stands cat d at.Wanted p → is_name t ≡ true → place_of t (source_names d.catalogue.now) ≡ None → wrong cat p t ≡ Some UnfitLiteral
  no_source s name e = go s.stage s.read
    where
      go : {p : Part} → StageAt cat d.literal at.Wanted p → ReadAt cat d p → wrong cat p t ≡ Some UnfitLiteral
      go (wanted_literal h ls) read = told_12 (is_name t) (not (among t cat.names)) (leb 8 (length ls)) false false name (rw (place_none t cat.names (sym (sought read.catalogue) ∙ e)).0 refl)

  module _ (i : ℕ) (found : place_of t (source_names d.catalogue.now) ≡ Some i) (name : is_name t ≡ true) (m : ℕ) (count : m ≡ length (held d.literals)) where
    here : described d.catalogue.now ≡ cat → (i < length cat.names) × (get_or cat.names i [] ≡ t) × (among t cat.names ≡ true) × (number_of t cat.names ≡ i)
    here e = place_some t cat.names i (sym (sought e) ∙ found)

    many : (h : Atom) (ls : List Atom) → Behind cat d (h ∷ ls) [] [] → m ≡ length ls
    many h ls read = count ∙ literals_count cat d (known (h ∷ ls) []) (items h) ls (λ v. kind_of cat v ls [] []) read

    pub ninth : {p : Part} → Stands cat d at.Wanted p → 8 ≤ m → wrong cat p t ≡ Some QueryLimit
    ninth s k = go s.stage s.read
      where
        go : {p : Part} → StageAt cat d.literal at.Wanted p → ReadAt cat d p → wrong cat p t ≡ Some QueryLimit
        go (wanted_literal h ls) read = told_13 (is_name t) (not (among t cat.names)) (leb 8 (length ls)) false false name (rw (here read.catalogue).2 refl) (le-leb 8 (length ls) (let z = many h ls read in omega arith))

    pub source_taken : {p : Part} (l : rl.Literal) → Stands cat d at.Wanted p → m < 8 → l.source ≡ i → held l.terms ≡ [] → (wrong cat p t ≡ None) × Stands cat (record d { literal = l }) (at.Named atom.Literal) (next p t)
    source_taken l s few source none = go s.stage s.read
      where
        go : {p : Part} → StageAt cat d.literal at.Wanted p → ReadAt cat d p → (wrong cat p t ≡ None) × Stands cat (record d { literal = l }) (at.Named atom.Literal) (next p t)
        go (wanted_literal h ls) read = (
          told_none (is_name t) (not (among t cat.names)) (leb 8 (length ls)) false false name (rw (here read.catalogue).2 refl) (lt-leb 8 (length ls) (let z = many h ls read in omega arith)) refl refl,
          record {
            stage = named_literal h ls t (record { room = let y = many h ls read in omega arith; there = (here read.catalogue).2; source_is = source ∙ sym (here read.catalogue).3; terms_are = ap (map plain_term) none; within = omega arith });
            read = with_literal l read;
          },
        )

-- a variable of the head
module _ (cat : Described) (d : Draft) (t : Token) (form : is_variable t ≡ true) where
  abbrev vs0 : List Token → List Token
  vs0 ts = known [] ts

  abbrev crowd0 : List Token → Bool
  crowd0 ts = is_variable t && crowded t (vs0 ts)

  head_over : (n : Token) (ts : List Token) → (leb 4 (length ts) || crowd0 ts) ≡ true → refusal (is_variable t) false (leb 4 (length ts) || crowd0 ts) false false ≡ Some QueryLimit
  head_over n ts e = told_13 (is_variable t) false (leb 4 (length ts) || crowd0 ts) false false form refl e

  heads_count : (n : Token) (ts : List Token) → Behind cat d [] n ts → length (held d.head) ≡ length ts
  heads_count n ts read = ap length read.head ∙ numbers_length (vs0 ts) ts

  pub no_head_place : {p : Part} (more : List Token) → Stands cat d (at.Due atom.Head) p → Numbered (names d.variables) more t 16 None → wrong cat p t ≡ Some QueryLimit
  no_head_place more s q = go s.stage s.read
    where
      go : {p : Part} → StageAt cat d.literal (at.Due atom.Head) p → ReadAt cat d p → wrong cat p t ≡ Some QueryLimit
      go (due_head n ts) read = head_over n ts (or_right (leb 4 (length ts)) (crowd0 ts) (rw form (crowds (vs0 ts) t (names d.variables) more read.variables q)))

  pub fifth : {p : Part} → Stands cat d (at.Due atom.Head) p → 4 ≤ d.head.used → wrong cat p t ≡ Some QueryLimit
  fifth s h = go s.stage s.read
    where
      go : {p : Part} → StageAt cat d.literal (at.Due atom.Head) p → ReadAt cat d p → wrong cat p t ≡ Some QueryLimit
      go (due_head n ts) read = head_over n ts (rw (le-leb 4 (length ts) (let z = heads_count n ts read in let y = length_held d.head in omega arith)) refl)

  pub fifth_held : {p : Part} → Stands cat d (at.Due atom.Head) p → 4 ≤ length (held d.head) → wrong cat p t ≡ Some QueryLimit
  fifth_held s h = fifth s (let y = length_held d.head in omega (arith, y, h))

  pub head_taken : {p : Part} (more : Bounded (Bounded ℕ 16) 16) (i : ℕ) (head : Bounded ℕ 4) → Stands cat d (at.Due atom.Head) p → Numbered (names d.variables) (names more) t 16 (Some i) → d.head.used < 4 → held head ≡ held d.head ++ i ∷ [] →
      (wrong cat p t ≡ None) × Stands cat (record d { variables = more; head = head }) (at.Listed atom.Head) (next p t)
  head_taken more i head s q few grown = go s.stage s.read
    where
      go : {p : Part} → StageAt cat d.literal (at.Due atom.Head) p → ReadAt cat d p → (wrong cat p t ≡ None) × Stands cat (record d { variables = more; head = head }) (at.Listed atom.Head) (next p t)
      go (due_head n ts) read =
          let vs = with_name (vs0 ts) t in
          let i_is : i ≡ number_of t vs = q.1 ∙ ap (number_of t) read.variables ∙ sym (number_added t (vs0 ts)) in (
            told_none (is_variable t) false (leb 4 (length ts) || crowd0 ts) false false form refl
                (rw (lt-leb 4 (length ts) (let z = heads_count n ts read in let y = length_held d.head in omega arith), form) (roomy (vs0 ts) t (names d.variables) (names more) i read.variables q)) refl refl,
            record {
              stage = listed_head n ts t;
              read = moved (sym (known_variable [] ts t form)) (record {
                catalogue = read.catalogue;
                variables = q.0 ∙ ap (λ (l : List Token). with_name l t) read.variables;
                kinds = kinds_grown d.kinds.cells (vs0 ts) t (λ v. None) read.kinds read.unused;
                unused = unused_grown d.kinds.cells (vs0 ts) t read.unused;
                heads = all_among_push ts vs t (all_among_kept ts (vs0 ts) t read.heads) (among_added t (vs0 ts));
                head = grown ∙ ap (λ (l : List ℕ). l ++ i ∷ []) (read.head ∙ sym (numbers_kept (vs0 ts) ts t read.heads)) ∙ ap (λ (x : ℕ). numbers vs ts ++ x ∷ []) i_is ∙ sym (numbers_push vs ts t);
                literals = read.literals;
                fitting = all_fitting_kept cat.columns (length (vs0 ts)) (length vs) (map plain_literal (held d.literals)) (length_added (vs0 ts) t) read.fitting;
              });
            },
          )

-- a term of a literal
module _ (cat : Described) (d : Draft) where
  abbrev ks : List ℕ
  ks = (columns_of d.catalogue.now d.literal.source).kinds

  abbrev place : ℕ
  place = length (held d.literal.terms)

  module _ (h : Atom) (ls : List Atom) (n : Token) (ts : List Token) (read : Behind cat d (h ∷ ls) n ts) (g : Begins cat d.literal.source (held d.literal.terms) (known (h ∷ ls) ts) (length ls) n ts) where
    abbrev us : List Atom
    us = h ∷ ls

    abbrev vs1 : List Token
    vs1 = known us ts

    there : ks ≡ kinds_at cat n
    there = ap (λ (x : Described). (get_or x.columns d.literal.source no_columns).kinds) read.catalogue ∙ ap (λ (i : ℕ). (get_or cat.columns i no_columns).kinds) g.source_is

    terms_count : place ≡ length ts
    terms_count = sym (length-map (held d.literal.terms) plain_term) ∙ ap length g.terms_are ∙ length-map ts (term_of vs1)

    filled : length ks ≤ place → leb (length (kinds_at cat n)) (length ts) ≡ true
    filled k = le-leb (length (kinds_at cat n)) (length ts) (let z = terms_count in let y = ap length there in omega arith)

    free : place < length ks → leb (length (kinds_at cat n)) (length ts) ≡ false
    free k = lt-leb (length (kinds_at cat n)) (length ts) (let z = terms_count in let y = ap length there in omega arith)

    within_one : (t : Token) → place < length ks → length (ts ++ t ∷ []) ≤ length (kinds_at cat n)
    within_one t k = let z = terms_count in let y = ap length there in let x = length_push ts t in omega arith

    kind_here : get_or ks place 0 ≡ get_or (kinds_at cat n) (length ts) 0
    kind_here = ap (λ (k : List ℕ). get_or k place 0) there ∙ ap (λ (i : ℕ). get_or (kinds_at cat n) i 0) terms_count

    module _ (t : Token) where
      abbrev kind_now : Option ℕ
      kind_now = kind_of cat t ls n ts

      abbrev full : Bool
      full = leb (length (kinds_at cat n)) (length ts)

      abbrev crowd : Bool
      crowd = is_variable t && crowded t vs1

      abbrev mix : Bool
      mix = is_variable t && other_kind kind_now (get_or (kinds_at cat n) (length ts) 0)

      abbrev big : Bool
      big = is_constant t && ltb 4294967295 (value t)

      too_many : (is_variable t || is_constant t) ≡ true → length ks ≤ place → wrong cat (due us n ts) t ≡ Some UnfitLiteral
      too_many e k = told_12 (is_variable t || is_constant t) full crowd mix big e (filled k)

      module _ (form : is_variable t ≡ true) (k : place < length ks) where
        not_large : big ≡ false
        not_large = rw (not_both_forms t form) refl

        no_place : (more : List Token) → Numbered (names d.variables) more t 16 None → wrong cat (due us n ts) t ≡ Some QueryLimit
        no_place more q = told_13 (is_variable t || is_constant t) full crowd mix big (variable_fits t form) (free k) (rw form (crowds vs1 t (names d.variables) more read.variables q))

        module _ (more : Bounded (Bounded ℕ 16) 16) (i : ℕ) (q : Numbered (names d.variables) (names more) t 16 (Some i)) (kind : ℕ) (kind_is : kind ≡ get_or ks place 0) where
          i_is : i ≡ number_of t vs1
          i_is = q.1 ∙ ap (number_of t) read.variables

          noted_now : get_or d.kinds.cells i None ≡ kind_now
          noted_now = ap (λ (j : ℕ). get_or d.kinds.cells j None) i_is ∙ read.kinds t form

          place_free : crowd ≡ false
          place_free = rw form (roomy vs1 t (names d.variables) (names more) i read.variables q)

          mix_is : (b : Bool) → not b ≡ not (other_kind (get_or d.kinds.cells i None) kind) → mix ≡ b
          mix_is b e = rw form (sym (not_same b _ e ∙ rw (noted_now, kind_is, kind_here) refl))
            where
              not_same : (x y : Bool) → not x ≡ not y → x ≡ y
              not_same true true f = refl
              not_same true false f = absurd (both_ways _ (sym f) refl)
              not_same false true f = absurd (both_ways _ f refl)
              not_same false false f = refl

          second_kind : false ≡ not (other_kind (get_or d.kinds.cells i None) kind) → wrong cat (due us n ts) t ≡ Some VariableInTwoKinds
          second_kind e = told_14 (is_variable t || is_constant t) full crowd mix big (variable_fits t form) (free k) place_free (mix_is true e)

          has_variable : (kinds : Kinds) → true ≡ not (other_kind (get_or d.kinds.cells i None) kind) → kinds.cells ≡ noted d.kinds.cells i kind (get_or d.kinds.cells i None) →
              (wrong cat (due us n ts) t ≡ None) × TermTaken cat (record d { variables = more; kinds = kinds }) d.literal (Variable i) (listed us n ts t)
          has_variable kinds agrees cells_are =
              let vs = with_name vs1 t in
              let all = all_known us ts in
              let e : i ≡ number_of t vs = i_is ∙ sym (number_added t vs1) in
              let cells : kinds.cells ≡ noted d.kinds.cells (number_of t vs) kind (get_or d.kinds.cells (number_of t vs) None) = cells_are ∙ ap (λ (j : ℕ). noted d.kinds.cells j kind (get_or d.kinds.cells j None)) e in
              let small : number_of t vs < length d.kinds.cells = let y = d.kinds.room in omega (arith, q.2) in
              let before = kinds_grown d.kinds.cells vs1 t (λ x. kind_of cat x ls n ts) read.kinds read.unused in
              let last : variable i ≡ term_of vs t = ap variable e ∙ sym (rw form refl) in (
                told_none (is_variable t || is_constant t) full crowd mix big (variable_fits t form) (free k) place_free (mix_is false agrees) not_large,
                term_taken h ls n ts t
                    (moved (sym (known_variable us ts t form)) (rekinded
                    (λ x f. ap (λ (y : ℕ). option_or (kind_of cat x ls n ts) (cond (bytes_eq x t) (Some y) None)) (kind_is ∙ kind_here) ∙ sym (kind_of_push cat x ls n ts t))
                    (record {
                      catalogue = read.catalogue;
                      variables = q.0 ∙ ap (λ (x : List Token). with_name x t) read.variables;
                      kinds = λ x f. ap (λ (y : List (Option ℕ)). get_or y (number_of x vs) None) cells ∙ kinds_noted d.kinds.cells vs t kind (λ y. kind_of cat y ls n ts) small (among_added t vs1) form before x f;
                      unused = λ j w. ap (λ (y : List (Option ℕ)). get_or y j None) cells ∙ unused_noted d.kinds.cells vs t kind (among_added t vs1) (unused_grown d.kinds.cells vs1 t read.unused) j w;
                      heads = all_among_kept (items h) vs1 t read.heads;
                      head = read.head ∙ sym (numbers_kept vs1 (items h) t read.heads);
                      literals = read.literals ∙ sym (literals_kept cat vs1 t ls (literals_known h ls vs1 all.0));
                      fitting = all_fitting_kept cat.columns (length vs1) (length vs) (map plain_literal (held d.literals)) (length_added vs1 t) read.fitting;
                    })))
                    (begins_moved (sym (known_variable us ts t form)) (record {
                      room = g.room;
                      there = g.there;
                      source_is = g.source_is;
                      within = within_one t k;
                      terms_are = map_push plain_term (held d.literal.terms) (Variable i) ∙ ap (λ (x : List Term). x ++ variable i ∷ []) (g.terms_are ∙ sym (terms_kept vs1 t ts all.1))
                          ∙ ap (λ (x : Term). map (term_of vs) ts ++ x ∷ []) last ∙ sym (map_push (term_of vs) ts t);
                    })),
              )

      module _ (form : is_constant t ≡ true) (k : place < length ks) where
        other : is_variable t ≡ false
        other = constant_alone t form

        over_largest : 4294967295 < value t → wrong cat (due us n ts) t ≡ Some ConstantTooLarge
        over_largest w = told_16 (is_variable t || is_constant t) full crowd mix big (constant_fits t form) (free k) (rw other refl) (rw other refl) (rw form (lt-ltb 4294967295 (value t) w))

        has_constant : (x : ℕ) → x ≡ value t → x ≤ 4294967295 → (wrong cat (due us n ts) t ≡ None) × TermTaken cat d d.literal (Constant x) (listed us n ts t)
        has_constant x e small =
            let last : constant x ≡ term_of vs1 t = ap constant e ∙ sym (rw other refl) in (
              told_none (is_variable t || is_constant t) full crowd mix big (constant_fits t form) (free k) (rw other refl) (rw other refl) (rw form (le-ltb 4294967295 (value t) (omega arith))),
              term_taken h ls n ts t
                  (moved (sym (known_other us ts t other)) (rekinded (λ y f. sym (kind_same cat y ls n ts t f other)) read))
                  (begins_moved (sym (known_other us ts t other)) (record {
                    room = g.room;
                    there = g.there;
                    source_is = g.source_is;
                    within = within_one t k;
                    terms_are = map_push plain_term (held d.literal.terms) (Constant x) ∙ ap (λ (y : List Term). y ++ constant x ∷ []) g.terms_are
                        ∙ ap (λ (y : Term). map (term_of vs1) ts ++ y ∷ []) last ∙ sym (map_push (term_of vs1) ts t);
                  })),
            )

  -- whatever part a literal's term is due behind
  at_term : (P : Part → Type 0) → ((h : Atom) (ls : List Atom) (n : Token) (ts : List Token) → Behind cat d (h ∷ ls) n ts → Begins cat d.literal.source (held d.literal.terms) (known (h ∷ ls) ts) (length ls) n ts → P (due (h ∷ ls) n ts)) →
      {p : Part} → Stands cat d (at.Due atom.Literal) p → P p
  at_term P f s = go s.stage s.read
    where
      go : {p : Part} → StageAt cat d.literal (at.Due atom.Literal) p → ReadAt cat d p → P p
      go (due_literal h ls n ts g) read = f h ls n ts read g

  module _ (t : Token) {p : Part} (s : Stands cat d (at.Due atom.Literal) p) where
    pub term_too_many : (is_variable t || is_constant t) ≡ true → length ks ≤ place → wrong cat p t ≡ Some UnfitLiteral
    term_too_many e k = at_term (λ q. wrong cat q t ≡ Some UnfitLiteral) (λ h ls n ts read g. too_many h ls n ts read g t e k) s

    pub no_variable_place : is_variable t ≡ true → place < length ks → (more : List Token) → Numbered (names d.variables) more t 16 None → wrong cat p t ≡ Some QueryLimit
    no_variable_place form k more q = at_term (λ x. wrong cat x t ≡ Some QueryLimit) (λ h ls n ts read g. no_place h ls n ts read g t form k more q) s

    module _ (form : is_variable t ≡ true) (kind : ℕ) (due : (place < length ks) × (kind ≡ get_or ks place 0)) (more : Bounded (Bounded ℕ 16) 16) (i : ℕ) (q : Numbered (names d.variables) (names more) t 16 (Some i)) where
      pub in_two_kinds : false ≡ not (other_kind (get_or d.kinds.cells i None) kind) → wrong cat p t ≡ Some VariableInTwoKinds
      in_two_kinds e = at_term (λ x. wrong cat x t ≡ Some VariableInTwoKinds) (λ h ls n ts read g. second_kind h ls n ts read g t form due.0 more i q kind due.1 e) s

      pub variable_taken : (kinds : Kinds) → true ≡ not (other_kind (get_or d.kinds.cells i None) kind) → kinds.cells ≡ noted d.kinds.cells i kind (get_or d.kinds.cells i None) →
          (wrong cat p t ≡ None) × TermTaken cat (record d { variables = more; kinds = kinds }) d.literal (Variable i) (next p t)
      variable_taken kinds agrees cells = at_term (λ x. (wrong cat x t ≡ None) × TermTaken cat (record d { variables = more; kinds = kinds }) d.literal (Variable i) (next x t)) (λ h ls n ts read g. has_variable h ls n ts read g t form due.0 more i q kind due.1 kinds agrees cells) s

    module _ (form : is_constant t ≡ true) (k : place < length ks) where
      pub too_large : 4294967295 < value t → wrong cat p t ≡ Some ConstantTooLarge
      too_large w = at_term (λ x. wrong cat x t ≡ Some ConstantTooLarge) (λ h ls n ts read g. over_largest h ls n ts read g t form k w) s

      pub constant_taken : (x : ℕ) → x ≡ value t → x ≤ 4294967295 → (wrong cat p t ≡ None) × TermTaken cat d d.literal (Constant x) (next p t)
      constant_taken x e small = at_term (λ y. (wrong cat y t ≡ None) × TermTaken cat d d.literal (Constant x) (next y t)) (λ h ls n ts read g. has_constant h ls n ts read g t form k x e small) s

-- a literal with the term that is taken
pub with_term : {cat : Described} {d : Draft} {term : rt.Term} {p : Part} (terms : Bounded rt.Term 4) (b : Bool) → b ≡ ltb d.literal.terms.used 4 → held terms ≡ cond b (held d.literal.terms ++ term ∷ []) (held d.literal.terms) →
    TermTaken cat d d.literal term p → Stands cat (record d { literal = record d.literal { terms = terms } }) (at.Listed atom.Literal) p
with_term {cat} {d} {term} terms b u v (term_taken h ls n ts t read g) =
    let few = few_kinds d cat n read.catalogue in
    let count : length (held d.literal.terms ++ term ∷ []) ≡ length (ts ++ t ∷ []) = sym (length-map (held d.literal.terms ++ term ∷ []) plain_term) ∙ ap length g.terms_are ∙ length-map (ts ++ t ∷ []) (term_of (known (h ∷ ls) (ts ++ t ∷ []))) in
    let room : length (held d.literal.terms) < 4 = let z = g.within in let y = length_push (held d.literal.terms) term in omega arith in
    let grown = pushed d.literal.terms terms term b u v room in
    record {
      stage = listed_literal h ls n ts t (subst (λ (x : List rt.Term). Begins cat d.literal.source x (known (h ∷ ls) (ts ++ t ∷ [])) (length ls) n (ts ++ t ∷ [])) (sym grown) g);
      read = with_literal (record d.literal { terms = terms }) read;
    }

-- the end of a literal
module _ (cat : Described) (d : Draft) (t : Token) (form : is 41 t ≡ true) where
  no_comma : is 44 t ≡ false
  no_comma = ap (is 44) (is_it 41 t form)

  module _ (h : Atom) (ls : List Atom) (n : Token) (ts : List Token) (x : Token) (read : Behind cat d (h ∷ ls) n (ts ++ x ∷ [])) (g : Begins cat d.literal.source (held d.literal.terms) (known (h ∷ ls) (ts ++ x ∷ [])) (length ls) n (ts ++ x ∷ [])) where
    abbrev all_items : List Token
    all_items = ts ++ x ∷ []

    abbrev vs2 : List Token
    vs2 = known (h ∷ ls) all_items

    there_2 : (columns_of d.catalogue.now d.literal.source).kinds ≡ kinds_at cat n
    there_2 = there cat d h ls n all_items read g

    terms_count_2 : length (held d.literal.terms) ≡ length all_items
    terms_count_2 = terms_count cat d h ls n all_items read g

    fits_end : (is 44 t || is 41 t) ≡ true
    fits_end = or_right (is 44 t) (is 41 t) form

    too_early : length (held d.literal.terms) < length (columns_of d.catalogue.now d.literal.source).kinds → wrong cat (listed (h ∷ ls) n ts x) t ≡ Some UnfitLiteral
    too_early k = told_12 (is 44 t || is 41 t) (is 41 t && ltb (length all_items) (length (kinds_at cat n))) false false false fits_end
        (rw form (lt-ltb (length all_items) (length (kinds_at cat n)) (let z = terms_count_2 in let y = ap length there_2 in omega arith)))

    ends_literal : (more : Bounded rl.Literal 8) (b : Bool) → length (columns_of d.catalogue.now d.literal.source).kinds ≤ length (held d.literal.terms) → b ≡ ltb d.literals.used 8 → held more ≡ cond b (held d.literals ++ d.literal ∷ []) (held d.literals) →
        (wrong cat (listed (h ∷ ls) n ts x) t ≡ None) × Stands cat (record d { literals = more }) at.Closed (next (listed (h ∷ ls) n ts x) t)
    ends_literal more b k u v =
        let a = atom_of n ts x in
        let enough : length all_items ≡ length (kinds_at cat n) = let z = terms_count_2 in let y = ap length there_2 in let w = g.within in omega arith in
        let all = all_known (h ∷ ls) all_items in
        let same : plain_literal d.literal ≡ literal_of cat vs2 a = literal_is d.literal.source (number_of n cat.names) (map plain_term (held d.literal.terms)) (map (term_of vs2) all_items) g.source_is g.terms_are in
        let fit : fitting cat.columns (length vs2) (plain_literal d.literal) ≡ true = ap (fitting cat.columns (length vs2)) same ∙ literal_fits cat vs2 a (paired_lists d cat read.catalogue) g.there enough all.1 in
        let grown = pushed d.literals more d.literal b u v (let z = literals_count cat d vs2 (items h) ls (λ y. kind_of cat y ls n all_items) read in let y = g.room in omega arith) in
        let lists : map plain_literal (held more) ≡ map plain_literal (held d.literals) ++ plain_literal d.literal ∷ [] = ap (map plain_literal) grown ∙ map_push plain_literal (held d.literals) d.literal in (
          told_none (is 44 t || is 41 t) (is 41 t && ltb (length all_items) (length (kinds_at cat n))) false false false fits_end
              (rw form (le-ltb (length all_items) (length (kinds_at cat n)) (omega arith))) refl refl refl,
          rw no_comma (record {
            stage = closed_literal h ls a;
            read = moved (known_closed (h ∷ ls) a) (rekinded (λ y f. kind_closed cat y ls a) (record {
              catalogue = read.catalogue;
              variables = read.variables;
              kinds = read.kinds;
              unused = read.unused;
              heads = read.heads;
              head = read.head;
              literals = lists ∙ ap (λ (w : List Literal). w ++ plain_literal d.literal ∷ []) read.literals ∙ ap (λ (w : Literal). map (literal_of cat vs2) ls ++ w ∷ []) same ∙ sym (map_push (literal_of cat vs2) ls a);
              fitting = subst (λ (w : List Literal). all_fitting cat.columns (length vs2) w ≡ true) (sym lists) (all_fitting_push cat.columns (length vs2) (map plain_literal (held d.literals)) (plain_literal d.literal) read.fitting fit);
            }));
          }),
        )
      where
        literal_is : (i j : ℕ) (y z : List Term) → i ≡ j → y ≡ z → ◌≡◌ {A = Literal} (record { source = i; terms = y }) (record { source = j; terms = z })
        literal_is i j y z e f = rw (e, f) refl

  pub closed_early : {p : Part} → Stands cat d (at.Listed atom.Literal) p → length (held d.literal.terms) < length (columns_of d.catalogue.now d.literal.source).kinds → wrong cat p t ≡ Some UnfitLiteral
  closed_early s k = go s.stage s.read
    where
      go : {p : Part} → StageAt cat d.literal (at.Listed atom.Literal) p → ReadAt cat d p → wrong cat p t ≡ Some UnfitLiteral
      go (listed_literal h ls n ts x g) read = too_early h ls n ts x read g k

  pub literal_closed : {p : Part} (more : Bounded rl.Literal 8) (b : Bool) → Stands cat d (at.Listed atom.Literal) p → length (columns_of d.catalogue.now d.literal.source).kinds ≤ length (held d.literal.terms) → b ≡ ltb d.literals.used 8 → held more ≡ cond b (held d.literals ++ d.literal ∷ []) (held d.literals) →
      (wrong cat p t ≡ None) × Stands cat (record d { literals = more }) at.Closed (next p t)
  literal_closed more b s k u v = go s.stage s.read
    where
      go : {p : Part} → StageAt cat d.literal (at.Listed atom.Literal) p → ReadAt cat d p → (wrong cat p t ≡ None) × Stands cat (record d { literals = more }) at.Closed (next p t)
      go (listed_literal h ls n ts x g) read = ends_literal h ls n ts x read g more b k u v
