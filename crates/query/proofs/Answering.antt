-- From the reader's way to the answer, and that there is one answer.
use Rattle.std.proofs.Common.{◌≡◌, ℕ, zero, suc, ◌+◌, ◌*◌, ◌<◌, ◌≤◌, Bool, true, false, ◌||◌, ◌⊎◌, List, [], ◌∷◌, ◌++◌, map, length, get_or, take, is_some, Some, None, Ok, Err, sym, refl, ap, ◌∙◌, subst, inl, inr, arith}
use Rattle.std.specs.Str.{bytes_eq}
use Rattle.std.proofs.lemmas.List.{length-take-le}
use Rattle.std.proofs.lemmas.Bool.{both_ways, cases_Bool}
use Rattle.faults.specs.declared.refusal.Refusal.TheVariants.{HeadVariableMissing}
use Rattle.lexing.specs.Tokens.{Token}
use Rattle.lexing.specs.Names.{among, number_of, numbers, AllAmong}
use Rattle.bounded.specs.Held.{held}
use Rattle.lexing.specs.Lists.{names}
use Rattle.lexing.specs.declared.flaw.Flaw.{Flaw}
use Rattle.lexing.specs.Grammars.{Accepted}
use Rattle.lexing.specs.Readers.{HasRead}
use Rattle.lexing.proofs.Naming.{same_is, numbers_at, numbers_length}
use Rattle.bounded.proofs.Holding.{length_held}
use Rattle.lexing.proofs.Holding.{names_length}
use Rattle.lexing.proofs.Course.{accepted_so, refused_read}
use Rattle.catalogue.specs.declared.record.Catalogue.{Catalogue}
use Rattle.catalogue.specs.Records.{Described, described}
use Rattle.bounded.specs.declared.list.Bounded.{Bounded}
use Rattle.query.specs.declared.term.Literal as rl
use Rattle.query.specs.declared.record.Query.{Query}
use Rattle.query.specs.declared.draft.Draft.{Draft}
use Rattle.query.specs.declared.reader.Reader.{Reader}
use Rattle.query.specs.Terms.{is_variable}
use Rattle.query.specs.Plain.{plain_literal, all_fitting, all_occur, sound}
use Rattle.query.specs.Records.{literal_of, Records}
use Rattle.query.specs.Rules.{Atom, items, items_in, commas, arrow, write_literals, write_atom, Have, Part, wanted, named, due, listed, closed, stopped, known, kind_in, queries}
use Rattle.query.specs.Reading.{steps, ReadAt, Tied}
use Rattle.query.specs.Ends.{FirstMissing, places, tokens_of}
use Rattle.query.specs.Texts.{Written, Missing, QueryRefused, QueryAccepted}
use Rattle.query.proofs.Laws.{have_more, lawful}
use Rattle.query.proofs.Growing.{option_or-None, kind_in_there, occurs_there}
use Rattle.query.proofs.Placing.{splits}

-- lists of names, by places
all_from : (xs ys : List Token) → ((k : ℕ) → k < length xs → among (get_or xs k []) ys ≡ true) → AllAmong xs ys
all_from [] ys f = tt
all_from (x ∷ xs) ys f = (f 0 (omega arith), all_from xs ys (λ k h. f (suc k) (omega arith)))

front_from : (xs ys : List Token) (i : ℕ) → i ≤ length xs → ((k : ℕ) → k < i → among (get_or xs k []) ys ≡ true) → AllAmong (take i xs) ys
front_from xs ys zero h f = tt
front_from [] ys (suc i) h f = tt
front_from (x ∷ xs) ys (suc i) h f = (f 0 (omega arith), front_from xs ys i (omega arith) (λ k w. f (suc k) (omega arith)))

pub all_through : (t : Token) (xs ys : List Token) → AllAmong xs ys → among t xs ≡ true → among t ys ≡ true
all_through t [] ys a e = absurd (both_ways _ refl e)
all_through t (x ∷ xs) ys a e = go (bytes_eq t x) refl e (all_through t xs ys a.1)
  where
    go : (b : Bool) → bytes_eq t x ≡ b → (b || among t xs) ≡ true → (among t xs ≡ true → among t ys ≡ true) → among t ys ≡ true
    go true s f ih = subst (λ (y : Token). among y ys ≡ true) (sym (same_is t x s)) a.0
    go false s f ih = ih f

-- the first that is not there, or all are there
pub record FirstAbsent (xs ys : List Token) : Type 0 where
  pub place : ℕ
  pub inside : place < length xs
  pub absent : among (get_or xs place []) ys ≡ false
  pub earlier : (k : ℕ) → k < place → among (get_or xs k []) ys ≡ true

pub first_absent : (xs ys : List Token) → AllAmong xs ys ⊎ FirstAbsent xs ys
first_absent [] ys = inl tt
first_absent (x ∷ xs) ys = go (cases_Bool (among x ys)) (first_absent xs ys)
  where
    here : (k : ℕ) → among x ys ≡ true → (f : FirstAbsent xs ys) → k < suc f.place → among (get_or (x ∷ xs) k []) ys ≡ true
    here zero e f h = e
    here (suc k) e f h = f.earlier k (omega arith)

    go : (among x ys ≡ true) ⊎ (among x ys ≡ false) → AllAmong xs ys ⊎ FirstAbsent xs ys → AllAmong (x ∷ xs) ys ⊎ FirstAbsent (x ∷ xs) ys
    go (inr e) r = inr (record { place = 0; inside = omega arith; absent = e; earlier = λ k h. absurd (omega arith) })
    go (inl e) (inl a) = inl (e, a)
    go (inl e) (inr f) = inr (record { place = suc f.place; inside = let z = f.inside in omega arith; absent = f.absent; earlier = λ k h. here k e f h })

-- the tokens of a head, cut at one of its variables
record CutHead (front : List Token) (last : Token) (rest : List Token) (i : ℕ) : Type 0 where
  more : List Token
  cut : commas front (last ∷ rest) ≡ commas (take i (front ++ last ∷ [])) [] ++ get_or (front ++ last ∷ []) i [] ∷ more

cut_head : (front : List Token) (last : Token) (rest : List Token) (i : ℕ) → i < length (front ++ last ∷ []) → CutHead front last rest i
cut_head [] last rest zero h = record { more = rest; cut = refl }
cut_head [] last rest (suc i) h = absurd (omega arith)
cut_head (f ∷ front) last rest zero h = record { more = (44 ∷ []) ∷ commas front (last ∷ rest); cut = refl }
cut_head (f ∷ front) last rest (suc i) h = let c = cut_head front last rest i (omega arith) in record { more = c.more; cut = ap (λ (l : List Token). f ∷ (44 ∷ []) ∷ l) c.cut }

commas_length : (ts : List Token) → length (commas ts []) ≡ 2 * length ts
commas_length [] = refl
commas_length (t ∷ ts) = let z = commas_length ts in omega arith

-- the variable of the head that is missing, and its place
pub record Absent (cat : Described) (text : List ℕ) (h : Atom) (ls : List Atom) (i : ℕ) : Type 0 where
  pub place : ℕ
  pub missing : Missing cat text h ls place
  pub there : get_or (places (tokens_of text)) (2 * i + 2) 0 ≡ place

pub absent : (cat : Described) (text : List ℕ) (h : Atom) (before : List Atom) (last : Atom) (ls : List Atom) → Accepted (queries cat) text (stopped (h ∷ before) last) →
    (i : ℕ) → i < length (items h) → among (get_or (items h) i []) (items_in ls) ≡ false → ((k : ℕ) → k < i → among (get_or (items h) k []) (items_in ls) ≡ true) → Absent cat text h ls i
absent cat text h before last ls acc i inside gone others =
    let rest = (41 ∷ []) ∷ arrow ∷ write_literals before (write_atom last ((46 ∷ []) ∷ [])) in
    let c = cut_head h.front h.last rest i inside in
    let xs = h.name ∷ (40 ∷ []) ∷ commas (take i (items h)) [] in
    let s = splits (tokens_of text) xs (get_or (items h) i []) c.more (acc.written ∙ ap (λ (l : List Token). h.name ∷ (40 ∷ []) ∷ l) c.cut) in
    let z : length xs ≡ 2 * i + 2 = (let a = commas_length (take i (items h)) in let b = length-take-le i (items h) (omega arith) in omega arith) in
    record {
      place = s.token.place;
      missing = record {
        front = s.front;
        token = s.token;
        rest = s.rest;
        earlier = take i (items h);
        stands = s.stands;
        in_head = s.before;
        others = front_from (items h) (items_in ls) i (omega arith) others;
        nowhere = ap (λ (t : Token). among t (items_in ls)) s.is ∙ gone;
        at_place = refl;
      };
      there = ap (λ (n : ℕ). get_or (places (tokens_of text)) n 0) (sym z) ∙ s.at;
    }

-- a whole query has a head
pub headed : (cat : Described) (text : List ℕ) (us : List Atom) (a : Atom) → Accepted (queries cat) text (stopped us a) → (h : Atom) × (ls : List Atom) × (us ≡ h ∷ ls)
headed cat text [] a acc = absurd (both_ways _ refl acc.good.2)
headed cat text (h ∷ ls) a acc = (h, ls, refl)

have_at : (f : Token → Bool) (xs : List Token) (x : Token) (k : ℕ) → Have f xs → f x ≡ true → k < length (xs ++ x ∷ []) → f (get_or (xs ++ x ∷ []) k []) ≡ true
have_at f [] x zero a e h = e
have_at f [] x (suc k) a e h = absurd (omega arith)
have_at f (y ∷ xs) x zero a e h = a.0
have_at f (y ∷ xs) x (suc k) a e h = have_at f xs x k a.1 e (omega arith)

-- what a reader has read of a whole query
module _ (cat : Described) (text : List ℕ) (d : Draft) (h : Atom) (ls : List Atom) (a : Atom) (acc : Accepted (queries cat) text (stopped (h ∷ ls) a)) (read : ReadAt cat d (stopped (h ∷ ls) a)) where
  abbrev ms : List Atom
  ms = ls ++ a ∷ []

  abbrev vs : List Token
  vs = known (h ∷ ms) []

  is_written : Written cat text h ms
  is_written = record { before = ls; last = a; literals = refl; accepted = acc }

  variable_at : (k : ℕ) → k < length (items h) → is_variable (get_or (items h) k []) ≡ true
  variable_at k w = have_at is_variable h.front h.last k acc.good.0.0.fronts acc.good.0.0.lasts w

  head_length : length (held d.head) ≡ length (items h)
  head_length = ap length read.head ∙ numbers_length vs (items h)

  kind_at : (k : ℕ) → k < length (items h) → is_some (get_or d.kinds.cells (get_or (held d.head) k 0) None) ≡ among (get_or (items h) k []) (items_in ms)
  kind_at k w =
      let v = get_or (items h) k [] in
      let e : get_or (held d.head) k 0 ≡ number_of v vs = ap (λ (l : List ℕ). get_or l k 0) read.head ∙ numbers_at vs (items h) k w in
      ap (λ (n : ℕ). is_some (get_or d.kinds.cells n None)) e ∙ ap (is_some {T = ℕ}) (read.kinds v (variable_at k w) ∙ option_or-None (kind_in cat v ms)) ∙ kind_in_there cat v ms

  module _ (all : FirstMissing (held d.head) d.kinds.cells None) where
    all_there : AllAmong (items h) (items_in ms)
    all_there = all_from (items h) (items_in ms) (λ k w. sym (kind_at k w) ∙ all k (let z = head_length in omega arith))

    occur : (xs : List Token) → Have is_variable xs → AllAmong xs (items_in ms) → all_occur (numbers vs xs) (map (literal_of cat vs) ms) ≡ true
    occur [] f g = refl
    occur (x ∷ xs) f g = rw (occurs_there cat vs x ms f.0 g.0) (occur xs f.1 g.1)

    pub is_sound : sound cat.columns d.variables.used (held d.head) (map plain_literal (held d.literals)) ≡ true
    is_sound =
        let count : length vs ≡ d.variables.used = ap length (sym read.variables) ∙ names_length d.variables ∙ length_held d.variables in
        let fit : all_fitting cat.columns d.variables.used (map plain_literal (held d.literals)) ≡ true = subst (λ (n : ℕ). all_fitting cat.columns n (map plain_literal (held d.literals)) ≡ true) count read.fitting in
        let occ : all_occur (held d.head) (map plain_literal (held d.literals)) ≡ true = (let q = occur (items h) (have_more is_variable h.front h.last acc.good.0.0.fronts acc.good.0.0.lasts) all_there in rw (read.head, read.literals) q) in
        rw fit occ

    pub is_accepted : QueryAccepted cat text h ms
    is_accepted = record { written = is_written; complete = all_there }

  pub is_missing : (i place : ℕ) → FirstMissing (held d.head) d.kinds.cells (Some i) → place ≡ get_or (places (tokens_of text)) (2 * i + 2) 0 → QueryRefused cat text HeadVariableMissing place
  is_missing i place f g =
      let w : i < length (items h) = (let z = head_length in omega (arith, f.0)) in
      let b = absent cat text h ls a ms acc i w (sym (kind_at i w) ∙ f.1) (λ k q. sym (kind_at k (omega arith)) ∙ f.2 k q) in
      inr (h, ms, is_written, subst (Missing cat text h ms) (sym (g ∙ b.there)) b.missing, refl)

-- a text that was read
module _ (c : Catalogue) (text : List ℕ) where
  abbrev cat : Described
  cat = described c

  pub refused_so : (f : Flaw) → HasRead (queries cat) (steps cat) (Tied cat) text (Err f) → QueryRefused cat text f.refusal f.place
  refused_so f h = inl (refused_read (queries cat) (steps cat) (lawful cat) text f h)

  module _ (r : Reader) (has : HasRead (queries cat) (steps cat) (Tied cat) text (Ok r)) where
    record WholeQuery : Type 0 where
      h : Atom
      ls : List Atom
      last : Atom
      acc : Accepted (queries cat) text (stopped (h ∷ ls) last)
      read : ReadAt cat r.draft (stopped (h ∷ ls) last)

    whole_query : WholeQuery
    whole_query = go has.1.0 (accepted_so (queries cat) (steps cat) (lawful cat) text has.1.0 has.1.1 has.0) has.1.2.read
      where
        go : (p : Part) → Accepted (queries cat) text p → ReadAt cat r.draft p → WholeQuery
        go (wanted us) acc read = absurd (both_ways _ refl acc.complete)
        go (named us n) acc read = absurd (both_ways _ refl acc.complete)
        go (due us n ts) acc read = absurd (both_ways _ refl acc.complete)
        go (listed us n ts t) acc read = absurd (both_ways _ refl acc.complete)
        go (closed us a) acc read = absurd (both_ways _ refl acc.complete)
        go (stopped [] a) acc read = absurd (both_ways _ refl acc.good.2)
        go (stopped (h ∷ ls) a) acc read = record { h = h; ls = ls; last = a; acc = acc; read = read }

    pub missing_so : (i place : ℕ) → FirstMissing (held r.draft.head) r.draft.kinds.cells (Some i) → place ≡ get_or (places (tokens_of text)) (2 * i + 2) 0 → QueryRefused cat text HeadVariableMissing place
    missing_so i place f g = let w = whole_query in is_missing cat text r.draft w.h w.ls w.last w.acc w.read i place f g

    pub sound_so : FirstMissing (held r.draft.head) r.draft.kinds.cells None → sound cat.columns r.draft.variables.used (held r.draft.head) (map plain_literal (held r.draft.literals)) ≡ true
    sound_so f = let w = whole_query in is_sound cat text r.draft w.h w.ls w.last w.acc w.read f

    pub read_so : FirstMissing (held r.draft.head) r.draft.kinds.cells None → (q : Query) → q.catalogue ≡ c → q.variables ≡ r.draft.variables → q.head ≡ r.draft.head → q.literals ≡ r.draft.literals →
        (h : Atom) × (ls : List Atom) × QueryAccepted cat text h ls × Records q c h ls
    read_so f q ec ev eh el =
        let w = whole_query in
        let s = w.read in
        let e = ap names ev ∙ s.variables in (
          w.h,
          w.ls ++ w.last ∷ [],
          is_accepted cat text r.draft w.h w.ls w.last w.acc w.read f,
          record {
            catalogue = ec;
            variables = e;
            head = ap held eh ∙ s.head ∙ ap (λ (l : List Token). numbers l (items w.h)) (sym e);
            literals = ap (λ (l : Bounded rl.Literal 8). map plain_literal (held l)) el ∙ s.literals ∙ ap (λ (l : List Token). map (literal_of cat l) (w.ls ++ w.last ∷ [])) (sym e);
          },
        )
