-- A reader of a grammar goes from part to part. What it finds is the lowest fault, or the whole text.
use Rattle.std.proofs.Common.{◌≡◌, ℕ, ◌+◌, ◌<◌, ◌≤◌, Bool, true, false, cond, ◌&&◌, ◌||◌, eqb, ltb, leb, ◌⊎◌, List, [], ◌∷◌, ◌++◌, length, Some, None, Ok, Err, Option, sym, refl, ap, ◌∙◌, subst, inl, inr, append_assoc, append-nil, arith, ltb-false, ltb-true, eqb-true, le-leb, leb-false, leb-true}
use borrow.Author.Tests.{eqb-false}
use Rattle.faults.specs.declared.refusal.Refusal.{Refusal}
use Rattle.faults.specs.Refusals.{number}
use Rattle.lexing.specs.declared.flaw.Flaw.{Flaw}
use Rattle.lexing.specs.Flaws.{in_time}
use Rattle.lexing.specs.Tokens.{Token, tokens, Placed, placed, sieved, words}
use Rattle.lexing.specs.Readers.{Steps, Outcome, flaw, step, going, with_length}
use Rattle.lexing.specs.Grammars.{Grammar, read_of, Whole, Begins, Faulty, unexpected, unfinished, caused, too_long, NotAbove, Refused, Accepted}
use Rattle.std.proofs.lemmas.Bool.{and_parts, both_ways, cases_Bool}
use Rattle.lexing.proofs.Lexing.{Solid, solid_tokens, size, size_tokens}

-- all of the tokens fit, one after the other, and the part behind them
abbrev pub runs : {P : Type 0} → (P → Token → Bool) → (P → Token → P) → P → List Token → Bool
runs fits next p [] = true
runs fits next p (t ∷ ts) = fits p t && runs fits next (next p t) ts

abbrev pub after : {P : Type 0} → (P → Token → P) → P → List Token → P
after next p [] = p
after next p (t ∷ ts) = after next (next p t) ts

-- what ties a reader's steps to its grammar
pub record Lawful (g : Grammar) (c : Steps g) : Type 1 where
  pub good_start : g.Good c.start
  pub shown_start : g.shown c.start [] ≡ []
  pub good_next : (p : g.Part) (t : Token) → g.Good p → c.fits p t ≡ true → g.Good (c.next p t)
  pub shown_next : (p : g.Part) (t : Token) (rest : List Token) → c.fits p t ≡ true → g.shown (c.next p t) rest ≡ g.shown p (t ∷ rest)
  pub shown_front : (p : g.Part) (rest : List Token) → g.shown p rest ≡ g.shown p [] ++ rest
  -- what goes along with the parts goes along with what is shown
  pub along : {X : Type 0} (F : g.Part → List Token → X) → ((p : g.Part) (t : Token) (ts : List Token) → c.fits p t ≡ true → F p (t ∷ ts) ≡ F (c.next p t) ts) →
      (p : g.Part) (rest : List Token) → g.Good p → F c.start (g.shown p rest) ≡ F p rest
  -- every part can be made whole
  pub ending : (p : g.Part) → g.Good p → (rest : List Token) × (runs c.fits c.next p rest ≡ true) × (g.whole (after c.next p rest) ≡ true)
  -- the refusal is the lowest of what is wrong
  pub unfit : (p : g.Part) (t : Token) → c.fits p t ≡ false → c.wrong p t ≡ Some g.form
  pub right : (p : g.Part) (t : Token) → c.wrong p t ≡ None → c.fits p t ≡ true
  pub found : (p : g.Part) (t : Token) (r : Refusal) → c.fits p t ≡ true → c.wrong p t ≡ Some r → g.Cause p t r
  pub least : (p : g.Part) (t : Token) (r : Refusal) → g.Cause p t r → (s : Refusal) × (c.wrong p t ≡ Some s) × (number s ≤ number r)

words_push : (f : List Placed) (t : Placed) → words (f ++ t ∷ []) ≡ words f ++ t.token ∷ []
words_push [] t = refl
words_push (x ∷ f) t = ap (λ (l : List Token). x.token ∷ l) (words_push f t)

-- places rise up to the end
abbrev first_place : List Placed → ℕ → ℕ
first_place [] end = end
first_place (t ∷ ts) end = t.place

abbrev Rising : List Placed → ℕ → Type 0
Rising [] end = Unit {0}
Rising (t ∷ ts) end = (t.place < first_place ts end) × Rising ts end

rising_placed : (k : ℕ) (ts : List Token) → Solid ts → Rising (placed k ts) (k + size ts)
rising_placed k [] d = tt
rising_placed k (t ∷ ts) d = (first k t ts d.0 d.1, subst (Rising (placed (k + length t) ts)) (let e : k + length t + size ts ≡ k + (length t + size ts) = omega arith in e) (rising_placed (k + length t) ts d.1))
  where
    first : (k : ℕ) (t : Token) (ts : List Token) → 1 ≤ length t → Solid ts → k < first_place (placed (k + length t) ts) (k + (length t + size ts))
    first k t [] h d = omega arith
    first k t (x ∷ ts) h d = omega arith

first_sieved : (f : Token → Bool) (k : ℕ) (xs : List Placed) (end : ℕ) → Rising xs end → k < first_place xs end → k < first_place (sieved f xs) end
first_sieved f k [] end r h = h
first_sieved f k (x ∷ xs) end r h = go (f x.token) (first_sieved f k xs end r.1)
  where
    go : (b : Bool) → (k < first_place xs end → k < first_place (sieved f xs) end) → k < first_place (cond b (sieved f xs) (x ∷ sieved f xs)) end
    go true ih = ih (let z = r.0 in omega arith)
    go false ih = h

rising_sieved : (f : Token → Bool) (xs : List Placed) (end : ℕ) → Rising xs end → Rising (sieved f xs) end
rising_sieved f [] end r = tt
rising_sieved f (x ∷ xs) end r = go (f x.token) (rising_sieved f xs end r.1)
  where
    go : (b : Bool) → Rising (sieved f xs) end → Rising (cond b (sieved f xs) (x ∷ sieved f xs)) end
    go true ih = ih
    go false ih = (first_sieved f x.place xs end r.1 r.0, ih)

rising_read : (f : Token → Bool) (text : List ℕ) → Rising (sieved f (placed 0 (tokens text))) (length text)
rising_read f text =
    let e : 0 + size (tokens text) ≡ length text = (let z = size_tokens text in omega arith) in
    rising_sieved f (placed 0 (tokens text)) (length text) (subst (Rising (placed 0 (tokens text))) e (rising_placed 0 (tokens text) (solid_tokens text)))

module _ (g : Grammar) (c : Steps g) (law : Lawful g c) where
  abbrev run : g.Part → List Token → Bool
  run = runs c.fits c.next

  abbrev past : g.Part → List Token → g.Part
  past = after c.next

  -- a good part written by these tokens
  abbrev Front : g.Part → List Token → Type 0
  Front p f = g.Good p × (f ≡ g.shown p [])

  run_along : (p : g.Part) (rest : List Token) → g.Good p → run c.start (g.shown p rest) ≡ run p rest
  run_along p rest h = law.along run (λ p t ts e. rw e refl) p rest h

  past_along : (p : g.Part) (rest : List Token) → g.Good p → past c.start (g.shown p rest) ≡ past p rest
  past_along p rest h = law.along past (λ p t ts e. refl) p rest h

  run_front : (p : g.Part) (xs ys : List Token) → run p (xs ++ ys) ≡ true → run p xs ≡ true
  run_front p [] ys e = refl
  run_front p (t ∷ xs) ys e = rw ((and_parts (c.fits p t) (run (c.next p t) (xs ++ ys)) e).0) (run_front (c.next p t) xs ys ((and_parts (c.fits p t) (run (c.next p t) (xs ++ ys)) e).1))

  good_past : (p : g.Part) (ts : List Token) → g.Good p → run p ts ≡ true → g.Good (past p ts)
  good_past p [] h e = h
  good_past p (t ∷ ts) h e = good_past (c.next p t) ts (law.good_next p t h ((and_parts (c.fits p t) (run (c.next p t) ts) e).0)) ((and_parts (c.fits p t) (run (c.next p t) ts) e).1)

  shown_past : (p : g.Part) (ts rest : List Token) → run p ts ≡ true → g.shown (past p ts) rest ≡ g.shown p (ts ++ rest)
  shown_past p [] rest e = refl
  shown_past p (t ∷ ts) rest e = shown_past (c.next p t) ts rest ((and_parts (c.fits p t) (run (c.next p t) ts) e).1) ∙ law.shown_next p t (ts ++ rest) ((and_parts (c.fits p t) (run (c.next p t) ts) e).0)

  begins : Front c.start []
  begins = (law.good_start, sym law.shown_start)

  steps : (p : g.Part) (f : List Token) (t : Token) → Front p f → c.fits p t ≡ true → Front (c.next p t) (f ++ t ∷ [])
  steps p f t h e = (law.good_next p t h.0 e, ap (λ (l : List Token). l ++ t ∷ []) h.1 ∙ sym (law.shown_next p t [] e ∙ law.shown_front p (t ∷ [])))

  run_whole : (ts : List Token) → Whole g ts → run c.start ts ≡ true
  run_whole ts w = ap (run c.start) w.written ∙ run_along w.part [] w.good

  stuck : (p : g.Part) (f : List Token) (t : Token) → Front p f → c.fits p t ≡ false → Begins g (f ++ t ∷ []) → ⊥
  stuck p f t h e b = both_ways (run p (t ∷ [])) (rw e refl)
      (sym (run_along p (t ∷ []) h.0) ∙ ap (run c.start) (law.shown_front p (t ∷ []) ∙ ap (λ (l : List Token). l ++ t ∷ []) (sym h.1)) ∙ run_front c.start (f ++ t ∷ []) b.rest (run_whole _ b.ends))

  opens : (p : g.Part) (f : List Token) → Front p f → Begins g f
  opens p f h =
      let d = law.ending p h.0 in
      record {
        rest = d.0;
        ends = record {
          part = past p d.0;
          good = good_past p d.0 h.0 d.1;
          complete = d.2;
          written = ap (λ (l : List Token). l ++ d.0) h.1 ∙ sym (shown_past p d.0 [] d.1 ∙ ap (g.shown p) (append-nil d.0) ∙ law.shown_front p d.0);
        };
      }

  one : (p q : g.Part) (f : List Token) → Front p f → Front q f → p ≡ q
  one p q f h k = sym (past_along p [] h.0) ∙ ap (past c.start) (sym h.1 ∙ k.1) ∙ past_along q [] k.0

  goes_on : (p : g.Part) (f : List Token) → Front p f → g.whole p ≡ false → Whole g f → ⊥
  goes_on p f h e w = both_ways _ e (subst (λ (q : g.Part). g.whole q ≡ true) (one w.part p f (w.good, w.written) h) w.complete)

  module _ (text : List ℕ) where
    abbrev end : ℕ
    end = length text

    -- what the reader finds is there
    abbrev Sound : List Placed → Outcome g → Type 0
    Sound ts (Ok p) = Front p (words ts) × (g.whole p ≡ true)
    Sound ts (Err e) = Faulty g text e.refusal e.place

    sound : (p : g.Part) (front rest : List Placed) → read_of g text ≡ front ++ rest → Front p (words front) → Sound (read_of g text) (going g c end p rest)
    unfolding going
    sound p front [] s h = let e = s ∙ append-nil front in go (g.whole p) refl (subst (λ (l : List Placed). Front p (words l)) (sym e) h)
      where
        go : (b : Bool) → g.whole p ≡ b → Front p (words (read_of g text)) → Sound (read_of g text) (cond b (Ok p) (Err (flaw g.form end)))
        go true e k = (k, e)
        go false e k = unfinished (goes_on p (words (read_of g text)) k e)
    sound p front (t ∷ rest) s h =
        go (c.wrong p t.token) refl (cases_Bool (c.fits p t.token))
        (λ k. sound (c.next p t.token) (front ++ t ∷ []) rest (s ∙ sym (append_assoc front (t ∷ []) rest)) (subst (Front (c.next p t.token)) (sym (words_push front t)) k))
      where
        go : (o : Option Refusal) → c.wrong p t.token ≡ o → (c.fits p t.token ≡ true) ⊎ (c.fits p t.token ≡ false) →
            (Front (c.next p t.token) (words front ++ t.token ∷ []) → Sound (read_of g text) (going g c end (c.next p t.token) rest)) →
            Sound (read_of g text) (step o t.place (going g c end (c.next p t.token) rest))
        go None e f ih = ih (steps p (words front) t.token h (law.right p t.token e))
        go (Some r) e (inl f) ih = caused r p front t rest s h.0 h.1 (law.found p t.token r f e)
        go (Some r) e (inr f) ih =
            let q : g.form ≡ r = (let u = law.unfit p t.token f in cc) in
            subst (λ (x : Refusal). Faulty g text x t.place) q (unexpected front t rest s (stuck p (words front) t.token h f))

    -- nothing is below it
    abbrev Lowest : Outcome g → Refusal → ℕ → Type 0
    Lowest (Ok p) m q = ⊥
    Lowest (Err e) m q = NotAbove e.refusal e.place m q

    -- something is wrong right behind the part, with a number up to that of m
    abbrev Bad : g.Part → List Placed → Refusal → Type 0
    Bad p [] m = (g.whole p ≡ false) × (number g.form ≤ number m)
    Bad p (t ∷ ts) m = (s : Refusal) × (c.wrong p t.token ≡ Some s) × (number s ≤ number m)

    rises : (t : Placed) (xs ys : List Placed) → Rising (t ∷ xs ++ ys) end → t.place < first_place ys end
    rises t [] ys r = r.0
    rises t (x ∷ xs) ys r = let z = rises x xs ys r.1 in omega (arith, r.0)

    lowest : (p : g.Part) (xs ys : List Placed) (m : Refusal) (q : ℕ) → Rising (xs ++ ys) end → first_place ys end ≡ q → (run p (words xs) ≡ true → Bad (past p (words xs)) ys m) → Lowest (going g c end p (xs ++ ys)) m q
    unfolding going
    lowest p [] [] m q r s b = let z = b refl in rw z.0 (inr (s, z.1))
    lowest p [] (t ∷ ys) m q r s b = let z = b refl in rw z.1 (inr (s, z.2))
    lowest p (t ∷ xs) ys m q r s b = go (c.wrong p t.token) refl (lowest (c.next p t.token) xs ys m q r.1 s)
      where
        go : (o : Option Refusal) → c.wrong p t.token ≡ o → ((run (c.next p t.token) (words xs) ≡ true → Bad (past (c.next p t.token) (words xs)) ys m) → Lowest (going g c end (c.next p t.token) (xs ++ ys)) m q) →
            Lowest (step o t.place (going g c end (c.next p t.token) (xs ++ ys))) m q
        go None e ih = ih (λ k. b (rw (law.right p t.token e) k))
        go (Some x) e ih = inl (let z = rises t xs ys r in omega arith)

    front_past : (xs : List Placed) → run c.start (words xs) ≡ true → Front (past c.start (words xs)) (words xs)
    front_past xs e = (good_past c.start (words xs) law.good_start e, sym (shown_past c.start (words xs) [] e ∙ law.shown_front c.start (words xs ++ []) ∙ rw law.shown_start (append-nil (words xs))))

    -- but for the length of the text
    abbrev Long : Refusal → ℕ → Type 0
    Long m q = (4096 < end) × (m ≡ g.limit) × (q ≡ 4096)

    abbrev pub way : Outcome g
    way = going g c end c.start (read_of g text)

    below_all : Rising (read_of g text) end → (m : Refusal) (q : ℕ) → Faulty g text m q → Lowest way m q ⊎ Long m q
    below_all r m q (unexpected front t rest e nv) =
        inl (subst (λ (l : List Placed). Lowest (going g c end c.start l) g.form t.place) (sym e)
        (lowest c.start front (t ∷ rest) g.form t.place (subst (λ (l : List Placed). Rising l end) e r) refl (λ k. by (past c.start (words front)) (front_past front k) (cases_Bool (c.fits (past c.start (words front)) t.token)))))
      where
        by : (p : g.Part) → Front p (words front) → (c.fits p t.token ≡ true) ⊎ (c.fits p t.token ≡ false) → Bad p (t ∷ rest) g.form
        by p h (inl f) = absurd (nv (opens (c.next p t.token) (words front ++ t.token ∷ []) (steps p (words front) t.token h f)))
        by p h (inr f) = (g.form, law.unfit p t.token f, omega arith)
    below_all r m q (unfinished nw) =
        inl (subst (λ (l : List Placed). Lowest (going g c end c.start l) g.form end) (append-nil (read_of g text))
        (lowest c.start (read_of g text) [] g.form end (subst (λ (l : List Placed). Rising l end) (sym (append-nil (read_of g text))) r) refl (λ k. (by (past c.start (words (read_of g text))) (front_past (read_of g text) k) (cases_Bool (g.whole (past c.start (words (read_of g text))))), omega arith))))
      where
        by : (p : g.Part) → Front p (words (read_of g text)) → (g.whole p ≡ true) ⊎ (g.whole p ≡ false) → g.whole p ≡ false
        by p h (inl f) = absurd (nw (record { part = p; good = h.0; complete = f; written = h.1 }))
        by p h (inr f) = f
    below_all r m q (caused n p front t rest e k w y) =
        inl (subst (λ (l : List Placed). Lowest (going g c end c.start l) n t.place) (sym e)
        (lowest c.start front (t ∷ rest) n t.place (subst (λ (l : List Placed). Rising l end) e r) refl
        (λ z. subst (λ (x : g.Part). Bad x (t ∷ rest) n) (one p (past c.start (words front)) (words front) (k, w) (front_past front z)) (law.least p t.token n y))))
    below_all r m q (too_long h) = inr (h, refl, refl)

    -- the answer, with the length of the text
    abbrev pub settled : Outcome g → Outcome g
    settled o = with_length g end o

    abbrev pub Judged : Outcome g → Type 0
    Judged (Ok p) = Accepted g text p
    Judged (Err f) = Refused g text f.refusal f.place

    judged_ok : (p : g.Part) (b : Bool) → leb end 4096 ≡ b → Sound (read_of g text) (Ok p) → ((m : Refusal) (q : ℕ) → Faulty g text m q → ⊥ ⊎ Long m q) → Judged (cond b (Ok p) (Err (flaw g.limit 4096)))
    judged_ok p true e s low = record { good = s.0.0; complete = s.1; written = s.0.1; faultless = λ m q f. elim (low m q f) [ inl x ↦ x | inr h ↦ omega (arith, leb-true end 4096 e, h.0) ] }
    judged_ok p false e s low = record { fault = too_long (leb-false end 4096 e); lowest = λ m q f. elim (low m q f) [ inl x ↦ absurd x | inr h ↦ inr (sym h.2, let z = ap number h.1 in omega arith) ] }

    timely : (f : Flaw) → in_time f g.limit ≡ true → NotAbove f.refusal f.place g.limit 4096
    timely f t = by (ltb f.place 4096) refl t
      where
        by : (b : Bool) → ltb f.place 4096 ≡ b → (b || (eqb f.place 4096 && leb (number f.refusal) (number g.limit))) ≡ true → NotAbove f.refusal f.place g.limit 4096
        by true i j = inl (ltb-true f.place 4096 i)
        by false i j = inr (eqb-true f.place 4096 ((and_parts (eqb f.place 4096) (leb (number f.refusal) (number g.limit)) j).0), leb-true (number f.refusal) (number g.limit) ((and_parts (eqb f.place 4096) (leb (number f.refusal) (number g.limit)) j).1))

    late : (f : Flaw) → in_time f g.limit ≡ false → (4096 < f.place) ⊎ ((f.place ≡ 4096) × (number g.limit < number f.refusal))
    late f t = by (ltb f.place 4096) (eqb f.place 4096) refl refl t
      where
        by : (b d : Bool) → ltb f.place 4096 ≡ b → eqb f.place 4096 ≡ d → (b || (d && leb (number f.refusal) (number g.limit))) ≡ false → (4096 < f.place) ⊎ ((f.place ≡ 4096) × (number g.limit < number f.refusal))
        by true d i j k = absurd (both_ways _ k refl)
        by false true i j k = inr (eqb-true f.place 4096 j, leb-false (number f.refusal) (number g.limit) k)
        by false false i j k = inl (let a = ltb-false f.place 4096 i in let z = eqb-false f.place 4096 j in omega arith)

    later : (f : Flaw) (m : Refusal) (q : ℕ) → (4096 < f.place) ⊎ ((f.place ≡ 4096) × (number g.limit < number f.refusal)) → NotAbove f.refusal f.place m q → NotAbove g.limit 4096 m q
    later f m q (inl h) (inl x) = inl (omega arith)
    later f m q (inl h) (inr x) = inl (omega (arith, x.0))
    later f m q (inr h) (inl x) = inl (omega (arith, h.0))
    later f m q (inr h) (inr x) = inr (omega (arith, h.0, x.0), omega (arith, h.1, x.1))

    judged_err : (f : Flaw) (a b : Bool) → leb end 4096 ≡ a → in_time f g.limit ≡ b → Faulty g text f.refusal f.place → ((m : Refusal) (q : ℕ) → Faulty g text m q → NotAbove f.refusal f.place m q ⊎ Long m q) →
        Judged (Err (cond (a || b) f (flaw g.limit 4096)))
    judged_err f true b i j s low = record { fault = s; lowest = λ m q x. elim (low m q x) [ inl z ↦ z | inr h ↦ absurd (omega (arith, leb-true end 4096 i, h.0)) ] }
    judged_err f false true i j s low = record { fault = s; lowest = λ m q x. elim (low m q x) [ inl z ↦ z | inr h ↦ rw (h.1, h.2) (timely f j) ] }
    judged_err f false false i j s low = record { fault = too_long (leb-false end 4096 i); lowest = λ m q x. elim (low m q x) [ inl z ↦ later f m q (late f j) z | inr h ↦ inr (sym h.2, let z = ap number h.1 in omega arith) ] }

    pub judged : Judged (settled way)
    judged = go way (sound c.start [] (read_of g text) refl begins) (below_all (rising_read g.skips text))
      where
        go : (o : Outcome g) → Sound (read_of g text) o → ((m : Refusal) (q : ℕ) → Faulty g text m q → Lowest o m q ⊎ Long m q) → Judged (settled o)
        go (Ok p) s low = judged_ok p (leb end 4096) refl s low
        go (Err f) s low = judged_err f (leb end 4096) (in_time f g.limit) refl refl s low

    pub accepted_so : (p : g.Part) → way ≡ Ok p → end ≤ 4096 → Accepted g text p
    accepted_so p e h = let z : settled (Ok p) ≡ Ok p = rw (le-leb end 4096 h) refl in subst Judged (ap settled e ∙ z) judged

    pub refused_read : (f : Flaw) → settled way ≡ Err f → Refused g text f.refusal f.place
    refused_read f e = subst Judged e judged

    -- one answer
    pub one_part : (p q : g.Part) → Accepted g text p → Accepted g text q → p ≡ q
    one_part p q a b = one p q (words (read_of g text)) (a.good, a.written) (b.good, b.written)

meet : (r s : Refusal) (p q : ℕ) → NotAbove r p s q → NotAbove s q r p → (number r ≡ number s) × (p ≡ q)
meet r s p q (inl a) (inl b) = absurd (omega arith)
meet r s p q (inl a) (inr b) = absurd (omega (arith, b.0))
meet r s p q (inr a) (inl b) = absurd (omega (arith, a.0))
meet r s p q (inr a) (inr b) = (omega (arith, a.1, b.1), a.0)

-- a decoder knows the refusals of a grammar by their numbers
pub record Decoder (g : Grammar) : Type 0 where
  pub decoded : ℕ → Refusal
  pub of_form : decoded (number g.form) ≡ g.form
  pub of_limit : decoded (number g.limit) ≡ g.limit
  pub of_cause : (p : g.Part) (t : Token) (r : Refusal) → g.Cause p t r → decoded (number r) ≡ r

module _ (g : Grammar) (d : Decoder g) (text : List ℕ) where
  of_fault : (r : Refusal) (p : ℕ) → Faulty g text r p → d.decoded (number r) ≡ r
  of_fault r p (unexpected front t rest e n) = d.of_form
  of_fault r p (unfinished n) = d.of_form
  of_fault r p (caused s q front t rest e k w y) = d.of_cause q t.token s y
  of_fault r p (too_long h) = d.of_limit

  pub one_refusal : (r s : Refusal) (p q : ℕ) → Refused g text r p → Refused g text s q → (r ≡ s) × (p ≡ q)
  one_refusal r s p q a b =
      let m = meet r s p q (a.lowest s q b.fault) (b.lowest r p a.fault) in
      (sym (of_fault r p a.fault) ∙ ap d.decoded m.0 ∙ of_fault s q b.fault, m.1)

pub not_both : (g : Grammar) (text : List ℕ) (p : g.Part) (r : Refusal) (k : ℕ) → Accepted g text p → Refused g text r k → ⊥
not_both g text p r k a b = a.faultless r k b.fault

-- no place lies behind the text
inside : (xs ys : List Placed) (t : Placed) (end : ℕ) → Rising (xs ++ t ∷ ys) end → t.place < end
inside [] [] t end r = r.0
inside [] (y ∷ ys) t end r = let z = inside [] ys y end r.1 in omega (arith, r.0)
inside (x ∷ xs) ys t end r = inside xs ys t end r.1

pub place_inside : (g : Grammar) (text : List ℕ) (front : List Placed) (t : Placed) (rest : List Placed) → read_of g text ≡ front ++ t ∷ rest → t.place < length text
place_inside g text front t rest e = inside front rest t (length text) (subst (λ (l : List Placed). Rising l (length text)) e (rising_read g.skips text))

pub near : (g : Grammar) (text : List ℕ) (r : Refusal) (p : ℕ) → Refused g text r p → p ≤ 4096
near g text r p a = go (cases_Bool (leb (length text) 4096))
  where
    by : (s : Refusal) (q : ℕ) → Faulty g text s q → length text ≤ 4096 → q ≤ 4096
    by s q (unexpected front t rest e n) h = let z = place_inside g text front t rest e in omega arith
    by s q (unfinished n) h = h
    by s q (caused m x front t rest e k w y) h = let z = place_inside g text front t rest e in omega arith
    by s q (too_long z) h = omega arith

    go : (leb (length text) 4096 ≡ true) ⊎ (leb (length text) 4096 ≡ false) → p ≤ 4096
    go (inl e) = by r p a.fault (leb-true (length text) 4096 e)
    go (inr e) = elim (a.lowest g.limit 4096 (too_long (leb-false (length text) 4096 e))) [ inl h ↦ omega arith | inr h ↦ omega (arith, h.0) ]
