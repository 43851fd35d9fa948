-- A query text has one answer.
use Rattle.std.proofs.Common.{◌≡◌, ℕ, suc, ◌≤◌, true, false, leb, ◌⊎◌, List, [], ◌∷◌, ◌++◌, length, Ok, Err, sym, refl, ap, ◌∙◌, subst, inl, inr, arith, leb-false, leb-true}
use Rattle.std.specs.Str.{bytes_eq}
use Rattle.std.proofs.lemmas.Bool.{or_right, both_ways, cases_Bool}
use Rattle.faults.specs.declared.refusal.Refusal.{Refusal}
use Rattle.faults.specs.declared.refusal.Refusal.TheVariants.{HeadVariableMissing}
use Rattle.lexing.specs.Tokens.{Token, Placed, words}
use Rattle.lexing.specs.Names.{among, AllAmong}
use Rattle.lexing.specs.Grammars.{Accepted, Refused, read_of, too_long}
use Rattle.lexing.specs.Readers.{Outcome}
use Rattle.lexing.proofs.Naming.{same_self}
use Rattle.lexing.proofs.Course.{way, settled, Judged, judged, one_part, one_refusal, not_both, near, place_inside}
use Rattle.catalogue.specs.Records.{Described}
use Rattle.query.specs.Rules.{Atom, items, items_in, commas, arrow, write_literals, write_atom, Part, wanted, named, due, listed, closed, stopped, whole, queries}
use Rattle.query.specs.Reading.{steps}
use Rattle.query.specs.Texts.{Written, Missing, QueryRefused, QueryAccepted, OneAnswer}
use Rattle.query.proofs.Laws.{lawful, decoder}
use Rattle.query.proofs.Answering.{all_through, FirstAbsent, first_absent, absent, headed}

stopped_of : (p : Part) → whole p ≡ true → (us : List Atom) × (a : Atom) × (p ≡ stopped us a)
stopped_of (wanted us) e = absurd (both_ways _ refl e)
stopped_of (named us n) e = absurd (both_ways _ refl e)
stopped_of (due us n ts) e = absurd (both_ways _ refl e)
stopped_of (listed us n ts t) e = absurd (both_ways _ refl e)
stopped_of (closed us a) e = absurd (both_ways _ refl e)
stopped_of (stopped us a) e = (us, a, refl)

words_append : (xs ys : List Placed) → words (xs ++ ys) ≡ words xs ++ words ys
words_append [] ys = refl
words_append (x ∷ xs) ys = ap (λ (l : List Token). x.token ∷ l) (words_append xs ys)

words_length : (xs : List Placed) → length (words xs) ≡ length xs
words_length [] = refl
words_length (x ∷ xs) = ap suc (words_length xs)

-- an element of a list by its place
same_split : (xs ys : List Placed) (t u : Placed) (r s : List Placed) → length xs ≡ length ys → xs ++ t ∷ r ≡ ys ++ u ∷ s → t ≡ u
same_split [] [] t u r s h e = cc
same_split [] (y ∷ ys) t u r s h e = absurd (omega arith)
same_split (x ∷ xs) [] t u r s h e = absurd (omega arith)
same_split (x ∷ xs) (y ∷ ys) t u r s h e = let f : xs ++ t ∷ r ≡ ys ++ u ∷ s = cc in same_split xs ys t u r s (omega arith) f

-- two variables that stand behind the same tokens, each the first that is not among some names, have as many before them
as_many : (es fs : List Token) (t u : Token) (r s ns : List Token) → commas es [] ++ t ∷ r ≡ commas fs [] ++ u ∷ s → AllAmong es ns → AllAmong fs ns → among t ns ≡ false → among u ns ≡ false → length (commas es []) ≡ length (commas fs [])
as_many [] [] t u r s ns e a b c d = refl
as_many [] (f ∷ fs) t u r s ns e a b c d = let q : t ≡ f = cc in absurd (both_ways _ (subst (λ (x : Token). among x ns ≡ false) q c) b.0)
as_many (x ∷ es) [] t u r s ns e a b c d = let q : u ≡ x = cc in absurd (both_ways _ (subst (λ (y : Token). among y ns ≡ false) q d) a.0)
as_many (x ∷ es) (f ∷ fs) t u r s ns e a b c d =
    let q : commas es [] ++ t ∷ r ≡ commas fs [] ++ u ∷ s = cc in
    let z = as_many es fs t u r s ns q a.1 b.1 c d in omega arith

-- a token behind commas in a head is one of its items
in_items : (es fs : List Token) (t last : Token) (r rest : List Token) → commas es [] ++ t ∷ r ≡ commas fs (last ∷ (41 ∷ []) ∷ rest) → among t (fs ++ last ∷ []) ≡ true
in_items [] [] t last r rest e = let q : t ≡ last = cc in subst (λ (x : Token). among t (x ∷ []) ≡ true) q (rw (same_self t) refl)
in_items [] (f ∷ fs) t last r rest e = let q : t ≡ f = cc in subst (λ (x : Token). among t (x ∷ (fs ++ last ∷ [])) ≡ true) q (rw (same_self t) refl)
in_items (x ∷ es) [] t last r rest e = absurd (let q : ◌≡◌ {A = ℕ} 44 41 = cc in omega arith)
in_items (x ∷ es) (f ∷ fs) t last r rest e = let q : commas es [] ++ t ∷ r ≡ commas fs (last ∷ (41 ∷ []) ∷ rest) = cc in or_right (bytes_eq t f) (among t (fs ++ last ∷ [])) (in_items es fs t last r rest q)

module _ (cat : Described) (text : List ℕ) where
  abbrev here : List Placed
  here = read_of (queries cat) text

  -- a text is written in one way
  one_query : (h g : Atom) (ls ms : List Atom) → Written cat text h ls → Written cat text g ms → (h ≡ g) × (ls ≡ ms)
  one_query h g ls ms v w =
      let e = one_part (queries cat) (steps cat) (lawful cat) text (stopped (h ∷ v.before) v.last) (stopped (g ∷ w.before) w.last) v.accepted w.accepted in
      let i : h ≡ g = cc in
      let j : v.before ≡ w.before = cc in
      let k : v.last ≡ w.last = cc in
      (i, v.literals ∙ ap (λ (x : List Atom). x ++ v.last ∷ []) j ∙ ap (λ (x : Atom). w.before ++ x ∷ []) k ∙ sym w.literals)

  -- the words of the text, cut at a missing variable
  cut_at : (h : Atom) (ls : List Atom) (p : ℕ) (m : Missing cat text h ls p) → words here ≡ h.name ∷ (40 ∷ []) ∷ (commas m.earlier [] ++ m.token.token ∷ words m.rest)
  cut_at h ls p m = ap words m.stands ∙ words_append m.front (m.token ∷ m.rest) ∙ ap (λ (l : List Token). l ++ m.token.token ∷ words m.rest) m.in_head

  one_missing : (h : Atom) (ls : List Atom) (p q : ℕ) → Missing cat text h ls p → Missing cat text h ls q → p ≡ q
  one_missing h ls p q m n =
      let e = sym (cut_at h ls p m) ∙ cut_at h ls q n in
      let f : commas m.earlier [] ++ m.token.token ∷ words m.rest ≡ commas n.earlier [] ++ n.token.token ∷ words n.rest = cc in
      let z = as_many m.earlier n.earlier m.token.token n.token.token (words m.rest) (words n.rest) (items_in ls) f m.others n.others m.nowhere n.nowhere in
      let fronts : length m.front ≡ length n.front = (let a = words_length m.front in let b = words_length n.front in let c = ap length m.in_head in let d = ap length n.in_head in omega arith) in
      let t = same_split m.front n.front m.token n.token m.rest n.rest fronts (sym m.stands ∙ n.stands) in
      m.at_place ∙ ap (λ (x : Placed). x.place) t ∙ sym n.at_place

  not_missing : (h : Atom) (ls : List Atom) (p : ℕ) → Written cat text h ls → AllAmong (items h) (items_in ls) → Missing cat text h ls p → ⊥
  not_missing h ls p w all m =
      let e = sym (cut_at h ls p m) ∙ w.accepted.written in
      let f : commas m.earlier [] ++ m.token.token ∷ words m.rest ≡ commas h.front (h.last ∷ (41 ∷ []) ∷ arrow ∷ write_literals w.before (write_atom w.last ((46 ∷ []) ∷ []))) = cc in
      both_ways _ m.nowhere (all_through m.token.token (items h) (items_in ls) all (in_items m.earlier h.front m.token.token h.last (words m.rest) _ f))

  written_refused : (h : Atom) (ls : List Atom) (r : Refusal) (p : ℕ) → Written cat text h ls → Refused (queries cat) text r p → ⊥
  written_refused h ls r p w a = not_both (queries cat) text (stopped (h ∷ w.before) w.last) r p w.accepted a

  written_short : (h : Atom) (ls : List Atom) → Written cat text h ls → length text ≤ 4096
  written_short h ls w = go (cases_Bool (leb (length text) 4096))
    where
      go : (leb (length text) 4096 ≡ true) ⊎ (leb (length text) 4096 ≡ false) → length text ≤ 4096
      go (inl e) = leb-true (length text) 4096 e
      go (inr e) = absurd (w.accepted.faultless (queries cat).limit 4096 (too_long (leb-false (length text) 4096 e)))

  refusals : (r s : Refusal) (p q : ℕ) → QueryRefused cat text r p → QueryRefused cat text s q → (r ≡ s) × (p ≡ q)
  refusals r s p q (inl a) (inl b) = one_refusal (queries cat) (decoder cat) text r s p q a b
  refusals r s p q (inl a) (inr b) = absurd (written_refused b.0 b.1 r p b.2 a)
  refusals r s p q (inr a) (inl b) = absurd (written_refused a.0 a.1 s q a.2 b)
  refusals r s p q (inr a) (inr b) =
      let o = one_query a.0 b.0 a.1 b.1 a.2 b.2 in
      let n : Missing cat text a.0 a.1 q = subst (λ (x : Atom). Missing cat text x a.1 q) (sym o.0) (subst (λ (x : List Atom). Missing cat text b.0 x q) (sym o.1) b.3) in
      (a.4 ∙ sym b.4, one_missing a.0 a.1 p q a.3 n)

  exclusive : (h : Atom) (ls : List Atom) (r : Refusal) (p : ℕ) → QueryAccepted cat text h ls → QueryRefused cat text r p → ⊥
  exclusive h ls r p a (inl b) = written_refused h ls r p a.written b
  exclusive h ls r p a (inr b) =
      let o = one_query h b.0 ls b.1 a.written b.2 in
      not_missing h ls p a.written a.complete (subst (λ (x : Atom). Missing cat text x ls p) (sym o.0) (subst (λ (x : List Atom). Missing cat text b.0 x p) (sym o.1) b.3))

  near_by : (r : Refusal) (p : ℕ) → QueryRefused cat text r p → p ≤ 4096
  near_by r p (inl a) = near (queries cat) text r p a
  near_by r p (inr a) =
      let m = a.3 in
      let z = place_inside (queries cat) text m.front m.token m.rest m.stands in
      let y = written_short a.0 a.1 a.2 in
      let x = m.at_place in omega arith

  abbrev Answered : Type 0
  Answered = ((h : Atom) × (ls : List Atom) × QueryAccepted cat text h ls) ⊎ ((r : Refusal) × (place : ℕ) × QueryRefused cat text r place)

  with_head : (h : Atom) (before : List Atom) (last : Atom) → Accepted (queries cat) text (stopped (h ∷ before) last) → Answered
  with_head h before last acc = go (first_absent (items h) (items_in (before ++ last ∷ [])))
    where
      written : Written cat text h (before ++ last ∷ [])
      written = record { before = before; last = last; literals = refl; accepted = acc }

      go : AllAmong (items h) (items_in (before ++ last ∷ [])) ⊎ FirstAbsent (items h) (items_in (before ++ last ∷ [])) → Answered
      go (inl a) = inl (h, before ++ last ∷ [], record { written = written; complete = a })
      go (inr f) =
          let b = absent cat text h before last (before ++ last ∷ []) acc f.place f.inside f.absent f.earlier in
          inr (HeadVariableMissing, b.place, inr (h, before ++ last ∷ [], written, b.missing, refl))

  answered : Answered
  answered = go (settled (queries cat) (steps cat) (lawful cat) text (way (queries cat) (steps cat) (lawful cat) text)) (judged (queries cat) (steps cat) (lawful cat) text)
    where
      go : (o : Outcome (queries cat)) → Judged (queries cat) (steps cat) (lawful cat) text o → Answered
      go (Ok p) a =
          let s = stopped_of p a.complete in
          let acc = subst (Accepted (queries cat) text) s.2 a in
          let z = headed cat text s.0 s.1 acc in
          with_head z.0 z.1 s.1 (subst (λ (us : List Atom). Accepted (queries cat) text (stopped us s.1)) z.2 acc)
      go (Err f) a = inr (f.refusal, f.place, inl a)

pub one_answer : OneAnswer
one_answer = record {
  answered = λ cat text. answered cat text;
  one_query = λ cat text h g ls ms a b. one_query cat text h g ls ms a.written b.written;
  one_refusal = λ cat text r s p q a b. refusals cat text r s p q a b;
  not_both = λ cat text h ls r p a b. exclusive cat text h ls r p a b;
  near = λ cat text r p a. near_by cat text r p a;
}
