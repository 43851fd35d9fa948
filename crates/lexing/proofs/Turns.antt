-- The loop of a reader: how far it has read, and what a turn adds.
use Rattle.std.proofs.Common.{◌≡◌, ℕ, true, false, cond, List, [], ◌∷◌, length, Ok, Err, sym, refl, ap, ◌∙◌}
use Rattle.faults.specs.declared.refusal.Refusal.{Refusal}
use Rattle.lexing.specs.declared.flaw.Flaw.{Flaw}
use Rattle.lexing.specs.Tokens.{Placed, sieved}
use Rattle.lexing.specs.Grammars.{Grammar}
use Rattle.lexing.specs.Readers.{Steps, Outcome, step, going, from, flaw, TakenAt, WentThrough}

module _ {R : Type 0} (g : Grammar) (c : Steps g) (Stands : R → g.Part → Type 0) (text : List ℕ) where
  -- the way from a part over the tokens that are left
  abbrev on : g.Part → List Placed → Outcome g
  on p ts = going g c (length text) p (sieved g.skips ts)

  -- the reader stands behind a part, and the way from there over the tokens that are left is the way over the whole text
  pub record ReadUpTo (r : R) (left : List Placed) : Type 0 where
    pub part : g.Part
    pub stands : Stands r part
    pub way : from g c text 0 c.start ≡ on part left

  module _ (r : R) (old left : List Placed) (t : Placed) (here : ReadUpTo r old) (turn : old ≡ t ∷ left) where
    pub passed : true ≡ g.skips t.token → ReadUpTo r left
    passed s = record { part = here.part; stands = here.stands; way = here.way ∙ ap (on here.part) turn ∙ rw (sym s) refl }

    kept : false ≡ g.skips t.token → from g c text 0 c.start ≡ step (c.wrong here.part t.token) t.place (on (c.next here.part t.token) left)
    unfolding going
    kept s = here.way ∙ ap (on here.part) turn ∙ rw (sym s) refl

    module _ (solid : false ≡ g.skips t.token) (new : R) where
      pub taken : (u : Unit {0}) → ((p : g.Part) → Stands r p → TakenAt {X = Unit {0}} c (λ _. Stands new) p t (Ok u)) → ReadUpTo new left
      taken u f = let k = f here.part here.stands in record { part = c.next here.part t.token; stands = k.1; way = kept solid ∙ rw k.0 refl }

      pub refused : (x : Flaw) → ((p : g.Part) → Stands r p → TakenAt {X = Unit {0}} c (λ _. Stands new) p t (Err x)) → WentThrough g c Stands text (Err x)
      refused x f = let k = f here.part here.stands in kept solid ∙ rw k.0 (ap (λ (n : ℕ). Err (flaw x.refusal n)) (sym k.1))

  module _ (r : R) (left : List Placed) (here : ReadUpTo r left) (none : left ≡ []) where
    ended : from g c text 0 c.start ≡ cond (g.whole here.part) (Ok here.part) (Err (flaw g.form (length text)))
    unfolding going
    ended = here.way ∙ ap (on here.part) none

    pub ends_whole : ((p : g.Part) → Stands r p → true ≡ g.whole p) → WentThrough g c Stands text (Ok r)
    ends_whole f = (here.part, ended ∙ rw (sym (f here.part here.stands)) refl, here.stands)

    pub ends_short : (x : Refusal) → x ≡ g.form → ((p : g.Part) → Stands r p → false ≡ g.whole p) → WentThrough g c Stands text (Err (flaw x (length text)))
    ends_short x e f = ended ∙ rw (sym (f here.part here.stands), e) refl
