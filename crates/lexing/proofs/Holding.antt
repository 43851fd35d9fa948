-- What bounded lists hold, and lists of names to which one is added.
use Rattle.std.proofs.Common.{◌≡◌, ℕ, ◌<◌, ◌≤◌, true, false, not, ◌&&◌, ltb, leb, ◌⊎◌, List, [], ◌∷◌, ◌++◌, map, length, Some, None, sym, refl, ap, ◌∙◌, subst, inl, inr, arith, ltb-false, le-ltb, lt-ltb, le-leb}
use borrow.Author.Tests.{lt-leb}
use Rattle.std.proofs.lemmas.Bool.{or_right, both_ways, cases_Bool}
use Rattle.std.proofs.lemmas.List.{length-map, map_push}
use Rattle.bounded.specs.declared.list.Bounded.{Bounded}
use Rattle.lexing.specs.Tokens.{Token}
use Rattle.lexing.specs.Names.{among, place_of, number_of}
use Rattle.bounded.specs.Held.{held}
use Rattle.lexing.specs.Lists.{names, crowded, Numbered}
use Rattle.bounded.proofs.Holding.{length_held, length_most}
use Rattle.lexing.proofs.Naming.{place_some, place_none}

pub name_pushed : {n : ℕ} (old new : Bounded (Bounded ℕ 16) n) (w : Bounded ℕ 16) (t : Token) → held w ≡ t → held new ≡ held old ++ w ∷ [] → names new ≡ names old ++ t ∷ []
name_pushed old new w t e f = ap (map held) f ∙ map_push held (held old) w ∙ ap (λ (x : Token). names old ++ x ∷ []) e

pub names_length : {n : ℕ} (l : Bounded (Bounded ℕ 16) n) → length (names l) ≡ length (held l)
names_length l = length-map (held l) held

pub found_below : (l : Bounded (Bounded ℕ 16) 16) (s : List (Bounded ℕ 16)) (t : Token) → s ≡ held l → (i : ℕ) → Some i ≡ place_of t (map held s) → i < 16
found_below l s t same i e =
    let p = place_some t (names l) i (ap (λ (x : List (Bounded ℕ 16)). place_of t (map held x)) (sym same) ∙ sym e) in
    let z = names_length l in let y = length_most l in omega (arith, p.0)

module _ (l : Bounded (Bounded ℕ 16) 16) (s : List (Bounded ℕ 16)) (t : Token) (limit : ℕ) (same : s ≡ held l) where
  pub number_found : (i : ℕ) → Some i ≡ place_of t (map held s) → length t ≤ 16 → Numbered (names l) (names l) t limit (Some i)
  number_found i e h =
      let p = place_some t (names l) i (ap (λ (x : List (Bounded ℕ 16)). place_of t (map held x)) (sym same) ∙ sym e) in
      let z = names_length l in let y = length_most l in
      (rw p.2 refl, sym p.3, omega (arith, p.0), h, inl p.2)

  none_there : None ≡ place_of t (map held s) → (among t (names l) ≡ false) × (number_of t (names l) ≡ length (names l))
  none_there e = place_none t (names l) (ap (λ (x : List (Bounded ℕ 16)). place_of t (map held x)) (sym same) ∙ sym e)

  pub number_full : (n : ℕ) → None ≡ place_of t (map held s) → n ≡ length (held l) → limit ≤ n → Numbered (names l) (names l) t limit None
  number_full n e c h = let z = names_length l in (refl, inr ((none_there e).0, inl (omega arith)))

  pub number_crowded : (new : Bounded (Bounded ℕ 16) 16) (w : Bounded ℕ 16) → None ≡ place_of t (map held s) → false ≡ ltb l.used 16 → held new ≡ held l → Numbered (names l) (names new) t limit None
  number_crowded new w e f g = let z = names_length l in let y = length_held l in let k = ltb-false l.used 16 (sym f) in (ap (map held) g, inr ((none_there e).0, inr (omega arith)))

  pub number_new : (n : ℕ) (new : Bounded (Bounded ℕ 16) 16) (w : Bounded ℕ 16) → None ≡ place_of t (map held s) → n ≡ length (held l) → n < limit → length t ≤ 16 → held w ≡ t → n < 16 → held new ≡ held l ++ w ∷ [] → Numbered (names l) (names new) t limit (Some n)
  number_new n new w e c h k g u f =
      let p = none_there e in let z = names_length l in
      (name_pushed l new w t g f ∙ sym (rw p.0 refl), c ∙ sym (p.1 ∙ z), u, k, inr (omega arith))

-- no place for a name, and a place for one
pub crowds : (vs : List Token) (t : Token) (old more : List Token) → old ≡ vs → Numbered old more t 16 None → crowded t vs ≡ true
crowds vs t old more e q = go q.1
  where
    full : among t old ≡ false → 16 ≤ length old → (not (among t vs) && leb 16 (length vs)) ≡ true
    full a h = let f : among t vs ≡ false = subst (λ (l : List Token). among t l ≡ false) e a in rw f (le-leb 16 (length vs) (subst (λ (l : List Token). 16 ≤ length l) e h))

    go : (16 < length t) ⊎ ((among t old ≡ false) × ((16 ≤ length old) ⊎ (16 ≤ length old))) → crowded t vs ≡ true
    go (inl h) = rw (lt-ltb 16 (length t) h) refl
    go (inr h) = or_right (ltb 16 (length t)) (not (among t vs) && leb 16 (length vs)) (full h.0 (elim h.1 [ inl x ↦ x | inr x ↦ x ]))

pub roomy : (vs : List Token) (t : Token) (old more : List Token) (i : ℕ) → old ≡ vs → Numbered old more t 16 (Some i) → crowded t vs ≡ false
roomy vs t old more i e q = rw (le-ltb 16 (length t) q.3) (go (cases_Bool (among t vs)) q.4)
  where
    go : (among t vs ≡ true) ⊎ (among t vs ≡ false) → (among t old ≡ true) ⊎ (length old < 16) → (not (among t vs) && leb 16 (length vs)) ≡ false
    go (inl a) h = rw a refl
    go (inr a) (inl h) = absurd (both_ways _ a (subst (λ (l : List Token). among t l ≡ true) e h))
    go (inr a) (inr h) = rw a (lt-leb 16 (length vs) (subst (λ (l : List Token). length l < 16) e h))
