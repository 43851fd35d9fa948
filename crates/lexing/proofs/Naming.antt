-- Names: tests byte by byte, and places in lists of names.
use Rattle.std.proofs.Common.{◌≡◌, ℕ, zero, suc, ◌+◌, ◌<◌, ◌≤◌, Bool, true, false, cond, ◌||◌, ◌⊎◌, List, [], ◌∷◌, ◌++◌, map, length, get_or, Some, None, Decides, Option, sym, refl, ap, ◌∙◌, subst, inl, inr, arith, not, position, ltb, ltb-true, ltb-false, lt-ltb, le-ltb}
use Rattle.std.specs.List.{position_or_len}
use Rattle.std.specs.Option.{option_map}
use Rattle.std.specs.Str.{bytes_eq}
use Rattle.std.proofs.lemmas.Slice.Eq.{bytes_eq-Decides}
use Rattle.std.proofs.lemmas.List.{length_push}
use Rattle.lexing.specs.Tokens.{Token}
use Rattle.lexing.specs.declared.name.Alphabet.TheVariants.{Names, Lower}
use Rattle.lexing.specs.Names.{is_identifier, is_name, among, place_of, number_of, with_name, first_seen, numbers, AllAmong}
use Rattle.std.proofs.lemmas.Bool.{both_ways, cases_Bool}

-- a name is a lower-case letter with the bytes of names behind it
pub name_identifier : (t : Token) → is_identifier Lower Names t ≡ is_name t
unfolding is_name
name_identifier [] = refl
name_identifier (x ∷ t) = refl

-- equal bytes
pub same_is : (xs ys : List ℕ) → bytes_eq xs ys ≡ true → xs ≡ ys
same_is xs ys e = (bytes_eq-Decides xs ys).0 e

pub same_self : (xs : List ℕ) → bytes_eq xs xs ≡ true
same_self xs = (bytes_eq-Decides xs xs).1 refl

-- the first place is the one that the library's search finds
pub place_position : {X : Type 0} (name : X → Token) (t : Token) (xs : List X) → position (λ x. bytes_eq t (name x)) xs ≡ place_of t (map name xs)
place_position name t [] = refl
place_position name t (x ∷ xs) = go (bytes_eq t (name x)) (position_or_len (λ x. bytes_eq t (name x)) xs) (place_position name t xs)
  where
    go : (b : Bool) (n : ℕ) → cond (ltb n (length xs)) (Some n) None ≡ place_of t (map name xs) →
        cond (ltb (cond (not b) (1 + n) 0) (suc (length xs))) (Some (cond (not b) (1 + n) 0)) None ≡ cond b (Some 0) (option_map suc (place_of t (map name xs)))
    go true n e = rw (lt-ltb 0 (suc (length xs)) (omega arith)) refl
    go false n e = rw (← e) (by (cases_Bool (ltb n (length xs))))
      where
        by : (ltb n (length xs) ≡ true) ⊎ (ltb n (length xs) ≡ false) → cond (ltb (1 + n) (suc (length xs))) (Some (1 + n)) None ≡ option_map suc (cond (ltb n (length xs)) (Some n) None)
        by (inl h) = let z = ltb-true n (length xs) h in rw (h, lt-ltb (1 + n) (suc (length xs)) (omega arith)) (let y : 1 + n ≡ suc n = omega arith in ap Some y)
        by (inr h) = let z = ltb-false n (length xs) h in rw (h, le-ltb (1 + n) (suc (length xs)) (omega arith)) refl

-- a place, and the number of a name
pub place_some : (t : Token) (xs : List Token) (i : ℕ) → place_of t xs ≡ Some i → (i < length xs) × (get_or xs i [] ≡ t) × (among t xs ≡ true) × (number_of t xs ≡ i)
place_some t [] i e = absurd (let z : ◌≡◌ {A = ℕ} 0 1 = cc in omega arith)
place_some t (x ∷ xs) i e = go (bytes_eq t x) refl e (place_some t xs)
  where
    go : (b : Bool) → bytes_eq t x ≡ b → cond b (Some 0) (option_map suc (place_of t xs)) ≡ Some i →
        ((j : ℕ) → place_of t xs ≡ Some j → (j < length xs) × (get_or xs j [] ≡ t) × (among t xs ≡ true) × (number_of t xs ≡ j)) →
        (i < suc (length xs)) × (get_or (x ∷ xs) i [] ≡ t) × ((bytes_eq t x || among t xs) ≡ true) × (cond (bytes_eq t x) 0 (suc (number_of t xs)) ≡ i)
    go true f z ih = let k : 0 ≡ i = cc in subst (λ (j : ℕ). (j < suc (length xs)) × (get_or (x ∷ xs) j [] ≡ t) × ((bytes_eq t x || among t xs) ≡ true) × (cond (bytes_eq t x) 0 (suc (number_of t xs)) ≡ j)) k
        (omega arith, sym (same_is t x f), rw f refl, rw f refl)
    go false f z ih = by (place_of t xs) refl z
      where
        by : (o : Option ℕ) → place_of t xs ≡ o → option_map suc o ≡ Some i → (i < suc (length xs)) × (get_or (x ∷ xs) i [] ≡ t) × ((bytes_eq t x || among t xs) ≡ true) × (cond (bytes_eq t x) 0 (suc (number_of t xs)) ≡ i)
        by None p q = absurd (let w : ◌≡◌ {A = ℕ} 0 1 = cc in omega arith)
        by (Some j) p q =
            let r = ih j p in let k : suc j ≡ i = cc in
            subst (λ (n : ℕ). (n < suc (length xs)) × (get_or (x ∷ xs) n [] ≡ t) × ((bytes_eq t x || among t xs) ≡ true) × (cond (bytes_eq t x) 0 (suc (number_of t xs)) ≡ n)) k
            (omega (arith, r.0), r.1, rw f r.2, rw f (ap suc r.3))

pub place_none : (t : Token) (xs : List Token) → place_of t xs ≡ None → (among t xs ≡ false) × (number_of t xs ≡ length xs)
place_none t [] e = (refl, refl)
place_none t (x ∷ xs) e = go (bytes_eq t x) refl e (place_none t xs)
  where
    go : (b : Bool) → bytes_eq t x ≡ b → cond b (Some 0) (option_map suc (place_of t xs)) ≡ None → (place_of t xs ≡ None → (among t xs ≡ false) × (number_of t xs ≡ length xs)) →
        ((bytes_eq t x || among t xs) ≡ false) × (cond (bytes_eq t x) 0 (suc (number_of t xs)) ≡ suc (length xs))
    go true f z ih = absurd (let w : ◌≡◌ {A = ℕ} 0 1 = cc in omega arith)
    go false f z ih = by (place_of t xs) refl z
      where
        by : (o : Option ℕ) → place_of t xs ≡ o → option_map suc o ≡ None → ((bytes_eq t x || among t xs) ≡ false) × (cond (bytes_eq t x) 0 (suc (number_of t xs)) ≡ suc (length xs))
        by None p q = let r = ih p in (rw f r.0, rw f (ap suc r.1))
        by (Some j) p q = absurd (let w : ◌≡◌ {A = ℕ} 0 1 = cc in omega arith)

-- lists of names that grow
pub among_push : (t : Token) (xs : List Token) (x : Token) → among t (xs ++ x ∷ []) ≡ (among t xs || bytes_eq t x)
among_push t [] x = go (bytes_eq t x)
  where
    go : (b : Bool) → (b || false) ≡ b
    go true = refl
    go false = refl
among_push t (y ∷ xs) x = go (bytes_eq t y) (among_push t xs x)
  where
    go : (b : Bool) → among t (xs ++ x ∷ []) ≡ (among t xs || bytes_eq t x) → (b || among t (xs ++ x ∷ [])) ≡ ((b || among t xs) || bytes_eq t x)
    go true e = refl
    go false e = e

pub number_push : (t : Token) (xs : List Token) (x : Token) → among t xs ≡ true → number_of t (xs ++ x ∷ []) ≡ number_of t xs
number_push t [] x e = absurd (both_ways _ refl e)
number_push t (y ∷ xs) x e = go (bytes_eq t y) e (number_push t xs x)
  where
    go : (b : Bool) → (b || among t xs) ≡ true → (among t xs ≡ true → number_of t (xs ++ x ∷ []) ≡ number_of t xs) → cond b 0 (suc (number_of t (xs ++ x ∷ []))) ≡ cond b 0 (suc (number_of t xs))
    go true f ih = refl
    go false f ih = ap suc (ih f)

number_new : (t : Token) (xs : List Token) → among t xs ≡ false → number_of t (xs ++ t ∷ []) ≡ length xs
number_new t [] e = rw (same_self t) refl
number_new t (y ∷ xs) e = go (bytes_eq t y) e (number_new t xs)
  where
    go : (b : Bool) → (b || among t xs) ≡ false → (among t xs ≡ false → number_of t (xs ++ t ∷ []) ≡ length xs) → cond b 0 (suc (number_of t (xs ++ t ∷ []))) ≡ suc (length xs)
    go true f ih = absurd (both_ways _ f refl)
    go false f ih = ap suc (ih f)

pub number_fresh : (t : Token) (xs : List Token) → among t xs ≡ false → number_of t xs ≡ length xs
number_fresh t [] e = refl
number_fresh t (y ∷ xs) e = go (bytes_eq t y) e (number_fresh t xs)
  where
    go : (b : Bool) → (b || among t xs) ≡ false → (among t xs ≡ false → number_of t xs ≡ length xs) → cond b 0 (suc (number_of t xs)) ≡ suc (length xs)
    go true f ih = absurd (both_ways _ f refl)
    go false f ih = ap suc (ih f)

pub number_below : (t : Token) (xs : List Token) → among t xs ≡ true → number_of t xs < length xs
number_below t [] e = absurd (both_ways _ refl e)
number_below t (y ∷ xs) e = go (bytes_eq t y) e (number_below t xs)
  where
    go : (b : Bool) → (b || among t xs) ≡ true → (among t xs ≡ true → number_of t xs < length xs) → cond b 0 (suc (number_of t xs)) < suc (length xs)
    go true f ih = omega arith
    go false f ih = let z = ih f in omega arith

-- a name keeps its number when another is added, and has the same before and after it is added itself
pub number_kept : (t : Token) (xs : List Token) (x : Token) → among t xs ≡ true → number_of t (with_name xs x) ≡ number_of t xs
number_kept t xs x e = go (among x xs)
  where
    go : (b : Bool) → number_of t (cond b xs (xs ++ x ∷ [])) ≡ number_of t xs
    go true = refl
    go false = number_push t xs x e

pub number_added : (t : Token) (xs : List Token) → number_of t (with_name xs t) ≡ number_of t xs
number_added t xs = go (cases_Bool (among t xs))
  where
    go : (among t xs ≡ true) ⊎ (among t xs ≡ false) → number_of t (with_name xs t) ≡ number_of t xs
    go (inl e) = rw e refl
    go (inr e) = rw e (number_new t xs e ∙ sym (number_fresh t xs e))

pub among_added : (t : Token) (xs : List Token) → among t (with_name xs t) ≡ true
among_added t xs = go (cases_Bool (among t xs))
  where
    go : (among t xs ≡ true) ⊎ (among t xs ≡ false) → among t (with_name xs t) ≡ true
    go (inl e) = rw e e
    go (inr e) = rw e (among_push t xs t ∙ rw (e, same_self t) refl)

pub among_kept : (t : Token) (xs : List Token) (x : Token) → among t xs ≡ true → among t (with_name xs x) ≡ true
among_kept t xs x e = go (among x xs)
  where
    go : (b : Bool) → among t (cond b xs (xs ++ x ∷ [])) ≡ true
    go true = e
    go false = among_push t xs x ∙ rw e refl

pub seen_push : (seen ks : List Token) (k : Token) → first_seen seen (ks ++ k ∷ []) ≡ with_name (first_seen seen ks) k
seen_push seen [] k = refl
seen_push seen (x ∷ ks) k = seen_push (with_name seen x) ks k

seen_kept : (t : Token) (seen ks : List Token) → among t seen ≡ true → among t (first_seen seen ks) ≡ true
seen_kept t seen [] e = e
seen_kept t seen (k ∷ ks) e = seen_kept t (with_name seen k) ks (among_kept t seen k e)

pub seen_all : (seen ks : List Token) → AllAmong ks (first_seen seen ks)
seen_all seen [] = tt
seen_all seen (k ∷ ks) = (seen_kept k (with_name seen k) ks (among_added k seen), seen_all (with_name seen k) ks)

pub all_among_0 : (xs ys zs : List Token) → AllAmong (xs ++ ys) zs → AllAmong xs zs
all_among_0 [] ys zs a = tt
all_among_0 (x ∷ xs) ys zs a = (a.0, all_among_0 xs ys zs a.1)

pub all_among_1 : (xs ys zs : List Token) → AllAmong (xs ++ ys) zs → AllAmong ys zs
all_among_1 [] ys zs a = a
all_among_1 (x ∷ xs) ys zs a = all_among_1 xs ys zs a.1

pub numbers_push : (names ts : List Token) (t : Token) → numbers names (ts ++ t ∷ []) ≡ numbers names ts ++ number_of t names ∷ []
numbers_push names [] t = refl
numbers_push names (x ∷ ts) t = ap (λ (l : List ℕ). number_of x names ∷ l) (numbers_push names ts t)

pub numbers_kept : (names ts : List Token) (x : Token) → AllAmong ts names → numbers (with_name names x) ts ≡ numbers names ts
numbers_kept names [] x a = refl
numbers_kept names (t ∷ ts) x a = let e = number_kept t names x a.0 in let f = numbers_kept names ts x a.1 in cc

pub all_among_kept : (ts xs : List Token) (x : Token) → AllAmong ts xs → AllAmong ts (with_name xs x)
all_among_kept [] xs x a = tt
all_among_kept (t ∷ ts) xs x a = (among_kept t xs x a.0, all_among_kept ts xs x a.1)

pub all_among_push : (ts xs : List Token) (t : Token) → AllAmong ts xs → among t xs ≡ true → AllAmong (ts ++ t ∷ []) xs
all_among_push [] xs t a e = (e, tt)
all_among_push (y ∷ ts) xs t a e = (a.0, all_among_push ts xs t a.1 e)

pub length_added : (xs : List Token) (x : Token) → length xs ≤ length (with_name xs x)
length_added xs x = go (among x xs)
  where
    go : (b : Bool) → length xs ≤ length (cond b xs (xs ++ x ∷ []))
    go true = omega arith
    go false = let z = length_push xs x in omega arith

pub among_append : (t : Token) (xs ys : List Token) → among t (xs ++ ys) ≡ (among t xs || among t ys)
among_append t [] ys = refl
among_append t (x ∷ xs) ys = go (bytes_eq t x) (among_append t xs ys)
  where
    go : (b : Bool) → among t (xs ++ ys) ≡ (among t xs || among t ys) → (b || among t (xs ++ ys)) ≡ ((b || among t xs) || among t ys)
    go true e = refl
    go false e = e

-- a name that is there shares its number with no other
pub number_differs : (t v : Token) (xs : List Token) → among t xs ≡ true → bytes_eq v t ≡ false → number_of v xs ≡ number_of t xs → ⊥
number_differs t v [] a d e = both_ways _ refl a
number_differs t v (x ∷ xs) a d e = go (bytes_eq t x) (bytes_eq v x) refl refl a e (number_differs t v xs)
  where
    go : (b c : Bool) → bytes_eq t x ≡ b → bytes_eq v x ≡ c → (b || among t xs) ≡ true → cond c 0 (suc (number_of v xs)) ≡ cond b 0 (suc (number_of t xs)) →
        (among t xs ≡ true → bytes_eq v t ≡ false → number_of v xs ≡ number_of t xs → ⊥) → ⊥
    go true true i j k z ih = both_ways _ d (subst (λ (y : Token). bytes_eq v y ≡ true) (sym (same_is t x i)) j)
    go true false i j k z ih = omega arith
    go false true i j k z ih = omega arith
    go false false i j k z ih = ih k d (omega arith)

pub not_among_added : (v t : Token) (xs : List Token) → among v xs ≡ false → bytes_eq v t ≡ false → among v (with_name xs t) ≡ false
not_among_added v t xs e f = go (among t xs)
  where
    go : (b : Bool) → among v (cond b xs (xs ++ t ∷ [])) ≡ false
    go true = e
    go false = among_push v xs t ∙ rw (e, f) refl

pub numbers_length : (names ts : List Token) → length (numbers names ts) ≡ length ts
numbers_length names [] = refl
numbers_length names (t ∷ ts) = ap suc (numbers_length names ts)

pub numbers_at : (names ts : List Token) (i : ℕ) → i < length ts → get_or (numbers names ts) i 0 ≡ number_of (get_or ts i []) names
numbers_at names [] i h = absurd (omega arith)
numbers_at names (t ∷ ts) zero h = refl
numbers_at names (t ∷ ts) (suc i) h = numbers_at names ts i (omega arith)
