-- Lists that grow as a query is read: variables, kinds, terms and literals.
use Rattle.std.proofs.Common.{◌≡◌, ℕ, suc, ◌+◌, ◌<◌, ◌≤◌, Bool, true, false, cond, ◌&&◌, ◌||◌, eqb, ltb, ◌≢◌, ◌⊎◌, List, [], ◌∷◌, ◌++◌, map, length, get_or, set, is_some, Some, None, Option, sym, refl, ap, ◌∙◌, subst, inl, inr, append_assoc, append-nil, zero-add, arith, ltb-true, lt-ltb, eq-eqb}
use Rattle.std.specs.Option.{option_or}
use Rattle.std.specs.Str.{bytes_eq}
use Rattle.std.proofs.lemmas.List.{get_or-set_same, get_or-set_other, length-map}
use Rattle.std.proofs.lemmas.Bool.{both_ways, cases_Bool, and_parts}
use Rattle.lexing.specs.Tokens.{Token}
use Rattle.lexing.specs.Names.{among, number_of, with_name, first_seen, AllAmong}
use Rattle.lexing.proofs.Naming.{same_is, seen_push, seen_all, all_among_0, all_among_1, among_append, number_kept, number_added, number_fresh, number_differs, number_below, not_among_added, length_added}
use Rattle.catalogue.specs.Records.{Described}
use Rattle.catalogue.specs.Plain.{PlainColumns, no_columns}
use Rattle.query.specs.Terms.{is_variable}
use Rattle.query.specs.Noted.{noted}
use Rattle.query.specs.Plain.{Term, constant, variable, Literal, is_variable_of, occurs_in, occurs, below, all_below, fitting, all_fitting}
use Rattle.query.specs.Records.{term_of, literal_of}
use Rattle.query.specs.Rules.{Atom, items, items_in, variables_of, known, kinds_at, kind_among, kind_in, kind_of}

variables_append : (xs ys : List Token) → variables_of (xs ++ ys) ≡ variables_of xs ++ variables_of ys
variables_append [] ys = refl
variables_append (x ∷ xs) ys = go (is_variable x) (variables_append xs ys)
  where
    go : (b : Bool) → variables_of (xs ++ ys) ≡ variables_of xs ++ variables_of ys → cond b (x ∷ variables_of (xs ++ ys)) (variables_of (xs ++ ys)) ≡ cond b (x ∷ variables_of xs) (variables_of xs) ++ variables_of ys
    go true e = ap (λ (l : List Token). x ∷ l) e
    go false e = e

items_in_push : (us : List Atom) (a : Atom) → items_in (us ++ a ∷ []) ≡ items_in us ++ items a
items_in_push [] a = append-nil (items a)
items_in_push (u ∷ us) a = ap (λ (l : List Token). items u ++ l) (items_in_push us a) ∙ sym (append_assoc (items u) (items_in us) (items a))

one_more : (us : List Atom) (ts : List Token) (t : Token) → variables_of (items_in us ++ (ts ++ t ∷ [])) ≡ variables_of (items_in us ++ ts) ++ variables_of (t ∷ [])
one_more us ts t = ap variables_of (sym (append_assoc (items_in us) ts (t ∷ []))) ∙ variables_append (items_in us ++ ts) (t ∷ [])

pub known_variable : (us : List Atom) (ts : List Token) (t : Token) → is_variable t ≡ true → known us (ts ++ t ∷ []) ≡ with_name (known us ts) t
known_variable us ts t e =
    let v : variables_of (t ∷ []) ≡ t ∷ [] = rw e refl in
    ap (first_seen []) (one_more us ts t ∙ ap (λ (l : List Token). variables_of (items_in us ++ ts) ++ l) v) ∙ seen_push [] (variables_of (items_in us ++ ts)) t

pub known_other : (us : List Atom) (ts : List Token) (t : Token) → is_variable t ≡ false → known us (ts ++ t ∷ []) ≡ known us ts
known_other us ts t e =
    let v : variables_of (t ∷ []) ≡ [] = rw e refl in
    ap (first_seen []) (one_more us ts t ∙ ap (λ (l : List Token). variables_of (items_in us ++ ts) ++ l) v ∙ append-nil (variables_of (items_in us ++ ts)))

pub known_closed : (us : List Atom) (a : Atom) → known us (items a) ≡ known (us ++ a ∷ []) []
known_closed us a = ap (λ (l : List Token). first_seen [] (variables_of l)) (sym (append-nil (items_in (us ++ a ∷ [])) ∙ items_in_push us a))

-- all variables that were read are known
pub all_known : (us : List Atom) (ts : List Token) → AllAmong (variables_of (items_in us)) (known us ts) × AllAmong (variables_of ts) (known us ts)
all_known us ts =
    let a : AllAmong (variables_of (items_in us) ++ variables_of ts) (known us ts) = subst (λ (l : List Token). AllAmong l (known us ts)) (variables_append (items_in us) ts) (seen_all [] (variables_of (items_in us ++ ts))) in
    (all_among_0 (variables_of (items_in us)) (variables_of ts) (known us ts) a, all_among_1 (variables_of (items_in us)) (variables_of ts) (known us ts) a)

pub literals_known : (h : Atom) (ls : List Atom) (vs : List Token) → AllAmong (variables_of (items_in (h ∷ ls))) vs → AllAmong (variables_of (items_in ls)) vs
literals_known h ls vs a = all_among_1 (variables_of (items h)) (variables_of (items_in ls)) vs (subst (λ (l : List Token). AllAmong l vs) (variables_append (items h) (items_in ls)) a)

-- numbers stay as variables are added
term_kept : (vs : List Token) (x t : Token) → (is_variable t ≡ true → among t vs ≡ true) → term_of (with_name vs x) t ≡ term_of vs t
term_kept vs x t a = go (is_variable t) refl
  where
    go : (b : Bool) → is_variable t ≡ b → term_of (with_name vs x) t ≡ term_of vs t
    go true e = rw e (ap variable (number_kept t vs x (a e)))
    go false e = rw e refl

-- what is known of a list of items holds of its first and of its others
first_known : (t : Token) (ts vs : List Token) → AllAmong (variables_of (t ∷ ts)) vs → is_variable t ≡ true → among t vs ≡ true
first_known t ts vs a e = (subst (λ (b : Bool). AllAmong (cond b (t ∷ variables_of ts) (variables_of ts)) vs) e a).0

others_known : (t : Token) (ts vs : List Token) → AllAmong (variables_of (t ∷ ts)) vs → AllAmong (variables_of ts) vs
others_known t ts vs a = go (is_variable t) a
  where
    go : (b : Bool) → AllAmong (cond b (t ∷ variables_of ts) (variables_of ts)) vs → AllAmong (variables_of ts) vs
    go true x = x.1
    go false x = x

pub terms_kept : (vs : List Token) (x : Token) (ts : List Token) → AllAmong (variables_of ts) vs → map (term_of (with_name vs x)) ts ≡ map (term_of vs) ts
terms_kept vs x [] a = refl
terms_kept vs x (t ∷ ts) a = let e = term_kept vs x t (first_known t ts vs a) in let f = terms_kept vs x ts (others_known t ts vs a) in cc

pub literals_kept : (cat : Described) (vs : List Token) (x : Token) (ls : List Atom) → AllAmong (variables_of (items_in ls)) vs → map (literal_of cat (with_name vs x)) ls ≡ map (literal_of cat vs) ls
literals_kept cat vs x [] a = refl
literals_kept cat vs x (l ∷ ls) a =
    let b = subst (λ (y : List Token). AllAmong y vs) (variables_append (items l) (items_in ls)) a in
    let e = terms_kept vs x (items l) (all_among_0 (variables_of (items l)) (variables_of (items_in ls)) vs b) in
    let f = literals_kept cat vs x ls (all_among_1 (variables_of (items l)) (variables_of (items_in ls)) vs b) in
    rw (e, f) refl

-- fitting literals stay fitting
below_kept : (m n : ℕ) (t : Term) → m ≤ n → below m t ≡ true → below n t ≡ true
below_kept m n (constant v) h e = refl
below_kept m n (variable i) h e = lt-ltb i n (let z = ltb-true i m e in omega arith)

all_below_kept : (m n : ℕ) (ts : List Term) → m ≤ n → all_below m ts ≡ true → all_below n ts ≡ true
all_below_kept m n [] h e = refl
all_below_kept m n (t ∷ ts) h e = rw (below_kept m n t h (and_parts (below m t) (all_below m ts) e).0) (all_below_kept m n ts h (and_parts (below m t) (all_below m ts) e).1)

abbrev shaped : List PlainColumns → Literal → Bool
shaped cols l = eqb (length l.terms) (length (get_or cols l.source no_columns).kinds)

fitting_kept : (cols : List PlainColumns) (m n : ℕ) (l : Literal) → m ≤ n → fitting cols m l ≡ true → fitting cols n l ≡ true
fitting_kept cols m n l h e =
    let a = (and_parts (ltb l.source (length cols)) (shaped cols l && all_below m l.terms) e).0 in
    let b = (and_parts (ltb l.source (length cols)) (shaped cols l && all_below m l.terms) e).1 in
    rw (a, (and_parts (shaped cols l) (all_below m l.terms) b).0) (all_below_kept m n l.terms h (and_parts (shaped cols l) (all_below m l.terms) b).1)

pub all_fitting_kept : (cols : List PlainColumns) (m n : ℕ) (ls : List Literal) → m ≤ n → all_fitting cols m ls ≡ true → all_fitting cols n ls ≡ true
all_fitting_kept cols m n [] h e = refl
all_fitting_kept cols m n (l ∷ ls) h e = rw (fitting_kept cols m n l h (and_parts (fitting cols m l) (all_fitting cols m ls) e).0) (all_fitting_kept cols m n ls h (and_parts (fitting cols m l) (all_fitting cols m ls) e).1)

pub all_fitting_push : (cols : List PlainColumns) (n : ℕ) (ls : List Literal) (l : Literal) → all_fitting cols n ls ≡ true → fitting cols n l ≡ true → all_fitting cols n (ls ++ l ∷ []) ≡ true
all_fitting_push cols n [] l e f = rw f refl
all_fitting_push cols n (x ∷ ls) l e f = rw (and_parts (fitting cols n x) (all_fitting cols n ls) e).0 (all_fitting_push cols n ls l (and_parts (fitting cols n x) (all_fitting cols n ls) e).1 f)

terms_below : (vs ts : List Token) → AllAmong (variables_of ts) vs → all_below (length vs) (map (term_of vs) ts) ≡ true
terms_below vs [] a = refl
terms_below vs (t ∷ ts) a = rw (one (is_variable t) refl) (terms_below vs ts (others_known t ts vs a))
  where
    one : (b : Bool) → is_variable t ≡ b → below (length vs) (term_of vs t) ≡ true
    one true e = rw e (lt-ltb (number_of t vs) (length vs) (number_below t vs (first_known t ts vs a e)))
    one false e = rw e refl

pub literal_fits : (cat : Described) (vs : List Token) (a : Atom) → length cat.names ≡ length cat.columns → among a.name cat.names ≡ true → length (items a) ≡ length (kinds_at cat a.name) → AllAmong (variables_of (items a)) vs →
    fitting cat.columns (length vs) (literal_of cat vs a) ≡ true
literal_fits cat vs a paired there many all =
    rw (
      lt-ltb (number_of a.name cat.names) (length cat.columns) (let z = number_below a.name cat.names there in omega arith),
      eq-eqb (length (map (term_of vs) (items a))) (length (kinds_at cat a.name)) (length-map (items a) (term_of vs) ∙ many),
    ) (terms_below vs (items a) all)

-- kinds
pub option_or-None : (o : Option ℕ) → option_or o None ≡ o
option_or-None None = refl
option_or-None (Some k) = refl

option_or_assoc : (a b c : Option ℕ) → option_or (option_or a b) c ≡ option_or a (option_or b c)
option_or_assoc None b c = refl
option_or_assoc (Some k) b c = refl

kind_among_push : (v : Token) (ks : List ℕ) (i : ℕ) (ts : List Token) (t : Token) → kind_among v ks i (ts ++ t ∷ []) ≡ option_or (kind_among v ks i ts) (cond (bytes_eq v t) (Some (get_or ks (i + length ts) 0)) None)
kind_among_push v ks i [] t = let e : i + 0 ≡ i = omega arith in rw e refl
kind_among_push v ks i (x ∷ ts) t = go (bytes_eq v x) (kind_among_push v ks (suc i) ts t)
  where
    go : (b : Bool) → kind_among v ks (suc i) (ts ++ t ∷ []) ≡ option_or (kind_among v ks (suc i) ts) (cond (bytes_eq v t) (Some (get_or ks (suc i + length ts) 0)) None) →
        cond b (Some (get_or ks i 0)) (kind_among v ks (suc i) (ts ++ t ∷ [])) ≡ option_or (cond b (Some (get_or ks i 0)) (kind_among v ks (suc i) ts)) (cond (bytes_eq v t) (Some (get_or ks (i + suc (length ts)) 0)) None)
    go true e = refl
    go false e = e ∙ ap (λ (n : ℕ). option_or (kind_among v ks (suc i) ts) (cond (bytes_eq v t) (Some (get_or ks n 0)) None)) (let z : suc i + length ts ≡ i + suc (length ts) = omega arith in z)

pub kind_of_push : (cat : Described) (v : Token) (ls : List Atom) (n : Token) (ts : List Token) (t : Token) →
    kind_of cat v ls n (ts ++ t ∷ []) ≡ option_or (kind_of cat v ls n ts) (cond (bytes_eq v t) (Some (get_or (kinds_at cat n) (length ts) 0)) None)
kind_of_push cat v ls n ts t =
    ap (option_or (kind_in cat v ls)) (kind_among_push v (kinds_at cat n) 0 ts t ∙ ap (λ (m : ℕ). option_or (kind_among v (kinds_at cat n) 0 ts) (cond (bytes_eq v t) (Some (get_or (kinds_at cat n) m 0)) None)) (zero-add (length ts)))
    ∙ sym (option_or_assoc (kind_in cat v ls) (kind_among v (kinds_at cat n) 0 ts) (cond (bytes_eq v t) (Some (get_or (kinds_at cat n) (length ts) 0)) None))

kind_in_push : (cat : Described) (v : Token) (ls : List Atom) (a : Atom) → kind_in cat v (ls ++ a ∷ []) ≡ option_or (kind_in cat v ls) (kind_among v (kinds_at cat a.name) 0 (items a))
kind_in_push cat v [] a = option_or-None (kind_among v (kinds_at cat a.name) 0 (items a))
kind_in_push cat v (l ∷ ls) a =
    ap (option_or (kind_among v (kinds_at cat l.name) 0 (items l))) (kind_in_push cat v ls a)
    ∙ sym (option_or_assoc (kind_among v (kinds_at cat l.name) 0 (items l)) (kind_in cat v ls) (kind_among v (kinds_at cat a.name) 0 (items a)))

pub kind_closed : (cat : Described) (v : Token) (ls : List Atom) (a : Atom) → kind_of cat v ls a.name (items a) ≡ kind_of cat v (ls ++ a ∷ []) [] []
kind_closed cat v ls a = sym (option_or-None (kind_in cat v (ls ++ a ∷ [])) ∙ kind_in_push cat v ls a)

pub kind_same : (cat : Described) (v : Token) (ls : List Atom) (n : Token) (ts : List Token) (t : Token) → is_variable v ≡ true → is_variable t ≡ false → kind_of cat v ls n (ts ++ t ∷ []) ≡ kind_of cat v ls n ts
kind_same cat v ls n ts t e f = kind_of_push cat v ls n ts t ∙ go (cases_Bool (bytes_eq v t))
  where
    go : (bytes_eq v t ≡ true) ⊎ (bytes_eq v t ≡ false) → option_or (kind_of cat v ls n ts) (cond (bytes_eq v t) (Some (get_or (kinds_at cat n) (length ts) 0)) None) ≡ kind_of cat v ls n ts
    go (inl s) = absurd (both_ways _ f (subst (λ (x : Token). is_variable x ≡ true) (same_is v t s) e))
    go (inr s) = rw s (option_or-None (kind_of cat v ls n ts))

-- the noted kinds of variables
abbrev pub KindsAre : List (Option ℕ) → List Token → (Token → Option ℕ) → Type 0
KindsAre cells vs kind = (v : Token) → is_variable v ≡ true → get_or cells (number_of v vs) None ≡ kind v

abbrev pub Unused : List (Option ℕ) → List Token → Type 0
Unused cells vs = (j : ℕ) → length vs ≤ j → get_or cells j None ≡ None

pub kinds_grown : (cells : List (Option ℕ)) (vs : List Token) (t : Token) (kind : Token → Option ℕ) → KindsAre cells vs kind → Unused cells vs → KindsAre cells (with_name vs t) kind
kinds_grown cells vs t kind k u v e = go (cases_Bool (among v vs)) (cases_Bool (bytes_eq v t))
  where
    go : (among v vs ≡ true) ⊎ (among v vs ≡ false) → (bytes_eq v t ≡ true) ⊎ (bytes_eq v t ≡ false) → get_or cells (number_of v (with_name vs t)) None ≡ kind v
    go (inl a) s = ap (λ (n : ℕ). get_or cells n None) (number_kept v vs t a) ∙ k v e
    go (inr a) (inl s) = ap (λ (n : ℕ). get_or cells n None) (ap (λ (x : Token). number_of v (with_name vs x)) (sym (same_is v t s)) ∙ number_added v vs) ∙ k v e
    go (inr a) (inr s) =
        ap (λ (n : ℕ). get_or cells n None) (number_fresh v (with_name vs t) (not_among_added v t vs a s)) ∙ u (length (with_name vs t)) (length_added vs t)
        ∙ sym (u (length vs) (omega arith)) ∙ ap (λ (n : ℕ). get_or cells n None) (sym (number_fresh v vs a)) ∙ k v e

pub unused_grown : (cells : List (Option ℕ)) (vs : List Token) (t : Token) → Unused cells vs → Unused cells (with_name vs t)
unused_grown cells vs t u j h = u j (let z = length_added vs t in omega arith)

pub kinds_noted : (cells : List (Option ℕ)) (vs : List Token) (t : Token) (k : ℕ) (kind : Token → Option ℕ) → number_of t vs < length cells → among t vs ≡ true → is_variable t ≡ true → KindsAre cells vs kind →
    KindsAre (noted cells (number_of t vs) k (get_or cells (number_of t vs) None)) vs (λ v. option_or (kind v) (cond (bytes_eq v t) (Some k) None))
kinds_noted cells vs t k kind room there form ks v e = go (cases_Bool (bytes_eq v t)) (get_or cells (number_of t vs) None) refl
  where
    i : ℕ
    i = number_of t vs

    go : (bytes_eq v t ≡ true) ⊎ (bytes_eq v t ≡ false) → (o : Option ℕ) → get_or cells (number_of t vs) None ≡ o → get_or (noted cells (number_of t vs) k o) (number_of v vs) None ≡ option_or (kind v) (cond (bytes_eq v t) (Some k) None)
    go (inl s) None g =
        let q : kind v ≡ None = ap kind (same_is v t s) ∙ sym (ks t form) ∙ g in
        rw (s, q) (ap (λ (x : Token). get_or (set cells (number_of t vs) (Some k)) (number_of x vs) None) (same_is v t s) ∙ get_or-set_same cells (number_of t vs) (Some k) None room)
    go (inl s) (Some j) g =
        let q : kind v ≡ Some j = ap kind (same_is v t s) ∙ sym (ks t form) ∙ g in
        rw (s, q) (ap (λ (x : Token). get_or cells (number_of x vs) None) (same_is v t s) ∙ g)
    go (inr s) None g =
        let d : number_of v vs ≢ number_of t vs = number_differs t v vs there s in
        rw s (get_or-set_other cells (number_of t vs) (number_of v vs) (Some k) None d ∙ ks v e ∙ sym (option_or-None (kind v)))
    go (inr s) (Some j) g = rw s (ks v e ∙ sym (option_or-None (kind v)))

pub unused_noted : (cells : List (Option ℕ)) (vs : List Token) (t : Token) (k : ℕ) → among t vs ≡ true → Unused cells vs → Unused (noted cells (number_of t vs) k (get_or cells (number_of t vs) None)) vs
unused_noted cells vs t k there u j h = go (get_or cells (number_of t vs) None)
  where
    go : (o : Option ℕ) → get_or (noted cells (number_of t vs) k o) j None ≡ None
    go None = let d : j ≢ number_of t vs = (λ z. let y = number_below t vs there in omega arith) in get_or-set_other cells (number_of t vs) j (Some k) None d ∙ u j h
    go (Some x) = u j h

-- a variable has a kind where it stands in a literal
some_or : (a b : Option ℕ) → is_some (option_or a b) ≡ (is_some a || is_some b)
some_or None b = refl
some_or (Some k) b = refl

kind_among_there : (v : Token) (ks : List ℕ) (i : ℕ) (ts : List Token) → is_some (kind_among v ks i ts) ≡ among v ts
kind_among_there v ks i [] = refl
kind_among_there v ks i (t ∷ ts) = go (bytes_eq v t) (kind_among_there v ks (suc i) ts)
  where
    go : (b : Bool) → is_some (kind_among v ks (suc i) ts) ≡ among v ts → is_some (cond b (Some (get_or ks i 0)) (kind_among v ks (suc i) ts)) ≡ (b || among v ts)
    go true e = refl
    go false e = e

pub kind_in_there : (cat : Described) (v : Token) (ls : List Atom) → is_some (kind_in cat v ls) ≡ among v (items_in ls)
kind_in_there cat v [] = refl
kind_in_there cat v (l ∷ ls) =
    some_or (kind_among v (kinds_at cat l.name) 0 (items l)) (kind_in cat v ls)
    ∙ rw (kind_among_there v (kinds_at cat l.name) 0 (items l), kind_in_there cat v ls) (sym (among_append v (items l) (items_in ls)))

-- a variable that stands in a literal occurs there by its number
occurs_term : (vs : List Token) (v : Token) (ts : List Token) → is_variable v ≡ true → among v ts ≡ true → occurs_in (number_of v vs) (map (term_of vs) ts) ≡ true
occurs_term vs v [] e a = absurd (both_ways _ refl a)
occurs_term vs v (t ∷ ts) e a = go (bytes_eq v t) refl a (occurs_term vs v ts e)
  where
    go : (b : Bool) → bytes_eq v t ≡ b → (b || among v ts) ≡ true → (among v ts ≡ true → occurs_in (number_of v vs) (map (term_of vs) ts) ≡ true) → (is_variable_of (number_of v vs) (term_of vs t) || occurs_in (number_of v vs) (map (term_of vs) ts)) ≡ true
    go true s f ih = let q = same_is v t s in let w : is_variable_of (number_of v vs) (term_of vs t) ≡ true = subst (λ (x : Token). is_variable_of (number_of v vs) (term_of vs x) ≡ true) q (rw e (eq-eqb (number_of v vs) (number_of v vs) refl)) in rw w refl
    go false s f ih = by (is_variable_of (number_of v vs) (term_of vs t)) (ih f)
      where
        by : (c : Bool) → occurs_in (number_of v vs) (map (term_of vs) ts) ≡ true → (c || occurs_in (number_of v vs) (map (term_of vs) ts)) ≡ true
        by true z = refl
        by false z = z

pub occurs_there : (cat : Described) (vs : List Token) (v : Token) (ls : List Atom) → is_variable v ≡ true → among v (items_in ls) ≡ true → occurs (number_of v vs) (map (literal_of cat vs) ls) ≡ true
occurs_there cat vs v [] e a = absurd (both_ways _ refl a)
occurs_there cat vs v (l ∷ ls) e a = go (among v (items l)) refl (sym (among_append v (items l) (items_in ls)) ∙ a) (occurs_there cat vs v ls e)
  where
    go : (b : Bool) → among v (items l) ≡ b → (among v (items l) || among v (items_in ls)) ≡ true → (among v (items_in ls) ≡ true → occurs (number_of v vs) (map (literal_of cat vs) ls) ≡ true) →
        (occurs_in (number_of v vs) (map (term_of vs) (items l)) || occurs (number_of v vs) (map (literal_of cat vs) ls)) ≡ true
    go true s f ih = rw (occurs_term vs v (items l) e s) refl
    go false s f ih = by (occurs_in (number_of v vs) (map (term_of vs) (items l))) (ih (subst (λ (b : Bool). (b || among v (items_in ls)) ≡ true) s f))
      where
        by : (c : Bool) → occurs (number_of v vs) (map (literal_of cat vs) ls) ≡ true → (c || occurs (number_of v vs) (map (literal_of cat vs) ls)) ≡ true
        by true z = refl
        by false z = z
