-- Tokens, one at a time.
use Rattle.std.proofs.Common.{◌≡◌, ℕ, suc, ◌+◌, ◌<◌, ◌≤◌, Bool, true, false, cond, ◌&&◌, ◌||◌, eqb, List, [], ◌∷◌, ◌++◌, length, get_or, take, drop, sym, refl, ap, ◌∙◌, subst, arith, take-append-drop, ne_eqb, eqb-true}
use Rattle.std.specs.List.{prefix_len}
use native.Mathlib.Nat.{sub-zero}
use Rattle.std.proofs.lemmas.List.Sums.{prefix_len-le-length}
use Rattle.std.proofs.lemmas.List.Folds.{length-prefix_len}
use Rattle.lexing.specs.Classes.{class, lettered, blank}
use Rattle.lexing.specs.Names.{all}
use Rattle.lexing.specs.Tokens.{Token, tokens, before, joins, is, Cut}
use Rattle.std.proofs.lemmas.Bool.{and_parts, both_ways}

-- the first token begins with the first byte
record Begun (x : ℕ) (xs : List ℕ) : Type 0 where
  more : List ℕ
  others : List Token
  cut : tokens (x ∷ xs) ≡ (x ∷ more) ∷ others

begun : (x : ℕ) (xs : List ℕ) → Begun x xs
unfolding tokens
begun x xs = go (tokens xs) refl
  where
    by : (t : Token) (ts : List Token) (b : Bool) → joins x t ≡ b → tokens xs ≡ t ∷ ts → Begun x xs
    by t ts true e f = record { more = t; others = ts; cut = rw f (rw e refl) }
    by t ts false e f = record { more = []; others = t ∷ ts; cut = rw f (rw e refl) }

    go : (ts : List Token) → tokens xs ≡ ts → Begun x xs
    go [] e = record { more = []; others = []; cut = rw e refl }
    go (t ∷ ts) e = by t ts (joins x t) refl e

-- no token is empty
abbrev pub Solid : List Token → Type 0
Solid [] = Unit {0}
Solid (t ∷ ts) = (1 ≤ length t) × Solid ts

solid_before : (b : ℕ) (ts : List Token) → Solid ts → Solid (before b ts)
solid_before b [] d = (omega arith, tt)
solid_before b (t ∷ ts) d = go (joins b t)
  where
    go : (c : Bool) → Solid (cond c ((b ∷ t) ∷ ts) ((b ∷ []) ∷ t ∷ ts))
    go true = (omega arith, d.1)
    go false = (omega arith, d)

pub solid_tokens : (bs : List ℕ) → Solid (tokens bs)
unfolding tokens
solid_tokens [] = tt
solid_tokens (b ∷ bs) = solid_before b (tokens bs) (solid_tokens bs)

-- how many bytes some tokens have
abbrev pub size : List Token → ℕ
size [] = 0
size (t ∷ ts) = length t + size ts

size_before : (b : ℕ) (ts : List Token) → size (before b ts) ≡ 1 + size ts
size_before b [] = refl
size_before b (t ∷ ts) = go (joins b t)
  where
    go : (c : Bool) → size (cond c ((b ∷ t) ∷ ts) ((b ∷ []) ∷ t ∷ ts)) ≡ 1 + size (t ∷ ts)
    go true = omega arith
    go false = omega arith

pub size_tokens : (bs : List ℕ) → size (tokens bs) ≡ length bs
unfolding tokens
size_tokens [] = refl
size_tokens (b ∷ bs) = let z = size_tokens bs in let y = size_before b (tokens bs) in omega arith

abbrev pub starts_lettered : List ℕ → Bool
starts_lettered [] = false
starts_lettered (x ∷ xs) = lettered x

colon_plain : (b : ℕ) → lettered b ≡ true → eqb b 58 ≡ false
unfolding class
colon_plain b e = ne_eqb b 58 (λ z. both_ways _ refl (subst (λ (n : ℕ). lettered n ≡ true) z e))

cut_alone : (b x : ℕ) (m : List ℕ) (ts os : List Token) → joins b (x ∷ m) ≡ false → ts ≡ (x ∷ m) ∷ os → before b ts ≡ (b ∷ []) ∷ ts
cut_alone b x m ts os j f = rw f (rw j refl)

alone : (b x : ℕ) (xs : List ℕ) → ((m : List ℕ) → joins b (x ∷ m) ≡ false) → before b (tokens (x ∷ xs)) ≡ (b ∷ []) ∷ tokens (x ∷ xs)
alone b x xs j = let g = begun x xs in cut_alone b x g.more (tokens (x ∷ xs)) g.others (j g.more) g.cut

pub one_word : (w rest : List ℕ) → 0 < length w → all lettered w ≡ true → starts_lettered rest ≡ false → tokens (w ++ rest) ≡ w ∷ tokens rest
unfolding tokens
one_word [] rest h a s = absurd (omega arith)
one_word (b ∷ []) [] h a s = refl
one_word (b ∷ []) (x ∷ xs) h a s = alone b x xs (λ m. rw (colon_plain b ((and_parts (lettered b) true a).0), s) (go (lettered b)))
  where
    go : (c : Bool) → ((c && false) || false) ≡ false
    go true = refl
    go false = refl
one_word (b ∷ c ∷ w) rest h a s =
    let e = one_word (c ∷ w) rest (omega arith) ((and_parts (lettered b) (lettered c && all lettered w) a).1) s in
    let l : lettered b ≡ true = (and_parts (lettered b) (lettered c && all lettered w) a).0 in
    let k : lettered c ≡ true = (and_parts (lettered c) (all lettered w) ((and_parts (lettered b) (lettered c && all lettered w) a).1)).0 in
    ap (before b) e ∙ rw (l, k) refl

pub one_arrow : (rest : List ℕ) → tokens (58 ∷ 45 ∷ rest) ≡ (58 ∷ 45 ∷ []) ∷ tokens rest
unfolding tokens class
one_arrow [] = refl
one_arrow (x ∷ xs) = ap (before 58) (alone 45 x xs (λ m. refl))

-- not `:-`
abbrev pub Plain : ℕ → List ℕ → Type 0
Plain b rest = b ≡ 58 → 0 < length rest → get_or rest 0 0 ≡ 45 → ⊥

pub one_byte : (b : ℕ) (rest : List ℕ) → lettered b ≡ false → Plain b rest → tokens (b ∷ rest) ≡ (b ∷ []) ∷ tokens rest
unfolding tokens
one_byte b [] l h = refl
one_byte b (x ∷ xs) l h = alone b x xs (λ m. rw l (go (eqb b 58) refl m))
  where
    go : (c : Bool) → eqb b 58 ≡ c → (m : List ℕ) → (c && is 45 (x ∷ m)) ≡ false
    go false e m = refl
    go true e [] = ne_eqb x 45 (h (eqb-true b 58 e) (omega arith))
    go true e (y ∷ m) = refl

-- the first token: a run of letters and digits, `:-`, or one byte
run_parts : (bs : List ℕ) → (all lettered (take (prefix_len lettered bs) bs) ≡ true) × (starts_lettered (drop (prefix_len lettered bs) bs) ≡ false)
run_parts [] = (refl, refl)
run_parts (x ∷ bs) = go (lettered x) refl (run_parts bs)
  where
    go : (c : Bool) → lettered x ≡ c → (all lettered (take (prefix_len lettered bs) bs) ≡ true) × (starts_lettered (drop (prefix_len lettered bs) bs) ≡ false) →
        (all lettered (take (cond c (1 + prefix_len lettered bs) 0) (x ∷ bs)) ≡ true) × (starts_lettered (drop (cond c (1 + prefix_len lettered bs) 0) (x ∷ bs)) ≡ false)
    go true e h = let n : 1 + prefix_len lettered bs ≡ suc (prefix_len lettered bs) = omega arith in rw n (rw e h.0, h.1)
    go false e h = (refl, e)

pub run_first : (bs : List ℕ) → 0 < length bs → lettered (get_or bs 0 0) ≡ true → Cut bs 0 (prefix_len lettered bs)
run_first [] h l = absurd (omega arith)
run_first (x ∷ bs) h l =
    let n = prefix_len lettered (x ∷ bs) in
    let r = run_parts (x ∷ bs) in
    let p : 0 < prefix_len lettered (x ∷ bs) = rw l (omega arith) in
    let m = prefix_len-le-length lettered (x ∷ bs) in
    let w : 0 < length (take n (x ∷ bs)) = rw (length-prefix_len lettered (x ∷ bs)) p in
    record { after = p; within = m; cut = rw (sub-zero n) (ap tokens (sym (take-append-drop n (x ∷ bs))) ∙ one_word (take n (x ∷ bs)) (drop n (x ∷ bs)) w r.0 r.1) }

pub arrow_first : (bs : List ℕ) → 1 < length bs → get_or bs 0 0 ≡ 58 → get_or bs 1 0 ≡ 45 → Cut bs 0 2
arrow_first (x ∷ y ∷ bs) h a b = record { after = omega arith; within = omega arith; cut = rw (a, b) (one_arrow bs) }
arrow_first (x ∷ []) h a b = absurd (omega arith)
arrow_first [] h a b = absurd (omega arith)

pub byte_first : (bs : List ℕ) → 0 < length bs → lettered (get_or bs 0 0) ≡ false → (get_or bs 0 0 ≡ 58 → 1 < length bs → get_or bs 1 0 ≡ 45 → ⊥) → Cut bs 0 1
byte_first [] h l f = absurd (omega arith)
byte_first (x ∷ bs) h l f = record { after = omega arith; within = omega arith; cut = one_byte x bs l (λ a b d. f a (omega arith) d) }

pub blank_first : (bs : List ℕ) → 0 < length bs → lettered (get_or bs 0 0) ≡ false → blank (get_or bs 0 0) ≡ true → Cut bs 0 1
unfolding class
blank_first bs h l e = byte_first bs h l (λ a b d. both_ways _ refl (subst (λ (n : ℕ). blank n ≡ true) a e))
