-- The place of a token by its number.
use Rattle.std.proofs.Common.{◌≡◌, ℕ, Bool, true, false, cond, not, List, [], ◌∷◌, ◌++◌, map, length, get_or, Some, None, Option, refl, ap, ◌∙◌, arith}
use Rattle.std.specs.List.{slice_get, filter}
use Rattle.std.specs.Option.{option_map, unwrap_or}
use Rattle.std.proofs.lemmas.Option.{unwrap_or-slice_get}
use Rattle.lexing.specs.Tokens.{Token, tokens, Placed, placed, sieved, words, is_blank_token}
use Rattle.query.specs.Ends.{places, tokens_of}

-- the tokens that are not passed over are those that the library's filter leaves
pub filter-sieved : (skips : Token → Bool) (ts : List Placed) → filter (λ t. not (skips t.token)) ts ≡ sieved skips ts
filter-sieved skips [] = refl
filter-sieved skips (t ∷ ts) = go (skips t.token) (filter-sieved skips ts)
  where
    go : (b : Bool) → filter (λ x. not (skips x.token)) ts ≡ sieved skips ts → cond (not b) (t ∷ filter (λ x. not (skips x.token)) ts) (filter (λ x. not (skips x.token)) ts) ≡ cond b (sieved skips ts) (t ∷ sieved skips ts)
    go true e = e
    go false e = ap (λ (l : List Placed). t ∷ l) e

-- what is found at a number is the place of that token
pub place_found : (text : List ℕ) (number : ℕ) (found : Option ℕ) → option_map (λ (k : ℕ). k) found ≡ slice_get (map (λ (t : Placed). t.place) (filter (λ t. not (is_blank_token t.token)) (placed 0 (tokens text)))) number →
    unwrap_or found 0 ≡ get_or (places (tokens_of text)) number 0
place_found text number found e =
    same found ∙ ap (λ (o : Option ℕ). unwrap_or o 0) e ∙ unwrap_or-slice_get (map (λ (t : Placed). t.place) (filter (λ t. not (is_blank_token t.token)) (placed 0 (tokens text)))) number 0
    ∙ ap (λ (ts : List Placed). get_or (places ts) number 0) (filter-sieved is_blank_token (placed 0 (tokens text)))
  where
    same : (o : Option ℕ) → unwrap_or o 0 ≡ unwrap_or (option_map (λ (k : ℕ). k) o) 0
    same None = refl
    same (Some k) = refl

-- a split of the words splits the tokens
pub record Split (ps : List Placed) (xs : List Token) (x : Token) : Type 0 where
  pub front : List Placed
  pub token : Placed
  pub rest : List Placed
  pub stands : ps ≡ front ++ token ∷ rest
  pub before : words front ≡ xs
  pub is : token.token ≡ x
  pub at : get_or (places ps) (length xs) 0 ≡ token.place

pub splits : (ps : List Placed) (xs : List Token) (x : Token) (ys : List Token) → words ps ≡ xs ++ x ∷ ys → Split ps xs x
splits [] [] x ys e = absurd (let z = ap length e in omega arith)
splits [] (y ∷ xs) x ys e = absurd (let z = ap length e in omega arith)
splits (p ∷ ps) [] x ys e = record { front = []; token = p; rest = ps; stands = refl; before = refl; is = cc; at = refl }
splits (p ∷ ps) (y ∷ xs) x ys e =
    let tail : words ps ≡ xs ++ x ∷ ys = cc in
    let s = splits ps xs x ys tail in
    let head : p.token ≡ y = cc in
    record {
      front = p ∷ s.front;
      token = s.token;
      rest = s.rest;
      stands = ap (λ (l : List Placed). p ∷ l) s.stands;
      before = rw (head, s.before) refl;
      is = s.is;
      at = s.at;
    }
