-- Rows in order.
use Rattle.std.proofs.Common.{◌≡◌, ℕ, ◌+◌, ◌-◌, ◌<◌, true, ◌&&◌, List, [], ◌∷◌, ◌++◌, length, take, sym, refl, ap, ◌∙◌, append_assoc, arith, Some, None}
use mathlib.Core.Bool.{and-true, and_assoc}
use Rattle.std.proofs.lemmas.Bool.{and_parts, and_from}
use Rattle.std.specs.List.{slice_get}
use Rattle.std.proofs.lemmas.List.{take_all, take_more, map_push}
use Rattle.std.proofs.lemmas.Option.{slice_get_within, slice_get-get_or, get_or_from_slice_get}
use Rattle.files.specs.Held.{cut}
use Rattle.source.specs.Rows.{before, leads, ascending}

-- rows ascend with one more if it comes after the last
leads_same : (x : List ℕ) (xs ys zs : List (List ℕ)) (l : List ℕ) → leads x (xs ++ l ∷ ys) ≡ leads x (xs ++ l ∷ zs)
leads_same x [] ys zs l = refl
leads_same x (y ∷ xs) ys zs l = refl

pub ascending_two : (xs : List (List ℕ)) (l r : List ℕ) → ascending (xs ++ l ∷ r ∷ []) ≡ (ascending (xs ++ l ∷ []) && before l r)
ascending_two [] l r = and-true (before l r)
ascending_two (x ∷ xs) l r =
    rw (ascending_two xs l r, leads_same x xs (r ∷ []) [] l) (sym (and_assoc (leads x (xs ++ l ∷ [])) (ascending (xs ++ l ∷ [])) (before l r)))

-- a row behind rows in cells, by the last of them
pub follows_last : (c : ℕ) (cells : List (List ℕ)) (last row : List ℕ) → Some last ≡ slice_get cells (length cells - 1) → ascending (cut c cells) ≡ true → ascending (cut c cells ++ row ∷ []) ≡ before (take c last) row
follows_last c cells last row e a =
    let i : ℕ = length cells - 1 in
    let inside : i < length cells = slice_get_within cells i last (sym e) in
    let all : cells ≡ take i cells ++ last ∷ [] = sym (take_all (i + 1) cells (omega arith)) ∙ take_more cells i last inside ∙ ap (λ (x : List ℕ). take i cells ++ x ∷ []) (get_or_from_slice_get cells i last last (sym e)) in
    let front : cut c cells ≡ cut c (take i cells) ++ take c last ∷ [] = ap (cut c) all ∙ map_push (take c) (take i cells) last in
    let b : ascending (cut c (take i cells) ++ take c last ∷ []) ≡ true = rw front at a in
    rw (front, append_assoc (cut c (take i cells)) (take c last ∷ []) (row ∷ []), ascending_two (cut c (take i cells)) (take c last) row, b) refl

pub follows_none : (c : ℕ) (cells : List (List ℕ)) (row : List ℕ) → None ≡ slice_get cells (length cells - 1) → true ≡ ascending (cut c cells ++ row ∷ [])
follows_none c [] row e = refl
follows_none c (x ∷ cells) row e = absurd (none_some (e ∙ slice_get-get_or (x ∷ cells) (length (x ∷ cells) - 1) [] (omega arith)))
  where
    none_some : {y : List ℕ} → None ≡ Some y → ⊥
    none_some p = cc

-- the first of ascending rows ascend
pub ascending_front : (xs ys : List (List ℕ)) → ascending (xs ++ ys) ≡ true → ascending xs ≡ true
ascending_front [] ys e = refl
ascending_front (x ∷ []) ys e = refl
ascending_front (x ∷ y ∷ xs) ys e =
    let p = and_parts (before x y) (ascending ((y ∷ xs) ++ ys)) e in
    and_from (before x y) (ascending (y ∷ xs)) p.0 (ascending_front (y ∷ xs) ys p.1)
