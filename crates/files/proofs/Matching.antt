-- Rows with the same inputs.
use Rattle.std.proofs.Common.{◌≡◌, ℕ, zero, suc, ◌+◌, ◌<◌, ◌≤◌, Bool, true, false, ◌&&◌, ◌||◌, cond, eqb, List, [], ◌∷◌, ◌++◌, length, get_or, take, drop, sym, refl, ap, ◌∙◌, subst, inl, inr, arith, length-append, take-append-drop}
use Rattle.std.proofs.lemmas.List.{take_more, take_all, take-map, get_or-map}
use Rattle.std.proofs.lemmas.List.Sums.{sum_by-cons}
use Rattle.std.specs.List.{zip, list_all, count_by}
use Rattle.std.proofs.lemmas.Bool.{cond-true, cond-false, cases_Bool}
use Rattle.source.specs.declared.mark.Mark.{Mark}
use Rattle.source.specs.declared.mark.Mark.TheVariants.{Given, Free}
use Rattle.source.specs.Rows.{same}
use Rattle.source.specs.Marks.{same_mark, picked, matches, matching}
use Rattle.files.specs.Held.{cut}
use Rattle.files.specs.Refusing.{earlier}
use Rattle.source.proofs.Rows.{same_eq, same_refl}
use Rattle.source.proofs.Matching.{matching_append}

-- two rows agree in a column, if it is given
abbrev pub agrees : Mark × (ℕ × ℕ) → Bool
agrees p = same_mark p.0 Free || eqb p.1.0 p.1.1

pub agrees_all : (ms : List Mark) (a b : List ℕ) → length ms ≤ length a → length ms ≤ length b → list_all agrees (zip ms (zip a b)) ≡ matches ms (picked ms b) a
agrees_all [] a b h k = refl
agrees_all (m ∷ ms) [] b h k = absurd (omega arith)
agrees_all (m ∷ ms) (x ∷ a) [] h k = absurd (omega arith)
agrees_all (Given ∷ ms) (x ∷ a) (y ∷ b) h k = ap (λ (t : Bool). eqb x y && t) (agrees_all ms a b (omega arith) (omega arith))
agrees_all (Free ∷ ms) (x ∷ a) (y ∷ b) h k = agrees_all ms a b (omega arith) (omega arith)

-- the cells behind the columns are no inputs
pub picked_take : (ms : List Mark) (row : List ℕ) → picked ms (take (length ms) row) ≡ picked ms row
picked_take [] row = refl
picked_take (Given ∷ ms) [] = refl
picked_take (Given ∷ ms) (v ∷ row) = ap (λ (t : List ℕ). v ∷ t) (picked_take ms row)
picked_take (Free ∷ ms) [] = refl
picked_take (Free ∷ ms) (v ∷ row) = picked_take ms row

-- how many match

long_cond : (b : Bool) (r : List ℕ) (rs : List (List ℕ)) → length (cond b (r ∷ rs) rs) ≡ cond b 1 0 + length rs
long_cond true r rs = omega arith
long_cond false r rs = omega arith

matching-++ : (ms : List Mark) (inputs : List ℕ) (xs ys : List (List ℕ)) → length (matching ms inputs (xs ++ ys)) ≡ length (matching ms inputs xs) + length (matching ms inputs ys)
matching-++ ms inputs xs ys = ap length (matching_append ms inputs xs ys) ∙ length-append (matching ms inputs xs) (matching ms inputs ys)

pub matching_push : (ms : List Mark) (inputs : List ℕ) (rows : List (List ℕ)) (r : List ℕ) → length (matching ms inputs (rows ++ r ∷ [])) ≡ length (matching ms inputs rows) + cond (matches ms inputs r) 1 0
matching_push ms inputs rows r = omega (arith, matching-++ ms inputs rows (r ∷ []), long_cond (matches ms inputs r) r [])

pub matching_front : (ms : List Mark) (inputs : List ℕ) (rows : List (List ℕ)) (k : ℕ) → length (matching ms inputs (take k rows)) ≤ length (matching ms inputs rows)
matching_front ms inputs rows k =
    let e : length (matching ms inputs (take k rows ++ drop k rows)) ≡ length (matching ms inputs rows) = ap (λ (x : List (List ℕ)). length (matching ms inputs x)) (take-append-drop k rows) in
    omega (arith, matching-++ ms inputs (take k rows) (drop k rows))

-- so many rows in cells match
pub count_matching : (ms : List Mark) (inputs : List ℕ) (cells : List (List ℕ)) → count_by (matches ms inputs) cells ≡ length (matching ms inputs (cut (length ms) cells))
count_matching ms inputs [] = refl
count_matching ms inputs (r ∷ cells) =
    let m : matches ms inputs (take (length ms) r) ≡ matches ms inputs r = ap (λ (x : List ℕ). same x inputs) (picked_take ms r) in
    sum_by-cons (λ (x : List ℕ). cond (matches ms inputs x) 1 0) r cells ∙ rw (count_matching ms inputs cells, ← m) (sym (long_cond (matches ms inputs (take (length ms) r)) (take (length ms) r) (matching ms inputs (cut (length ms) cells))))

-- the rows before a row with its inputs
pub earlier_at : (ms : List Mark) (i : ℕ) (cells : List (List ℕ)) (d : List ℕ) → i < length cells → length (earlier ms (cut (length ms) cells) i) ≡ length (matching ms (picked ms (get_or cells i d)) (cut (length ms) (take i cells)))
earlier_at ms i cells d h = rw (get_or-map (take (length ms)) cells i d [] h, take-map (take (length ms)) i cells, picked_take ms (get_or cells i d)) refl

-- the same, by a count over the rows in cells
pub earlier_counted : (ms : List Mark) (i n : ℕ) (cells items front : List (List ℕ)) → items ≡ cells → front ≡ cells → i < length items → n ≡ length (matching ms (picked ms (get_or items i [])) (cut (length ms) (take i front))) → n ≡ length (earlier ms (cut (length ms) cells) i)
earlier_counted ms i n cells items front e f h c = c ∙ rw (e, f) (sym (earlier_at ms i cells [] (subst (λ (x : List (List ℕ)). i < length x) e h)))

-- if no row has 64 earlier ones with its inputs, at most 64 rows match any inputs
module _ (ms : List Mark) (rows : List (List ℕ)) (uncrowded : (j : ℕ) → j < length rows → length (earlier ms rows j) < 64) (inputs : List ℕ) where
  few_push : (j : ℕ) → j < length rows → length (matching ms inputs (take j rows)) ≤ 64 → length (matching ms inputs (take (j + 1) rows)) ≤ 64
  few_push j h few =
      let r : List ℕ = get_or rows j [] in
      let e : length (matching ms inputs (take (j + 1) rows)) ≡ length (matching ms inputs (take j rows)) + cond (matches ms inputs r) 1 0 = ap (λ (x : List (List ℕ)). length (matching ms inputs x)) (take_more rows j [] h) ∙ matching_push ms inputs (take j rows) r in
      elim (cases_Bool (matches ms inputs r)) [
        | inl t ↦ (let p : picked ms r ≡ inputs = same_eq (picked ms r) inputs t in
            let u : length (matching ms inputs (take j rows)) < 64 = subst (λ (x : List ℕ). length (matching ms x (take j rows)) < 64) p (uncrowded j h) in
            let c : ◌≡◌ {A = ℕ} (cond (matches ms inputs r) 1 0) 1 = cond-true (matches ms inputs r) 1 0 t in
            omega arith)
        | inr t ↦ (let c : ◌≡◌ {A = ℕ} (cond (matches ms inputs r) 1 0) 0 = cond-false (matches ms inputs r) 1 0 t in
            omega arith)
      ]

  few_front : (j : ℕ) → j ≤ length rows → length (matching ms inputs (take j rows)) ≤ 64
  few_front zero h = omega arith
  few_front (suc j) h =
      let s : j + 1 ≡ suc j = omega arith in
      rw s at (few_push j (omega arith) (few_front j (omega arith)))

  pub few_match : length (matching ms inputs rows) ≤ 64
  few_match = subst (λ (x : List (List ℕ)). length (matching ms inputs x) ≤ 64) (take_all (length rows) rows (omega arith)) (few_front (length rows) (omega arith))

-- a row with 64 earlier ones: more than 64 match its inputs
pub crowd_matches : (ms : List Mark) (rows : List (List ℕ)) (i : ℕ) → i < length rows → 64 ≤ length (earlier ms rows i) → 64 < length (matching ms (picked ms (get_or rows i [])) rows)
crowd_matches ms rows i h m =
    let inputs : List ℕ = picked ms (get_or rows i []) in
    let e : length (matching ms inputs (take (i + 1) rows)) ≡ length (matching ms inputs (take i rows)) + cond (matches ms inputs (get_or rows i [])) 1 0 = ap (λ (x : List (List ℕ)). length (matching ms inputs x)) (take_more rows i [] h) ∙ matching_push ms inputs (take i rows) (get_or rows i []) in
    let c : ◌≡◌ {A = ℕ} (cond (matches ms inputs (get_or rows i [])) 1 0) 1 = cond-true (matches ms inputs (get_or rows i [])) 1 0 (same_refl inputs) in
    omega (arith, matching_front ms inputs rows (i + 1))

pub matching_few : (ms : List Mark) (inputs : List ℕ) (rows : List (List ℕ)) → length (matching ms inputs rows) ≤ length rows
matching_few ms inputs [] = omega arith
matching_few ms inputs (r ∷ rows) = elim (cases_Bool (matches ms inputs r)) [
  | inl t ↦ rw (cond-true (matches ms inputs r) (r ∷ matching ms inputs rows) (matching ms inputs rows) t) (omega (arith, matching_few ms inputs rows))
  | inr t ↦ rw (cond-false (matches ms inputs r) (r ∷ matching ms inputs rows) (matching ms inputs rows) t) (omega (arith, matching_few ms inputs rows))
]
