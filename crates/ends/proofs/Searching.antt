-- Halving: rows that ascend, around a list of inputs.
use Rattle.std.proofs.Common.{◌≡◌, ℕ, zero, suc, ◌<◌, ◌≤◌, true, false, ◌⊎◌, List, [], ◌∷◌, length, get_or, take, sym, refl, ap, ◌∙◌, subst, inl, inr, arith}
use lib.ListN.{length-map}
use Rattle.std.proofs.lemmas.List.{take-take, get_or-map}
use Rattle.std.proofs.lemmas.Bool.{cases_lt, false≢true}
use Rattle.std.specs.List.Sorted.{IsPartitionedBy, IsPartitionPoint}
use Rattle.source.specs.Rows.{before, is_in, ascending}
use Rattle.source.proofs.Rows.{before_cases, before_at_head, before_in_tail, before_trans, in_head, in_tail, ascending_tail, head_before_all}
use Rattle.files.specs.Held.{cut}
use Rattle.ends.specs.Lookup.{Below, Beyond}

row_in_rows : (rows : List (List ℕ)) (i : ℕ) → i < length rows → is_in (get_or rows i []) rows ≡ true
row_in_rows [] i h = let z : ⊥ = omega arith in absurd z
row_in_rows (r ∷ rs) zero h = in_head r rs
row_in_rows (r ∷ rs) (suc i) h = in_tail (get_or rs i []) r rs (row_in_rows rs i (omega arith))

-- of two rows of ascending ones, the earlier comes before the later
pub earlier_before : (rows : List (List ℕ)) (i j : ℕ) → ascending rows ≡ true → i < j → j < length rows → before (get_or rows i []) (get_or rows j []) ≡ true
earlier_before [] i j s h l = let z : ⊥ = omega arith in absurd z
earlier_before (r ∷ rs) zero zero s h l = let z : ⊥ = omega arith in absurd z
earlier_before (r ∷ rs) zero (suc j) s h l = head_before_all r rs (get_or rs j []) s (row_in_rows rs j (omega arith))
earlier_before (r ∷ rs) (suc i) zero s h l = let z : ⊥ = omega arith in absurd z
earlier_before (r ∷ rs) (suc i) (suc j) s h l = earlier_before rs i j (ascending_tail r rs s) (omega arith) (omega arith)

-- the first columns of a row that comes before another come before the other's, or are the same
pub front_cases : (k : ℕ) (xs ys : List ℕ) → before xs ys ≡ true → (before (take k xs) (take k ys) ≡ true) ⊎ (take k xs ≡ take k ys)
front_cases zero xs ys h = inr refl
front_cases (suc k) [] [] h = absurd (false≢true h)
front_cases (suc k) [] (y ∷ ys) h = inl refl
front_cases (suc k) (x ∷ xs) [] h = absurd (false≢true h)
front_cases (suc k) (x ∷ xs) (y ∷ ys) h = go (before_cases x y xs ys h) (front_cases k xs ys)
  where
    tail : x ≡ y → (before (take k xs) (take k ys) ≡ true) ⊎ (take k xs ≡ take k ys) → (before (x ∷ take k xs) (y ∷ take k ys) ≡ true) ⊎ (x ∷ take k xs ≡ y ∷ take k ys)
    tail e (inl b) = inl (before_in_tail x y (take k xs) (take k ys) e b)
    tail e (inr s) = inr cc

    go : (x < y) ⊎ ((x ≡ y) × (before xs ys ≡ true)) → (before xs ys ≡ true → (before (take k xs) (take k ys) ≡ true) ⊎ (take k xs ≡ take k ys)) → (before (x ∷ take k xs) (y ∷ take k ys) ≡ true) ⊎ (x ∷ take k xs ≡ y ∷ take k ys)
    go (inl l) f = inl (before_at_head x y (take k xs) (take k ys) l)
    go (inr p) f = tail p.0 (f p.1)

module _ (rows : List (List ℕ)) (inputs : List ℕ) (ascends : ascending rows ≡ true) where
  abbrev front : ℕ → List ℕ
  front j = take (length inputs) (get_or rows j [])

  -- what lies before a row whose front comes before the inputs does so too
  carried_down : (i j : ℕ) → i < j → j < length rows → before (front j) inputs ≡ true → before (front i) inputs ≡ true
  carried_down i j h l b = elim (front_cases (length inputs) (get_or rows i []) (get_or rows j []) (earlier_before rows i j ascends h l)) [
    | inl f ↦ before_trans (front i) (front j) inputs f b
    | inr e ↦ subst (λ z. before z inputs ≡ true) (sym e) b
  ]

-- the first columns of a row that stands in cells
pub front_of_cells : (cells : List (List ℕ)) (columns k i : ℕ) (d : List ℕ) → k ≤ columns → i < length cells → take k (get_or (cut columns cells) i []) ≡ take k (get_or cells i d)
front_of_cells cells columns k i d h l = ap (take k) (get_or-map (take columns) cells i d [] l) ∙ take-take k columns (get_or cells i d) h

pub length_cut : (columns : ℕ) (cells : List (List ℕ)) → length (cut columns cells) ≡ length cells
length_cut columns cells = length-map cells (take columns)

-- the cells are parted by whether their first columns come before the inputs
pub parted : (columns : ℕ) (cells : List (List ℕ)) (inputs : List ℕ) → length inputs ≤ columns → ascending (cut columns cells) ≡ true → IsPartitionedBy (λ cell. before (take (length inputs) cell) inputs) cells
parted columns cells inputs few ascends i j d h l b = elim (cases_lt i j) [
  | inl a ↦ (let inside : j < length (cut columns cells) = omega (arith, length_cut columns cells) in
      let at_j = ap (λ (z : List ℕ). before z inputs) (front_of_cells cells columns (length inputs) j d few l) in
      let at_i = ap (λ (z : List ℕ). before z inputs) (front_of_cells cells columns (length inputs) i d few (omega arith)) in
      sym at_i ∙ carried_down (cut columns cells) inputs ascends i j a inside (at_j ∙ b))
  | inr a ↦ (let e : j ≡ i = omega arith in subst (λ (z : ℕ). before (take (length inputs) (get_or cells z d)) inputs ≡ true) e b)
]

module _ (columns : ℕ) (cells : List (List ℕ)) (inputs : List ℕ) (few : length inputs ≤ columns) (place : ℕ) (point : IsPartitionPoint (λ cell. before (take (length inputs) cell) inputs ≡ true) (λ cell. before (take (length inputs) cell) inputs ≡ false) cells place) (inside : place ≤ length cells) where
  pub below_point : Below (cut columns cells) inputs place
  below_point j h = ap (λ (z : List ℕ). before z inputs) (front_of_cells cells columns (length inputs) j [] few (omega arith)) ∙ point.0 j [] (omega arith) h

  pub beyond_point : Beyond (cut columns cells) inputs place
  beyond_point j h l =
      let k : j < length cells = omega (arith, length_cut columns cells) in
      ap (λ (z : List ℕ). before z inputs) (front_of_cells cells columns (length inputs) j [] few k) ∙ point.1 j [] h k
