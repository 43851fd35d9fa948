-- Values that stand one after another, cut into rows.
use Rattle.std.proofs.Common.{◌≡◌, ℕ, zero, suc, ◌+◌, ◌*◌, ◌/◌, ◌%◌, ◌<◌, ◌≤◌, true, false, eqb, List, [], ◌∷◌, ◌++◌, length, take, drop, sym, refl, ap, ◌∙◌, append_assoc, append-nil, suc-mul, div-add-mod', zero-mul, mul-div_cancel, arith, length-append, length-drop, take-append-drop, eqb-true}
use native.Mathlib.Nat.{mul-mod_left}
use Rattle.std.proofs.lemmas.List.{length-take-le, take_at, drop_at, nil_from_length}
use Rattle.std.proofs.lemmas.Bool.{and_parts, and_from, both_ways, false_from_ne_true}
use Rattle.source.specs.declared.mark.Mark.{Mark}
use Rattle.source.specs.Rows.{all_values, ascending, flat}
use Rattle.source.specs.Marks.{whole, all_whole}
use Rattle.files.specs.Contents.{Header}
use Rattle.files.specs.Making.{Divided}
use Rattle.files.proofs.Pushing.{values_split, whole_row}
use Rattle.files.proofs.Holding.{flat_push, flat-++}
use Rattle.files.proofs.Ordering.{ascending_front}

-- how many rows
pub not_whole : (values columns : ℕ) → 1 ≤ columns → (values % columns ≡ 0 → ⊥) → (count : ℕ) → count * columns ≡ values → count ≤ 1024 → ⊥
not_whole values columns h n count e l = n (rw (← e) (mul-mod_left count columns))

pub too_many_rows : (values columns : ℕ) → 1 ≤ columns → 1024 < values / columns → (count : ℕ) → count * columns ≡ values → count ≤ 1024 → ⊥
too_many_rows values columns h n count e l =
    let d : values / columns ≡ count = rw (← e) (mul-div_cancel count h) in
    omega arith

pub count_is : (values columns : ℕ) → values % columns ≡ 0 → values / columns * columns ≡ values
count_is values columns z = omega (arith, div-add-mod' values columns)

-- so many rows of this width
unfoldable pub chop : ℕ → ℕ → List ℕ → List (List ℕ)
chop c zero xs = []
chop c (suc n) xs = take c xs ∷ chop c n (drop c xs)

chop_flat : (c n : ℕ) (xs : List ℕ) → length xs ≡ n * c → flat (chop c n xs) ≡ xs
unfolding chop
chop_flat c zero [] e = refl
chop_flat c zero (x ∷ xs) e = absurd (omega (arith, zero-mul c))
chop_flat c (suc n) xs e =
    ap (λ (t : List ℕ). take c xs ++ t) (chop_flat c n (drop c xs) (omega (arith, length-drop c xs, suc-mul n c))) ∙ take-append-drop c xs

chop_long : (c n : ℕ) (xs : List ℕ) → length (chop c n xs) ≡ n
unfolding chop
chop_long c zero xs = refl
chop_long c (suc n) xs = ap suc (chop_long c n (drop c xs))

chop_whole : (ms : List Mark) (n : ℕ) (xs : List ℕ) → length xs ≡ n * length ms → all_values xs ≡ true → all_whole ms (chop (length ms) n xs) ≡ true
unfolding chop
chop_whole ms zero xs e s = refl
chop_whole ms (suc n) xs e s =
    let c : ℕ = length ms in
    let l : c ≤ length xs = omega (arith, suc-mul n c) in
    let p = values_split (take c xs) (drop c xs) (rw (take-append-drop c xs) s) in
    and_from (whole ms (take c xs)) (all_whole ms (chop c n (drop c xs))) (whole_row ms (take c xs) (length-take-le c xs l) p.0) (chop_whole ms n (drop c xs) (omega (arith, length-drop c xs, suc-mul n c)) p.1)

-- whole rows of values are as many values as they have columns each
pub whole_long : (ms : List Mark) (rows : List (List ℕ)) → all_whole ms rows ≡ true → length (flat rows) ≡ length rows * length ms
whole_long ms [] e = sym (zero-mul (length ms))
whole_long ms (r ∷ rows) e =
    let p = and_parts (whole ms r) (all_whole ms rows) e in
    let l : length r ≡ length ms = eqb-true (length r) (length ms) (and_parts (eqb (length r) (length ms)) (all_values r) p.0).0 in
    omega (arith, length-append r (flat rows), whole_long ms rows p.1, suc-mul (length rows) (length ms))

-- values are one list of rows at most
pub divided_same : (ms : List Mark) (values : List ℕ) (rows rows' : List (List ℕ)) → Divided ms values rows → Divided ms values rows' → rows ≡ rows'
divided_same ms values rows rows' d d' = go rows rows' d.rows_whole d'.rows_whole (d.values_are ∙ sym d'.values_are)
  where
    wide : (r : List ℕ) → whole ms r ≡ true → length r ≡ length ms
    wide r e = eqb-true (length r) (length ms) (and_parts (eqb (length r) (length ms)) (all_values r) e).0

    some : 1 ≤ length ms
    some = d.header.some_column

    go : (xs ys : List (List ℕ)) → all_whole ms xs ≡ true → all_whole ms ys ≡ true → flat xs ≡ flat ys → xs ≡ ys
    go [] [] p q e = refl
    go [] (y ∷ ys) p q e = absurd (omega (arith, some, wide y (and_parts (whole ms y) (all_whole ms ys) q).0, ap length e, length-append y (flat ys)))
    go (x ∷ xs) [] p q e = absurd (omega (arith, some, wide x (and_parts (whole ms x) (all_whole ms xs) p).0, ap length e, length-append x (flat xs)))
    go (x ∷ xs) (y ∷ ys) p q e =
        let a = and_parts (whole ms x) (all_whole ms xs) p in
        let b = and_parts (whole ms y) (all_whole ms ys) q in
        let i : x ≡ y = sym (take_at x (flat xs) (length ms) (wide x a.0)) ∙ ap (take (length ms)) e ∙ take_at y (flat ys) (length ms) (wide y b.0) in
        let j : flat xs ≡ flat ys = sym (drop_at x (flat xs) (length ms) (wide x a.0)) ∙ ap (drop (length ms)) e ∙ drop_at y (flat ys) (length ms) (wide y b.0) in
        let k : xs ≡ ys = go xs ys a.1 b.1 j in
        cc

-- a row of what is left has values in range
pub values_cut : {values left : List ℕ} (rows : List (List ℕ)) → flat rows ++ left ≡ values → (row rest : List ℕ) → left ≡ row ++ rest → all_values values ≡ true → all_values row ≡ true
values_cut {values} {left} rows e row rest f s = (values_split row rest (rw f at ((values_split (flat rows) left (rw e s)).1))).0

-- the first values are in the rows, and the others are to be cut
pub record Cutting (ms : List Mark) (values : List ℕ) (rows : List (List ℕ)) (left : List ℕ) : Type 0 where
  pub more : ℕ
  pub left_whole : length left ≡ more * length ms
  pub few : length rows + more ≤ 1024
  pub values_are : flat rows ++ left ≡ values

pub cutting_none : (ms : List Mark) (values : List ℕ) → length values % length ms ≡ 0 → length values / length ms ≤ 1024 → Cutting ms values [] values
cutting_none ms values z h = record { more = length values / length ms; left_whole = sym (count_is (length values) (length ms) z); few = omega arith; values_are = refl }

module _ {ms : List Mark} {values : List ℕ} {rows : List (List ℕ)} {left : List ℕ} (some : 1 ≤ length ms) (cutting : Cutting ms values rows left) where
  -- a row of what is left
  module _ (row rest : List ℕ) (first : left ≡ row ++ rest) (wide : length row ≡ length ms) where
    split : (k : ℕ) → length left ≡ k * length ms → (j : ℕ) × (k ≡ suc j) × (length rest ≡ j * length ms)
    split zero e = absurd (omega (arith, ap length first, length-append row rest, zero-mul (length ms)))
    split (suc k) e = (k, refl, omega (arith, ap length first, length-append row rest, suc-mul k (length ms)))

    pub cutting_more : Cutting ms values (rows ++ row ∷ []) rest
    cutting_more =
        let s = split cutting.more cutting.left_whole in
        record {
          more = s.0;
          left_whole = s.2;
          few = omega (arith, cutting.few, s.1, length-append rows (row ∷ []));
          values_are = rw (flat_push rows row, append_assoc (flat rows) row rest, ← first) cutting.values_are;
        }

  none_left : (k : ℕ) → length left ≡ k * length ms → length left < length ms → k ≡ 0
  none_left zero e h = refl
  none_left (suc k) e h = absurd (omega (arith, suc-mul k (length ms)))

  pub cutting_all : Header ms (length rows) → length left < length ms → all_whole ms rows ≡ true → Divided ms values rows
  cutting_all header h w =
      let z : cutting.more ≡ 0 = none_left cutting.more cutting.left_whole h in
      let e : left ≡ [] = nil_from_length left (cutting.left_whole ∙ ap (λ (k : ℕ). k * length ms) z ∙ zero-mul (length ms)) in
      record { header = header; rows_whole = w; values_are = sym (append-nil (flat rows)) ∙ rw (← e) cutting.values_are }

  -- the rows, and what is left cut into rows
  pub whole_cut : ((n : ℕ) → n ≤ 1024 → Header ms n) → all_values values ≡ true → all_whole ms rows ≡ true → Divided ms values (rows ++ chop (length ms) cutting.more left)
  whole_cut header s w =
      let values_left = (values_split (flat rows) left (rw cutting.values_are s)).1 in
      record {
        header = header (length (rows ++ chop (length ms) cutting.more left)) (omega (arith, cutting.few, length-append rows (chop (length ms) cutting.more left), chop_long (length ms) cutting.more left));
        rows_whole = whole_both rows (chop (length ms) cutting.more left) w (chop_whole ms cutting.more left cutting.left_whole values_left);
        values_are = flat-++ rows (chop (length ms) cutting.more left) ∙ ap (λ (x : List ℕ). flat rows ++ x) (chop_flat (length ms) cutting.more left cutting.left_whole) ∙ cutting.values_are;
      }
    where
      whole_both : (xs ys : List (List ℕ)) → all_whole ms xs ≡ true → all_whole ms ys ≡ true → all_whole ms (xs ++ ys) ≡ true
      whole_both [] ys p q = q
      whole_both (x ∷ xs) ys p q = let r = and_parts (whole ms x) (all_whole ms xs) p in and_from (whole ms x) (all_whole ms (xs ++ ys)) r.0 (whole_both xs ys r.1 q)

  pub cut_falls : ascending rows ≡ false → ascending (rows ++ chop (length ms) cutting.more left) ≡ false
  cut_falls f = false_from_ne_true (ascending (rows ++ chop (length ms) cutting.more left)) (λ a. both_ways (ascending rows) f (ascending_front rows (chop (length ms) cutting.more left) a))
