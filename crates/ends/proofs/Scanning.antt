-- Scanning rows for those that hold some inputs.
use Rattle.std.proofs.Common.{◌≡◌, ℕ, zero, suc, ◌+◌, ◌-◌, ◌*◌, ◌<◌, ◌≤◌, true, false, List, [], ◌∷◌, ◌++◌, map, length, get_or, take, drop, sym, refl, ap, ◌∙◌, subst, inl, inr, append_assoc, append-nil, arith, zero-mul, length-append, length-drop, take-append-drop}
use Rattle.std.proofs.lemmas.List.{take_more, take-map, map_push, get_or-map, get_or-drop, get_or-take, length-take, take_at, take_rest, drop_at, drop-drop}
use Rattle.std.proofs.lemmas.Bool.{cases_lt, both_ways, false_from_ne_true}
use Rattle.std.proofs.Math.Nat.{mul-le-mul}
use Rattle.source.specs.declared.mark.Mark.{Mark}
use Rattle.source.specs.declared.mark.Mark.TheVariants.{Given, Free}
use Rattle.source.specs.Rows.{before, ascending, flat}
use Rattle.source.specs.Marks.{inputs_of, picked, matches, matching}
use Rattle.source.proofs.Rows.{same_eq, eq_same, before_irrefl}
use Rattle.source.proofs.Matching.{matching_append}
use Rattle.files.specs.Held.{cut}
use Rattle.files.proofs.Holding.{flat_push}
use Rattle.source.specs.Rows.{Written}
use Rattle.ends.specs.Lookup.{found, Below, Beyond}
use Rattle.ends.proofs.Searching.{earlier_before, front_cases, length_cut}

-- Given columns that stand first.

pub few_inputs : (k : ℕ) (marks : List Mark) → inputs_of (take k marks) ≤ k
few_inputs zero marks = omega arith
few_inputs (suc k) [] = omega arith
few_inputs (suc k) (Given ∷ ms) = omega (arith, few_inputs k ms)
few_inputs (suc k) (Free ∷ ms) = omega (arith, few_inputs k ms)

pub inputs_at_most_columns : (marks : List Mark) → inputs_of marks ≤ length marks
inputs_at_most_columns [] = omega arith
inputs_at_most_columns (Given ∷ ms) = omega (arith, inputs_at_most_columns ms)
inputs_at_most_columns (Free ∷ ms) = omega (arith, inputs_at_most_columns ms)

none_given : (marks : List Mark) (row : List ℕ) → inputs_of marks ≡ 0 → picked marks row ≡ []
none_given [] row e = refl
none_given (Given ∷ ms) row e = let z : ⊥ = omega arith in absurd z
none_given (Free ∷ ms) [] e = refl
none_given (Free ∷ ms) (v ∷ row) e = none_given ms row e

-- where the given columns stand first, the inputs are the first columns
pub picked_front : (k : ℕ) (marks : List Mark) (row : List ℕ) → inputs_of marks ≡ k → inputs_of (take k marks) ≡ k → picked marks row ≡ take k row
picked_front zero marks row e f = none_given marks row e
picked_front (suc k) [] row e f = let z : ⊥ = omega arith in absurd z
picked_front (suc k) (Given ∷ ms) [] e f = refl
picked_front (suc k) (Given ∷ ms) (v ∷ row) e f = ap (λ (t : List ℕ). v ∷ t) (picked_front k ms row (omega arith) (omega arith))
picked_front (suc k) (Free ∷ ms) row e f = let z : ⊥ = omega (arith, few_inputs k ms) in absurd z

-- Which rows are found.

pub none_match : (marks : List Mark) (inputs : List ℕ) (rows : List (List ℕ)) → ((j : ℕ) → j < length rows → matches marks inputs (get_or rows j []) ≡ false) → matching marks inputs rows ≡ []
none_match marks inputs [] h = refl
none_match marks inputs (r ∷ rs) h = rw (h 0 (omega arith)) (none_match marks inputs rs (λ j l. h (suc j) (omega arith)))

module _ (marks : List Mark) (inputs : List ℕ) (cells : List (List ℕ)) where
  abbrev rows : List (List ℕ)
  rows = cut (length marks) cells

  abbrev row_at : ℕ → List ℕ → List ℕ
  row_at i d = take (length marks) (get_or cells i d)

  cut_more : (i : ℕ) (d : List ℕ) → i < length cells → cut (length marks) (take (i + 1) cells) ≡ cut (length marks) (take i cells) ++ row_at i d ∷ []
  cut_more i d h = ap (map (take (length marks))) (take_more cells i d h) ∙ map_push (take (length marks)) (take i cells) (get_or cells i d)

  pub found_one_more : (i : ℕ) (d : List ℕ) → i < length cells → matches marks inputs (row_at i d) ≡ true → found marks inputs (take (i + 1) cells) ≡ found marks inputs (take i cells) ++ row_at i d ∷ []
  found_one_more i d h m = ap (matching marks inputs) (cut_more i d h) ∙ matching_append marks inputs (cut (length marks) (take i cells)) (row_at i d ∷ []) ∙ rw m refl

  pub found_no_more : (i : ℕ) (d : List ℕ) → i < length cells → matches marks inputs (row_at i d) ≡ false → found marks inputs (take (i + 1) cells) ≡ found marks inputs (take i cells)
  found_no_more i d h m = ap (matching marks inputs) (cut_more i d h) ∙ matching_append marks inputs (cut (length marks) (take i cells)) (row_at i d ∷ []) ∙ rw m (append-nil (found marks inputs (take i cells)))

  -- what is found is found up to a place and from it on
  found_split : (i : ℕ) → found marks inputs cells ≡ found marks inputs (take i cells) ++ matching marks inputs (drop i rows)
  found_split i = ap (matching marks inputs) (sym (take-append-drop i rows)) ∙ matching_append marks inputs (take i rows) (drop i rows) ∙ ap (λ z. matching marks inputs z ++ matching marks inputs (drop i rows)) (take-map (take (length marks)) i cells)

  pub found_at_most : (i : ℕ) → length (found marks inputs (take i cells)) ≤ length (found marks inputs cells)
  found_at_most i = omega (arith, ap length (found_split i), length-append (found marks inputs (take i cells)) (matching marks inputs (drop i rows)))

  -- there is room in the memory for one row more
  pub room_for_row : (i count : ℕ) (d : List ℕ) → length marks ≤ 4 → length (found marks inputs cells) ≤ 64 → i < length cells → matches marks inputs (row_at i d) ≡ true → count ≡ length (found marks inputs (take i cells)) → count * length marks + length marks ≤ 256
  room_for_row i count d narrow few h m e =
      let more = ap length (found_one_more i d h m) ∙ length-append (found marks inputs (take i cells)) (row_at i d ∷ []) in
      let most = found_at_most (i + 1) in
      let rows : count + 1 ≤ 64 = omega arith in
      omega (arith, mul-le-mul rows narrow)

  module _ (ascends : ascending rows ≡ true) (as_many : length inputs ≡ inputs_of marks) (leading : inputs_of (take (length inputs) marks) ≡ length inputs) where
    front : (row : List ℕ) → picked marks row ≡ take (length inputs) row
    front row = picked_front (length inputs) marks row (sym as_many) leading

    holds_front : (row : List ℕ) → matches marks inputs row ≡ true → take (length inputs) row ≡ inputs
    holds_front row t = sym (front row) ∙ same_eq (picked marks row) inputs t

    -- before the first row that does not come before the inputs, none holds them
    pub none_below : (place : ℕ) → place ≤ length cells → Below rows inputs place → found marks inputs (take place cells) ≡ []
    none_below place l b = ap (matching marks inputs) (sym (take-map (take (length marks)) place cells)) ∙ none_match marks inputs (take place rows) none
      where
        none : (j : ℕ) → j < length (take place rows) → matches marks inputs (get_or (take place rows) j []) ≡ false
        none j h =
            let lt : j < place = omega (arith, length-take place rows) in
            rw (get_or-take place rows j [] lt)
            (false_from_ne_true (matches marks inputs (get_or rows j [])) (λ t. before_irrefl inputs (subst (λ z. before z inputs ≡ true) (holds_front (get_or rows j []) t) (b j lt))))

    -- behind a row that does not hold them, none does
    pub none_beyond : (place i : ℕ) (d : List ℕ) → Beyond rows inputs place → place ≤ i → i < length cells → matches marks inputs (row_at i d) ≡ false → found marks inputs cells ≡ found marks inputs (take i cells)
    none_beyond place i d b h l m = found_split i ∙ ap (λ z. found marks inputs (take i cells) ++ z) (none_match marks inputs (drop i rows) none) ∙ append-nil (found marks inputs (take i cells))
      where
        here : matches marks inputs (get_or rows i []) ≡ false
        here = ap (matches marks inputs) (get_or-map (take (length marks)) cells i d [] l) ∙ m

        inside : i < length rows
        inside = omega (arith, length_cut (length marks) cells)

        later : (q : ℕ) → i < q → q < length rows → matches marks inputs (get_or rows q []) ≡ true → ⊥
        later q k n t = elim (front_cases (length inputs) (get_or rows i []) (get_or rows q []) (earlier_before rows i q ascends k n)) [
          | inl f ↦ both_ways (before (take (length inputs) (get_or rows i [])) inputs) (b i h inside) (subst (λ z. before (take (length inputs) (get_or rows i [])) z ≡ true) (holds_front (get_or rows q []) t) f)
          | inr e ↦ both_ways (matches marks inputs (get_or rows i [])) here (eq_same (picked marks (get_or rows i [])) inputs (front (get_or rows i []) ∙ e ∙ holds_front (get_or rows q []) t))
        ]

        from : (q : ℕ) → i ≤ q → q < length rows → matches marks inputs (get_or rows q []) ≡ false
        from q k n = elim (cases_lt i q) [
          | inl a ↦ false_from_ne_true (matches marks inputs (get_or rows q [])) (later q a n)
          | inr a ↦ (let e : i ≡ q = omega arith in subst (λ z. matches marks inputs (get_or rows z []) ≡ false) e here)
        ]

        none : (j : ℕ) → j < length (drop i rows) → matches marks inputs (get_or (drop i rows) j []) ≡ false
        none j n = rw (get_or-drop i rows j []) (from (i + j) (omega arith) (omega (arith, length-drop i rows)))

-- Writing what is found.

-- a row more behind those that stand
pub written_one_more : (had : List (List ℕ)) (row memory memory' memory'' : List ℕ) (to : ℕ) → to ≡ length (flat had) → Written had memory memory' → memory'' ≡ take to memory' ++ (row ++ drop (to + length row) memory') → Written (had ++ row ∷ []) memory memory''
written_one_more had row memory memory' memory'' to e w h =
    let front : take to memory' ≡ flat had = ap (take to) w ∙ take_at (flat had) (drop (length (flat had)) memory) to (sym e) in
    let rest : drop to memory' ≡ drop (length (flat had)) memory = ap (drop to) w ∙ drop_at (flat had) (drop (length (flat had)) memory) to (sym e) in
    let beyond : drop (to + length row) memory' ≡ drop (length (flat had) + length row) memory = sym (drop-drop (length row) to memory') ∙ ap (drop (length row)) rest ∙ drop-drop (length row) (length (flat had)) memory in
    h ∙ rw (front, beyond, flat_push had row, length-append (flat had) row) (sym (append_assoc (flat had) row (drop (length (flat had) + length row) memory)))

-- What a scan has done up to a place.
pub record Scanned (marks : List Mark) (inputs : List ℕ) (cells : List (List ℕ)) (memory : List ℕ) (i count : ℕ) (memory' : List ℕ) : Type 0 where
  pub counted : count ≡ length (found marks inputs (take i cells))
  pub long : count * length marks ≡ length (flat (found marks inputs (take i cells)))
  pub written : Written (found marks inputs (take i cells)) memory memory'

pub scanned_none : (marks : List Mark) (inputs : List ℕ) (cells : List (List ℕ)) (memory : List ℕ) (i : ℕ) → found marks inputs (take i cells) ≡ [] → Scanned marks inputs cells memory i 0 memory
scanned_none marks inputs cells memory i e = record { counted = rw e refl; long = rw e (zero-mul (length marks)); written = rw e refl }

module _ (marks : List Mark) (inputs : List ℕ) (cells : List (List ℕ)) (memory : List ℕ) (i count : ℕ) (row memory' : List ℕ) (inside : i < length cells) (is : row ≡ take (length marks) (get_or cells i [])) (scanned : Scanned marks inputs cells memory i count memory') where
  pub scanned_one_more : (memory'' : List ℕ) → length row ≡ length marks → matches marks inputs row ≡ true → memory'' ≡ take (count * length marks) memory' ++ (row ++ drop (count * length marks + length row) memory') → Scanned marks inputs cells memory (i + 1) (count + 1) memory''
  scanned_one_more memory'' long m w =
      let had = found marks inputs (take i cells) in
      let more : found marks inputs (take (i + 1) cells) ≡ had ++ row ∷ [] = found_one_more marks inputs cells i [] inside (subst (λ z. matches marks inputs z ≡ true) is m) ∙ ap (λ z. had ++ z ∷ []) (sym is) in
      record {
        counted = rw more (omega (arith, scanned.counted, length-append had (row ∷ [])));
        long = rw more (omega (arith, scanned.long, long, ap length (flat_push had row) ∙ length-append (flat had) row));
        written = rw more (written_one_more had row memory memory' memory'' (count * length marks) scanned.long scanned.written w);
      }

  pub scanned_no_more : matches marks inputs row ≡ false → Scanned marks inputs cells memory (i + 1) count memory'
  scanned_no_more m =
      let same = found_no_more marks inputs cells i [] inside (subst (λ z. matches marks inputs z ≡ false) is m) in
      record { counted = rw same scanned.counted; long = rw same scanned.long; written = rw same scanned.written }

-- the row of a part of the cells, from a place on
pub part_inside : (cells : List (List ℕ)) (start k : ℕ) → k < length (take (length cells - start) (drop start cells)) → start + k < length cells
part_inside cells start k h = omega (arith, ap length (take_rest cells start), length-drop start cells)

pub part_row : (cells : List (List ℕ)) (start k : ℕ) → get_or (take (length cells - start) (drop start cells)) k [] ≡ get_or cells (start + k) []
part_row cells start k = ap (λ z. get_or z k []) (take_rest cells start) ∙ get_or-drop start cells k []
