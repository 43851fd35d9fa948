-- No bytes are both a file and refused, and none are refused in two ways: reading as a function.
use Rattle.std.proofs.Common.{◌≡◌, ℕ, zero, suc, ◌+◌, ◌-◌, ◌*◌, ◌/◌, ◌%◌, ◌^◌, ◌<◌, ◌≤◌, Bool, true, false, ◌&&◌, eqb, ltb, leb, List, [], ◌∷◌, ◌++◌, length, get_or, take, drop, Some, None, Ok, Err, Option, Result, sym, refl, ap, ◌∙◌, subst, inl, inr, append_assoc, append-nil, add-zero, add_assoc, zero-add, arith, length-append, length-drop, ltb-true, eq-eqb, eqb-true, le-leb, leb-true}
use Rattle.std.proofs.lemmas.List.{drop_at, drop_all, get_or-drop}
use Rattle.std.proofs.lemmas.Bool.{cases_order, and_parts, and_from, false_from_ne_true}
use Rattle.faults.specs.declared.fault.Fault.{Fault}
use Rattle.faults.specs.declared.refusal.Refusal.{Refusal}
use Rattle.faults.specs.declared.refusal.Refusal.TheVariants.{NumberForm, HeaderRange, RowsNotAscending, TooManyMatches, BytesLeftOver}
use Rattle.faults.specs.Faults.{placed}
use Rattle.source.specs.declared.mark.Mark.{Mark}
use Rattle.source.specs.declared.mark.Mark.TheVariants.{Given, Free}
use Rattle.source.specs.Rows.{all_values, ascending, flat}
use Rattle.source.specs.Marks.{inputs_of, picked, whole, all_whole}
use Rattle.numbers.specs.Forms.{encode, encodes}
use Rattle.numbers.proofs.Encoding.{encode_form, encodes-++, encodes_one, number_bytes}
use Rattle.numbers.proofs.Deciding.{Bytes, form_bytes, groups, read_back, none_read}
use Rattle.files.specs.Contents.{Header, bit, bits, header_numbers, numbers, FileOf}
use Rattle.files.specs.Refusing.{Begun, Front, Crowded, Refuses}
use Rattle.files.specs.Refusing.Refuses.{header_cut, header_range, row_cut, row_order, left_over, crowded}
use Rattle.files.specs.Theorems.{OneContent, NotBoth, OneFault}
use Rattle.files.proofs.Packing.{bit_few, bits_few}
use Rattle.files.proofs.Holding.{flat_push}
use Rattle.files.proofs.Ordering.{ascending_front}
use Rattle.files.proofs.Matching.{crowd_matches}
use Rattle.files.proofs.Pushing.{values_split}
use Rattle.files.proofs.Reading.{values_one, values-++}
use Rattle.files.proofs.Heads.{begun_none, begun_columns, begun_count, first_is, second_is, third_is}

abbrev Out : Type 0
Out = Result (List Mark × List (List ℕ)) Fault

one : Option (ℕ × ℕ) → List ℕ → ℕ → (ℕ → List ℕ → ℕ → Out) → Out
one None xs p k = Err (placed NumberForm p)
one (Some r) xs p k = k r.0 (drop r.1 xs) (p + r.1)

nums : ℕ → List ℕ → ℕ → (List ℕ → List ℕ → ℕ → Out) → Out
nums zero xs p k = k [] xs p
nums (suc n) xs p k = one (groups 5 xs) xs p (λ v ys q. nums n ys q (λ vs. k (v ∷ vs)))

guard : Bool → Fault → Out → Out
guard true f o = o
guard false f o = Err f

items : ℕ → (List (List ℕ) → List ℕ → Bool) → Refusal → ℕ → List (List ℕ) → List ℕ → ℕ → (List (List ℕ) → List ℕ → ℕ → Out) → Out
items w ok f zero acc xs p k = k acc xs p
items w ok f (suc n) acc xs p k = nums w xs p (λ row ys q. guard (ok acc row) (placed f p) (items w ok f n (acc ++ row ∷ []) ys q k))

-- numbers
one_read : (v : ℕ) (rest : List ℕ) (p : ℕ) (k : ℕ → List ℕ → ℕ → Out) → v < 2 ^ 32 → one (groups 5 (encode v ++ rest)) (encode v ++ rest) p k ≡ k v rest (p + length (encode v))
unfolding one
one_read v rest p k h = rw (read_back v rest h, drop_at (encode v) rest (length (encode v)) refl) refl

run_nums : (vs rest : List ℕ) (p : ℕ) (k : List ℕ → List ℕ → ℕ → Out) → all_values vs ≡ true → nums (length vs) (encodes vs ++ rest) p k ≡ k vs rest (p + length (encodes vs))
unfolding nums encodes
run_nums [] rest p k s = rw (add-zero p) refl
run_nums (v ∷ vs) rest p k s =
    let t = and_parts (ltb v (2 ^ 32)) (all_values vs) s in
    rw (append_assoc (encode v) (encodes vs) rest, length-append (encode v) (encodes vs), ← add_assoc p (length (encode v)) (length (encodes vs)))
    (one_read v (encodes vs ++ rest) p (λ v ys q. nums (length vs) ys q (λ us. k (v ∷ us))) (ltb-true v (2 ^ 32) t.0) ∙ run_nums vs rest (p + length (encode v)) (λ us. k (v ∷ us)) t.1)

cut_nums : (n : ℕ) (vs rest : List ℕ) (p : ℕ) (k : List ℕ → List ℕ → ℕ → Out) → length vs < n → all_values vs ≡ true → groups 5 rest ≡ None → nums n (encodes vs ++ rest) p k ≡ Err (placed NumberForm (p + length (encodes vs)))
unfolding nums encodes one
cut_nums zero vs rest p k h s e = absurd (omega arith)
cut_nums (suc n) [] rest p k h s e = rw (e, add-zero p) refl
cut_nums (suc n) (v ∷ vs) rest p k h s e =
    let t = and_parts (ltb v (2 ^ 32)) (all_values vs) s in
    rw (append_assoc (encode v) (encodes vs) rest, length-append (encode v) (encodes vs), ← add_assoc p (length (encode v)) (length (encodes vs)))
    (one_read v (encodes vs ++ rest) p (λ v ys q. nums n ys q (λ us. k (v ∷ us))) (ltb-true v (2 ^ 32) t.0) ∙ cut_nums n vs rest (p + length (encode v)) (λ us. k (v ∷ us)) (omega arith) t.1 e)

-- items
abbrev OkFrom : (List (List ℕ) → List ℕ → Bool) → List (List ℕ) → List (List ℕ) → Type 0
OkFrom ok acc [] = Unit {0}
OkFrom ok acc (r ∷ rows) = (ok acc r ≡ true) × OkFrom ok (acc ++ r ∷ []) rows

module _ (ms : List Mark) (ok : List (List ℕ) → List ℕ → Bool) (f : Refusal) (k : List (List ℕ) → List ℕ → ℕ → Out) where
  item_read : (n : ℕ) (acc : List (List ℕ)) (row rest : List ℕ) (p : ℕ) → length row ≡ length ms → all_values row ≡ true → items (length ms) ok f (suc n) acc (encodes row ++ rest) p k ≡ guard (ok acc row) (placed f p) (items (length ms) ok f n (acc ++ row ∷ []) rest (p + length (encodes row)) k)
  unfolding items
  item_read n acc row rest p l s =
      let K : List ℕ → List ℕ → ℕ → Out = λ r ys q. guard (ok acc r) (placed f p) (items (length ms) ok f n (acc ++ r ∷ []) ys q k) in
      subst (λ (x : ℕ). nums x (encodes row ++ rest) p K ≡ K row rest (p + length (encodes row))) l (run_nums row rest p K s)

  run_items : (N n : ℕ) (rows acc : List (List ℕ)) (rest : List ℕ) (p : ℕ) → N ≡ length rows + n → all_whole ms rows ≡ true → OkFrom ok acc rows → items (length ms) ok f N acc (encodes (flat rows) ++ rest) p k ≡ items (length ms) ok f n (acc ++ rows) rest (p + length (encodes (flat rows))) k
  unfolding encodes guard
  run_items N n [] acc rest p e d o = rw (append-nil acc, add-zero p) (ap (λ (x : ℕ). items (length ms) ok f x acc rest p k) (omega arith))
  run_items zero n (r ∷ rows) acc rest p e d o = absurd (omega arith)
  run_items (suc N) n (r ∷ rows) acc rest p e d o =
      let h = and_parts (whole ms r) (all_whole ms rows) d in
      let w = and_parts (eqb (length r) (length ms)) (all_values r) h.0 in
      let q : length (encodes (r ++ flat rows)) ≡ length (encodes r) + length (encodes (flat rows)) = rw (encodes-++ r (flat rows)) (length-append (encodes r) (encodes (flat rows))) in
      let a : acc ++ r ∷ rows ≡ (acc ++ r ∷ []) ++ rows = sym (append_assoc acc (r ∷ []) rows) in
      rw (q, encodes-++ r (flat rows), append_assoc (encodes r) (encodes (flat rows)) rest, a, ← add_assoc p (length (encodes r)) (length (encodes (flat rows))))
      (item_read N acc r (encodes (flat rows) ++ rest) p (eqb-true (length r) (length ms) w.0) w.1 ∙ rw o.0 (run_items N n rows (acc ++ r ∷ []) rest (p + length (encodes r)) (omega arith) h.1 o.1))

  cut_item : (n : ℕ) (acc : List (List ℕ)) (vs rest : List ℕ) (p : ℕ) → length vs < length ms → all_values vs ≡ true → groups 5 rest ≡ None → items (length ms) ok f (suc n) acc (encodes vs ++ rest) p k ≡ Err (placed NumberForm (p + length (encodes vs)))
  unfolding items
  cut_item n acc vs rest p h s e = cut_nums (length ms) vs rest p (λ r ys q. guard (ok acc r) (placed f p) (items (length ms) ok f n (acc ++ r ∷ []) ys q k)) h s e

  bad_item : (n : ℕ) (acc : List (List ℕ)) (row rest : List ℕ) (p : ℕ) → length row ≡ length ms → all_values row ≡ true → ok acc row ≡ false → items (length ms) ok f (suc n) acc (encodes row ++ rest) p k ≡ Err (placed f p)
  unfolding guard
  bad_item n acc row rest p l s e = item_read n acc row rest p l s ∙ rw e refl

-- the marks of a number
mark_of : ℕ → Mark
mark_of zero = Free
mark_of (suc n) = Given

marks_of : ℕ → ℕ → List Mark
marks_of zero m = []
marks_of (suc c) m = mark_of (m % 2) ∷ marks_of c (m / 2)

mark_back : (m : Mark) → mark_of (bit m) ≡ m
unfolding mark_of
mark_back Given = refl
mark_back Free = refl

marks_back : (ms : List Mark) → marks_of (length ms) (bits ms) ≡ ms
unfolding marks_of
marks_back [] = refl
marks_back (m ∷ ms) =
    let s : bit m < 2 = bit_few m in
    let r : (bit m + 2 * bits ms) % 2 ≡ bit m = omega arith in
    let d : (bit m + 2 * bits ms) / 2 ≡ bits ms = omega arith in
    let t : marks_of (length ms) (bits ms) ≡ ms = marks_back ms in
    rw (r, d, mark_back m, t) refl

marks_long : (c m : ℕ) → length (marks_of c m) ≡ c
unfolding marks_of
marks_long zero m = refl
marks_long (suc c) m = ap suc (marks_long c (m / 2))

-- whether numbers begin a header
in_columns : ℕ → Bool
in_columns c = leb 1 c && leb c 4

in_marks : ℕ → ℕ → Bool
in_marks c m = eqb (bits (marks_of c m)) m && leb (inputs_of (marks_of c m)) 3

pub heading : List ℕ → Bool
heading [] = true
heading (c ∷ []) = in_columns c
heading (c ∷ m ∷ []) = in_columns c && in_marks c m
heading (c ∷ m ∷ n ∷ []) = (in_columns c && in_marks c m) && leb n 1024
heading (c ∷ m ∷ n ∷ x ∷ r) = false

columns_true : {ms : List Mark} {n : ℕ} → Header ms n → in_columns (length ms) ≡ true
unfolding in_columns
columns_true {ms} h = and_from (leb 1 (length ms)) (leb (length ms) 4) (le-leb 1 (length ms) h.some_column) (le-leb (length ms) 4 h.four_columns)

marks_true : {ms : List Mark} {n : ℕ} → Header ms n → in_marks (length ms) (bits ms) ≡ true
unfolding in_marks
marks_true {ms} h = rw (marks_back ms) (and_from (eqb (bits ms) (bits ms)) (leb (inputs_of ms) 3) (eq-eqb (bits ms) (bits ms) refl) (le-leb (inputs_of ms) 3 h.three_given))

pub head_true : (ns : List ℕ) → Begun ns → heading ns ≡ true
unfolding heading
head_true [] b = refl
head_true (c ∷ []) b = rw (← first_is b.numbers_are) (columns_true b.header)
head_true (c ∷ m ∷ []) b =
    let ms : List Mark = b.marks in
    rw (← first_is b.numbers_are, ← second_is b.numbers_are) (and_from (in_columns (length ms)) (in_marks (length ms) (bits ms)) (columns_true b.header) (marks_true b.header))
head_true (c ∷ m ∷ n ∷ []) b =
    let ms : List Mark = b.marks in
    rw (← first_is b.numbers_are, ← second_is b.numbers_are, ← third_is b.numbers_are)
    (and_from (in_columns (length ms) && in_marks (length ms) (bits ms)) (leb b.count 1024) (and_from (in_columns (length ms)) (in_marks (length ms) (bits ms)) (columns_true b.header) (marks_true b.header)) (le-leb b.count 1024 b.header.few_rows))
head_true (c ∷ m ∷ n ∷ x ∷ r) b = absurd (omega (arith, ap length b.numbers_are, length-append r b.rest))

columns_back : (c : ℕ) → in_columns c ≡ true → (1 ≤ c) × (c ≤ 4)
unfolding in_columns
columns_back c e = let p = and_parts (leb 1 c) (leb c 4) e in (leb-true 1 c p.0, leb-true c 4 p.1)

begun_back : (c m n : ℕ) (rest : List ℕ) (ns : List ℕ) → in_columns c ≡ true → in_marks c m ≡ true → n ≤ 1024 → c ∷ m ∷ n ∷ [] ≡ ns ++ rest → Begun ns
unfolding in_marks
begun_back c m n rest ns p q l e =
    let ms : List Mark = marks_of c m in
    let r = columns_back c p in
    let s = and_parts (eqb (bits ms) m) (leb (inputs_of ms) 3) q in
    let w : length ms ≡ c = marks_long c m in
    let b : bits ms ≡ m = eqb-true (bits ms) m s.0 in
    record {
      marks = ms;
      count = n;
      rest = rest;
      header = record { some_column = omega (arith, r.0); four_columns = omega (arith, r.1); three_given = leb-true (inputs_of ms) 3 s.1; few_rows = l };
      numbers_are = rw (w, b) e;
    }

pub head_back : (ns : List ℕ) → heading ns ≡ true → Begun ns
unfolding heading
head_back [] e = begun_none
head_back (c ∷ []) e = let r = columns_back c e in begun_columns c r.0 r.1
head_back (c ∷ m ∷ []) e =
    let p = and_parts (in_columns c) (in_marks c m) e in
    begun_back c m 0 (0 ∷ []) (c ∷ m ∷ []) p.0 p.1 (omega arith) refl
head_back (c ∷ m ∷ n ∷ []) e =
    let q = and_parts (in_columns c && in_marks c m) (leb n 1024) e in
    let p = and_parts (in_columns c) (in_marks c m) q.0 in
    begun_back c m n [] (c ∷ m ∷ n ∷ []) p.0 p.1 (leb-true n 1024 q.1) refl
head_back (c ∷ m ∷ n ∷ x ∷ r) e = let z : ◌≡◌ {A = ℕ} 0 1 = cc in absurd (omega arith)

ok_head : List (List ℕ) → List ℕ → Bool
ok_head hs row = heading (flat hs ++ row)

ok_row : List (List ℕ) → List ℕ → Bool
ok_row acc row = ascending (acc ++ row ∷ [])

ok_rows : (acc rows : List (List ℕ)) → ascending (acc ++ rows) ≡ true → OkFrom ok_row acc rows
unfolding ok_row
ok_rows acc [] f = tt
ok_rows acc (r ∷ rows) f =
    let g : ascending ((acc ++ r ∷ []) ++ rows) ≡ true = rw (append_assoc acc (r ∷ []) rows) f in
    (ascending_front (acc ++ r ∷ []) rows g, ok_rows (acc ++ r ∷ []) rows g)

row_falls : (rows : List (List ℕ)) (row : List ℕ) → ascending (rows ++ row ∷ []) ≡ false → ok_row rows row ≡ false
unfolding ok_row
row_falls rows row z = z

finish : List Mark → List (List ℕ) → List ℕ → ℕ → Out
finish ms rows [] p = Ok (ms, rows)
finish ms rows (x ∷ xs) p = Err (placed BytesLeftOver p)

table : List Mark → ℕ → List ℕ → ℕ → Out
table ms n xs p = items (length ms) ok_row RowsNotAscending n [] xs p (finish ms)

body : List ℕ → List ℕ → ℕ → Out
body [] xs p = Err (placed NumberForm p)
body (c ∷ []) xs p = Err (placed NumberForm p)
body (c ∷ m ∷ []) xs p = Err (placed NumberForm p)
body (c ∷ m ∷ n ∷ []) xs p = table (marks_of c m) n xs p
body (c ∷ m ∷ n ∷ x ∷ r) xs p = Err (placed NumberForm p)

bodies : List (List ℕ) → List ℕ → ℕ → Out
bodies hs xs p = body (flat hs) xs p

outcome : List ℕ → Out
outcome bytes = items 1 ok_head HeaderRange 3 [] bytes 0 bodies

-- the header, a number at a time
singles : List ℕ → List (List ℕ)
singles [] = []
singles (n ∷ ns) = (n ∷ []) ∷ singles ns

flat_singles : (ns : List ℕ) → flat (singles ns) ≡ ns
unfolding singles
flat_singles [] = refl
flat_singles (n ∷ ns) = ap (λ (t : List ℕ). n ∷ t) (flat_singles ns)

length_singles : (ns : List ℕ) → length (singles ns) ≡ length ns
unfolding singles
length_singles [] = refl
length_singles (n ∷ ns) = ap suc (length_singles ns)

abbrev single : List Mark
single = Free ∷ []

whole_singles : (ns : List ℕ) → all_values ns ≡ true → all_whole single (singles ns) ≡ true
unfolding singles
whole_singles [] s = refl
whole_singles (n ∷ ns) s =
    let t = and_parts (ltb n (2 ^ 32)) (all_values ns) s in
    and_from (whole single (n ∷ [])) (all_whole single (singles ns)) (values_one n (ltb-true n (2 ^ 32) t.0)) (whole_singles ns t.1)

begun_front : (xs ys : List ℕ) → Begun (xs ++ ys) → Begun xs
begun_front xs ys b = record { marks = b.marks; count = b.count; rest = ys ++ b.rest; header = b.header; numbers_are = b.numbers_are ∙ append_assoc xs ys b.rest }

ok_singles : (acc : List (List ℕ)) (ns : List ℕ) → Begun (flat acc ++ ns) → OkFrom ok_head acc (singles ns)
unfolding singles ok_head
ok_singles acc [] b = tt
ok_singles acc (n ∷ ns) b =
    let g : Begun ((flat acc ++ n ∷ []) ++ ns) = rw (append_assoc (flat acc) (n ∷ []) ns) b in
    (head_true (flat acc ++ n ∷ []) (begun_front (flat acc ++ n ∷ []) ns g), ok_singles (acc ++ (n ∷ []) ∷ []) ns (rw (flat_push acc (n ∷ [])) g))

run_head : (bytes ns rest : List ℕ) (n : ℕ) → 3 ≡ length ns + n → all_values ns ≡ true → Begun ns → bytes ≡ encodes ns ++ rest → outcome bytes ≡ items 1 ok_head HeaderRange n (singles ns) rest (length (encodes ns)) bodies
unfolding outcome
run_head bytes ns rest n e s h b =
    let l : 3 ≡ length (singles ns) + n = rw (length_singles ns) e in
    let r = run_items single ok_head HeaderRange bodies 3 n (singles ns) [] rest 0 l (whole_singles ns s) (ok_singles [] ns h) in
    rw b (rw (flat_singles ns, zero-add (length (encodes ns))) at r)

not_head : (ns : List ℕ) (n : ℕ) → (Begun (ns ++ n ∷ []) → ⊥) → ok_head (singles ns) (n ∷ []) ≡ false
unfolding ok_head
not_head ns n z = rw (flat_singles ns) (false_from_ne_true (heading (ns ++ n ∷ [])) (λ t. z (head_back (ns ++ n ∷ []) t)))

run_front : {bytes : List ℕ} {ms : List Mark} {n p : ℕ} {rows : List (List ℕ)} (k : ℕ) → n ≡ length rows + k → Front bytes ms n rows p → outcome bytes ≡ items (length ms) ok_row RowsNotAscending k rows (drop p bytes) p (finish ms)
unfolding items bodies body singles table
run_front {bytes} {ms} {n} {p} {rows} k e f =
    let hs : List ℕ = header_numbers ms n in
    let s : all_values hs ≡ true = (values_split hs (flat rows) f.reads.small).0 in
    let b : bytes ≡ encodes hs ++ (encodes (flat rows) ++ drop p bytes) = f.reads.bytes_are ∙ rw (encodes-++ hs (flat rows)) (append_assoc (encodes hs) (encodes (flat rows)) (drop p bytes)) in
    let q : length (encodes hs) + length (encodes (flat rows)) ≡ p = sym (f.reads.place ∙ rw (encodes-++ hs (flat rows), length-append (encodes hs) (encodes (flat rows))) (zero-add _)) in
    let r = run_items ms ok_row RowsNotAscending (finish ms) n k rows [] (drop p bytes) (length (encodes hs)) e f.rows_whole (ok_rows [] rows f.ascends) in
    let t : table (marks_of (length ms) (bits ms)) n (encodes (flat rows) ++ drop p bytes) (length (encodes hs)) ≡ table ms n (encodes (flat rows) ++ drop p bytes) (length (encodes hs)) = ap (λ (x : List Mark). table x n (encodes (flat rows) ++ drop p bytes) (length (encodes hs))) (marks_back ms) in
    run_head bytes hs (encodes (flat rows) ++ drop p bytes) 0 (omega arith) s (begun_count f.header) b ∙ t ∙ (rw q at r)

some_left : (ms : List Mark) (rows : List (List ℕ)) (xs : List ℕ) (p : ℕ) → 0 < length xs → finish ms rows xs p ≡ Err (placed BytesLeftOver p)
unfolding finish
some_left ms rows [] p h = absurd (omega arith)
some_left ms rows (x ∷ xs) p h = refl

nothing_left : (ms : List Mark) (rows : List (List ℕ)) (xs : List ℕ) (p : ℕ) → length xs ≤ 0 → finish ms rows xs p ≡ Ok (ms, rows)
unfolding finish
nothing_left ms rows [] p h = refl
nothing_left ms rows (x ∷ xs) p h = absurd (omega arith)

pub bytes_drop : (bytes : List ℕ) (p : ℕ) → Bytes bytes → Bytes (drop p bytes)
bytes_drop bytes p b i = rw (get_or-drop p bytes i 0) (b (p + i))

-- what a file that ends well holds
ends : {bytes : List ℕ} {ms : List Mark} {p : ℕ} {rows : List (List ℕ)} → Front bytes ms (length rows) rows p → length bytes ≤ p → outcome bytes ≡ Ok (ms, rows)
unfolding items
ends {bytes} {ms} {p} {rows} f h =
    run_front 0 (omega arith) f ∙ nothing_left ms rows (drop p bytes) p (rw (length-drop p bytes) (omega arith))

place_of : List Mark × List (List ℕ) → ℕ → ℕ
place_of x i = length (encodes (numbers x.0 (length x.1) (take i x.1)))

-- how bytes are refused: by the way they are read, or by a crowd of rows
data Told (bytes : List ℕ) (fault : Fault) : Type 0 where
  by_reading : outcome bytes ≡ Err fault → Told bytes fault
  by_crowd : (x : List Mark × List (List ℕ)) (i : ℕ) → outcome bytes ≡ Ok x → Crowded x.0 x.1 i → fault ≡ placed TooManyMatches (place_of x i) → Told bytes fault

told : (bytes : List ℕ) {fault : Fault} → Bytes bytes → Refuses bytes fault → Told bytes fault
unfolding items nums one place_of
told bytes b (header_cut {ns} {p} r h l z) =
    let e : 3 ≡ length ns + suc (2 - length ns) = omega arith in
    let q : p ≡ length (encodes ns) = r.place ∙ zero-add _ in
    let o : groups 5 (drop p bytes) ≡ None = none_read (drop p bytes) (bytes_drop bytes p b) z in
    by_reading (run_head bytes ns (drop p bytes) (suc (2 - length ns)) e r.small h r.bytes_are ∙ rw (← q, o) refl)
told bytes b (header_range {ns} {p} {n} {k} r h l v z) =
    let e : 3 ≡ length ns + suc (2 - length ns) = omega arith in
    let q : p ≡ length (encodes ns) = r.place ∙ zero-add _ in
    let u : drop p bytes ≡ encodes (n ∷ []) ++ drop (p + k) bytes = rw (encodes_one n) (number_bytes v) in
    let o : ok_head (singles ns) (n ∷ []) ≡ false = not_head ns n z in
    by_reading (run_head bytes ns (drop p bytes) (suc (2 - length ns)) e r.small h r.bytes_are ∙ rw (← q, u) (bad_item single ok_head HeaderRange bodies (2 - length ns) (singles ns) (n ∷ []) (drop (p + k) bytes) p refl (values_one n v.small) o))
told bytes b (row_cut {marks = ms} {count = n} {p} {q} {rows} f l x) =
    let e : n ≡ length rows + suc (n - length rows - 1) = omega arith in
    let o : groups 5 (drop q bytes) ≡ None = none_read (drop q bytes) (bytes_drop bytes q b) x.none in
    by_reading (run_front (suc (n - length rows - 1)) e f ∙ rw x.reads.bytes_are (cut_item ms ok_row RowsNotAscending (finish ms) (n - length rows - 1) rows x.ns (drop q bytes) p x.fewer x.reads.small o) ∙ ap (λ (y : ℕ). Err (placed NumberForm y)) (sym x.reads.place))
told bytes b (row_order {marks = ms} {count = n} {p} {q} {rows} {row} f l r w z) =
    let e : n ≡ length rows + suc (n - length rows - 1) = omega arith in
    by_reading (run_front (suc (n - length rows - 1)) e f ∙ rw r.bytes_are (bad_item ms ok_row RowsNotAscending (finish ms) (n - length rows - 1) rows row (drop q bytes) p w r.small (row_falls rows row z)))
told bytes b (left_over {marks = ms} {p} {rows} f h) = by_reading (run_front 0 (omega arith) f ∙ some_left ms rows (drop p bytes) p (rw (length-drop p bytes) (omega arith)))
told bytes b (crowded {marks = ms} {i} {p} {rows} f w r) = by_crowd (ms, rows) i (ends f (omega arith)) w (ap (placed TooManyMatches) (r.place ∙ zero-add _))

-- a file's contents are read back
values_flat : (ms : List Mark) (rows : List (List ℕ)) → all_whole ms rows ≡ true → all_values (flat rows) ≡ true
values_flat ms [] w = refl
values_flat ms (r ∷ rows) w =
    let h = and_parts (whole ms r) (all_whole ms rows) w in
    values-++ r (flat rows) (and_parts (eqb (length r) (length ms)) (all_values r) h.0).1 (values_flat ms rows h.1)

values_head : {ms : List Mark} {n : ℕ} → Header ms n → all_values (header_numbers ms n) ≡ true
values_head {ms} {n} h =
    values-++ (length ms ∷ []) (bits ms ∷ n ∷ []) (values_one (length ms) (omega (arith, h.four_columns)))
    (values-++ (bits ms ∷ []) (n ∷ []) (values_one (bits ms) (omega (arith, bits_few ms h.four_columns))) (values_one n (omega (arith, h.few_rows))))

fronts : {bytes : List ℕ} {ms : List Mark} {rows : List (List ℕ)} → FileOf bytes ms rows → Front bytes ms (length rows) rows (length bytes)
fronts {bytes} {ms} {rows} h =
    record {
      header = h.storable.header;
      rows_whole = h.storable.rows_whole;
      ascends = h.storable.ascends;
      most = omega arith;
      reads = record {
        small = values-++ (header_numbers ms (length rows)) (flat rows) (values_head h.storable.header) (values_flat ms rows h.storable.rows_whole);
        bytes_are = rw (drop_all (length bytes) bytes (omega arith), append-nil (encodes (numbers ms (length rows) rows))) h.bytes_are;
        place = ap length h.bytes_are ∙ sym (zero-add _);
        inside = omega arith;
      };
    }

file_read : {bytes : List ℕ} {ms : List Mark} {rows : List (List ℕ)} → FileOf bytes ms rows → outcome bytes ≡ Ok (ms, rows)
file_read h = ends (fronts h) (omega arith)

-- the theorems
pub one_content : OneContent
one_content bytes ms ms' rows rows' g h =
    let e : ◌≡◌ {A = Out} (Ok (ms, rows)) (Ok (ms', rows')) = sym (file_read g) ∙ file_read h in
    let a : ◌≡◌ {A = List Mark × List (List ℕ)} (ms, rows) (ms', rows') = cc in
    (ap (λ (x : List Mark × List (List ℕ)). x.0) a, ap (λ (x : List Mark × List (List ℕ)). x.1) a)

never : {bytes : List ℕ} {ms : List Mark} {rows : List (List ℕ)} {fault : Fault} → FileOf bytes ms rows → Told bytes fault → ⊥
never {bytes} {ms} {rows} {fault} h (by_reading e) =
    let t : ◌≡◌ {A = Out} (Ok (ms, rows)) (Err fault) = sym (file_read h) ∙ e in
    let z : ◌≡◌ {A = ℕ} 0 1 = cc in omega arith
never {bytes} {ms} {rows} {fault} h (by_crowd x i e w y) =
    let t : ◌≡◌ {A = Out} (Ok x) (Ok (ms, rows)) = sym e ∙ file_read h in
    let a : x ≡ (ms, rows) = cc in
    let v : Crowded ms rows i = subst (λ (x : List Mark × List (List ℕ)). Crowded x.0 x.1 i) a w in
    omega (arith, crowd_matches ms rows i v.inside v.many, h.storable.few_match (picked ms (get_or rows i [])))

same_place : (ms : List Mark) (rows : List (List ℕ)) (i j : ℕ) → Crowded ms rows i → Crowded ms rows j → i ≡ j
same_place ms rows i j p q =
    elim (cases_order i j) [
      | inl e ↦ e
      | inr s ↦ absurd (elim s [ inl l ↦ omega (arith, q.first i l, p.many) | inr l ↦ omega (arith, p.first j l, q.many) ])
    ]

one_told : {bytes : List ℕ} {f g : Fault} → Told bytes f → Told bytes g → f ≡ g
one_told {bytes} {f} {g} (by_reading e) (by_reading d) =
    let t : ◌≡◌ {A = Out} (Err f) (Err g) = sym e ∙ d in cc
one_told {bytes} {f} {g} (by_reading e) (by_crowd x i d w y) =
    let t : ◌≡◌ {A = Out} (Err f) (Ok x) = sym e ∙ d in
    let z : ◌≡◌ {A = ℕ} 0 1 = cc in absurd (omega arith)
one_told {bytes} {f} {g} (by_crowd x i d w y) (by_reading e) =
    let t : ◌≡◌ {A = Out} (Err g) (Ok x) = sym e ∙ d in
    let z : ◌≡◌ {A = ℕ} 0 1 = cc in absurd (omega arith)
one_told {bytes} {f} {g} (by_crowd x i d w y) (by_crowd x' i' d' w' y') =
    let t : ◌≡◌ {A = Out} (Ok x) (Ok x') = sym d ∙ d' in
    let a : x' ≡ x = cc in
    let v : Crowded x.0 x.1 i' = subst (λ (x : List Mark × List (List ℕ)). Crowded x.0 x.1 i') a w' in
    let s : i ≡ i' = same_place x.0 x.1 i i' w v in
    y ∙ ap (λ (j : ℕ). placed TooManyMatches (place_of x j)) s ∙ ap (λ (x : List Mark × List (List ℕ)). placed TooManyMatches (place_of x i')) (sym a) ∙ sym y'

pub one_fault : OneFault
one_fault bytes f g b r s = one_told (told bytes b r) (told bytes b s)

pub file_not_refused : (bytes : List ℕ) (ms : List Mark) (rows : List (List ℕ)) (fault : Fault) → Bytes bytes → FileOf bytes ms rows → Refuses bytes fault → ⊥
file_not_refused bytes ms rows fault b h r = never h (told bytes b r)

-- the bytes of a file are bytes
bytes-++ : (xs ys : List ℕ) → Bytes xs → Bytes ys → Bytes (xs ++ ys)
bytes-++ [] ys p q i = q i
bytes-++ (x ∷ xs) ys p q zero = p 0
bytes-++ (x ∷ xs) ys p q (suc i) = bytes-++ xs ys (λ j. p (suc j)) q i

encodes_bytes : (ns : List ℕ) → all_values ns ≡ true → Bytes (encodes ns)
unfolding encodes
encodes_bytes [] s i = omega arith
encodes_bytes (n ∷ ns) s i =
    let t = and_parts (ltb n (2 ^ 32)) (all_values ns) s in
    bytes-++ (encode n) (encodes ns) (form_bytes (encode_form n (ltb-true n (2 ^ 32) t.0))) (encodes_bytes ns t.1) i

pub not_both : NotBoth
not_both bytes ms rows fault h r =
    file_not_refused bytes ms rows fault (λ i. rw h.bytes_are (encodes_bytes (numbers ms (length rows) rows) (fronts h).reads.small i)) h r
