-- What stands in the memory after an answer was put at a place.
use Rattle.std.proofs.Common.{◌≡◌, ℕ, zero, suc, ◌+◌, ◌-◌, ◌*◌, ◌≤◌, List, [], ◌∷◌, ◌++◌, length, take, drop, sym, refl, ap, ◌∙◌, append_assoc, zero-add, mul-suc, arith, length-drop, take-append-drop}
use lib.Seq.{paste}
use Rattle.std.proofs.lemmas.List.Edits.{drop-paste, length-paste}
use Rattle.std.proofs.lemmas.Slice.{drop-put_mid}
use Rattle.std.proofs.lemmas.List.{take_at, drop_at, drop-drop, take-take, take-append-le, drop-append-le, length-take-le}
use borrow.Rule.Slice.PartMut.{put_mid}
use Rattle.std.specs.List.{insert}
use Rattle.source.specs.Rows.{rows_in}
use Rattle.source.proofs.Chunks.{length_rows_in}
use Rattle.listing.specs.Answers.{answers}

-- what a move by four and a write at the gap leave
moved : (m now ys answer : List ℕ) (a e : ℕ) → a ≤ e → e + 4 ≤ length m → now ≡ paste m (a + 4) (drop a m) (e - a) → ys ≡ answer → put_mid a (a + 4 - a) now ys ≡ take a m ++ (answer ++ (take (e - a) (drop a m) ++ drop (e + 4) m))
moved m now ys answer a e le room is same =
    let mid : List ℕ = take (e - a) (drop a m) in
    let tail : List ℕ = drop (a + 4 + (e - a)) m in
    let front : List ℕ = take (a + 4) m in
    let lf : length front ≡ a + 4 = length-take-le (a + 4) m (omega arith) in
    let now_is : now ≡ front ++ (mid ++ tail) = is ∙ append_assoc front mid tail in
    let first : take a now ≡ take a m = ap (take a) now_is ∙ (take-append-le a front (mid ++ tail) (omega arith) ∙ take-take a (a + 4) m (omega arith)) in
    let n : a + (a + 4 - a) ≡ a + 4 = omega arith in
    let rest : drop (a + 4 - a) (drop a now) ≡ mid ++ tail = drop-drop (a + 4 - a) a now ∙ (ap (λ (k : ℕ). drop k now) n ∙ (ap (drop (a + 4)) now_is ∙ drop_at front (mid ++ tail) (a + 4) lf)) in
    let end : a + 4 + (e - a) ≡ e + 4 = omega arith in
    ap (λ (l : List ℕ). l ++ (ys ++ drop (a + 4 - a) (drop a now))) first
    ∙ (ap (λ (l : List ℕ). take a m ++ (l ++ drop (a + 4 - a) (drop a now))) same
    ∙ (ap (λ (l : List ℕ). take a m ++ (answer ++ l)) rest
    ∙ ap (λ (k : ℕ). take a m ++ (answer ++ (mid ++ drop k m))) end))

-- rows whose values stand behind those of others
rows_behind : (columns first rest : ℕ) (front back : List ℕ) → length front ≡ columns * first → rows_in columns (first + rest) (front ++ back) ≡ rows_in columns first front ++ rows_in columns rest back
rows_behind columns zero rest [] back long = rw zero-add refl
rows_behind columns zero rest (v ∷ front) back long = absurd (omega arith)
rows_behind columns (suc first) rest front back long =
    let next : suc first + rest ≡ suc (first + rest) = omega arith in
    let fits : columns ≤ length front = omega (arith, mul-suc columns first) in
    rw (next, take-append-le columns front back fits, drop-append-le columns front back fits) (ap (λ (rows : List (List ℕ)). take columns front ∷ rows) (rows_behind columns first rest (drop columns front) back (omega (arith, mul-suc columns first, length-drop columns front))))

-- rows are the same whatever stands behind their values
rows_same : (columns count : ℕ) (front back other : List ℕ) → length front ≡ columns * count → rows_in columns count (front ++ back) ≡ rows_in columns count (front ++ other)
rows_same columns count front back other long =
    let none : count + 0 ≡ count = omega arith in
    ap (λ (n : ℕ). rows_in columns n (front ++ back)) (sym none) ∙ (rows_behind columns count 0 front back long ∙ (sym (rows_behind columns count 0 front other long) ∙ ap (λ (n : ℕ). rows_in columns n (front ++ other)) none))

-- the memory with an answer put at a place before the last ones
abbrev with_answer : List ℕ → ℕ → ℕ → List ℕ → List ℕ
with_answer m count place answer = take (4 * place) m ++ (answer ++ (take (4 * count - 4 * place) (drop (4 * place) m) ++ drop (4 * count + 4) m))

answers_with : (place count : ℕ) (m answer : List ℕ) → length answer ≡ 4 → place ≤ count → 4 * count + 4 ≤ length m → answers (suc count) (with_answer m count place answer) ≡ insert (answers count m) place answer
answers_with place count m answer four le room =
    let rest : ℕ = count - place in
    let front : List ℕ = take (4 * place) m in
    let back : List ℕ = drop (4 * place) m in
    let mid : List ℕ = take (4 * count - 4 * place) back in
    let tail : List ℕ = drop (4 * count + 4) m in
    let all : count ≡ place + rest = omega arith in
    let more : suc count ≡ place + suc rest = omega arith in
    let lf : length front ≡ 4 * place = length-take-le (4 * place) m (omega arith) in
    let n : 4 * count - 4 * place ≡ 4 * rest = omega arith in
    let lm : length mid ≡ 4 * rest = length-take-le (4 * count - 4 * place) back (omega (arith, length-drop (4 * place) m)) ∙ n in
    let rows : answers count m ≡ answers place front ++ answers rest back =
    ap (answers count) (sym (take-append-drop (4 * place) m)) ∙ (ap (λ (k : ℕ). answers k (front ++ back)) all ∙ rows_behind 4 place rest front back lf) in
    let others : answers rest (mid ++ tail) ≡ answers rest back = rows_same 4 rest mid tail (drop (4 * count - 4 * place) back) lm ∙ ap (answers rest) (take-append-drop (4 * count - 4 * place) back) in
    let behind : answers (suc rest) (answer ++ (mid ++ tail)) ≡ answer ∷ answers rest back = rw (take_at answer (mid ++ tail) 4 four, drop_at answer (mid ++ tail) 4 four, others) refl in
    let long = length_rows_in 4 place front in
    let split : insert (answers count m) place answer ≡ answers place front ++ answer ∷ answers rest back = rw (rows, take_at (answers place front) (answers rest back) place long, drop_at (answers place front) (answers rest back) place long) refl in
    ap (λ (k : ℕ). answers k (with_answer m count place answer)) more ∙ (rows_behind 4 place (suc rest) front (answer ++ (mid ++ tail)) lf ∙ (ap (λ (z : List (List ℕ)). answers place front ++ z) behind ∙ sym split))

module _ (m now ys answer : List ℕ) (count place : ℕ) (le : place ≤ count) (room : 4 * count + 4 ≤ length m) (four : length answer ≡ 4) (is : now ≡ paste m (4 * place + 4) (drop (4 * place) m) (4 * count - 4 * place)) (same : ys ≡ answer) where
  -- what the memory is left as
  abbrev left : List ℕ
  left = put_mid (4 * place) (4 * place + 4 - 4 * place) now ys

  left_is : left ≡ with_answer m count place answer
  left_is = moved m now ys answer (4 * place) (4 * count) (omega arith) room is same

  pub put_answers : answers (count + 1) left ≡ insert (answers count m) place answer
  put_answers =
      let one : count + 1 ≡ suc count = omega arith in
      ap (λ (n : ℕ). answers n left) one ∙ (ap (answers (suc count)) left_is ∙ answers_with place count m answer four le room)

  -- the numbers behind the answers stay
  pub put_behind : drop (4 * (count + 1)) left ≡ drop (4 * (count + 1)) m
  put_behind =
      let moved_on : length (drop (4 * place) m) ≡ length m - 4 * place = length-drop (4 * place) m in
      let long : length now ≡ length m = ap length is ∙ length-paste m (4 * place + 4) (drop (4 * place) m) (4 * count - 4 * place) (omega arith) (omega arith) in
      let end : 4 * (count + 1) ≡ 4 * place + 4 + (4 * count - 4 * place) = omega arith in
      drop-put_mid (4 * place) (4 * place + 4 - 4 * place) now ys (4 * (count + 1)) (omega arith) (omega arith) (ap length same ∙ (four ∙ omega arith))
      ∙ (ap (drop (4 * (count + 1))) is ∙ rw end (drop-paste m (4 * place + 4) (drop (4 * place) m) (4 * count - 4 * place) (omega arith) (omega arith)))
