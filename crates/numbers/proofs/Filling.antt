-- Memory that is filled with bytes.
use Rattle.std.proofs.Common.{◌≡◌, ℕ, ◌+◌, ◌/◌, ◌%◌, ◌^◌, ◌<◌, ◌≤◌, List, [], ◌∷◌, ◌++◌, length, take, drop, sym, refl, ap, ◌∙◌, append_assoc, add-zero, add_assoc, arith, length-append, take-append-drop}
use Rattle.std.proofs.lemmas.List.{drop_at, drop-drop, length-take-le, take_at}
use Rattle.numbers.specs.Forms.{encode}
use Rattle.numbers.specs.Writing.{Filled}
use Rattle.numbers.proofs.Encoding.{encode_last, encode_rest}

pub filled_none : (b : List ℕ) (at : ℕ) → Filled b b at []
filled_none b at = record { is = rw (add-zero at) (sym (take-append-drop at b)) }

pub filled_join : (b m a : List ℕ) (at : ℕ) (xs ys : List ℕ) → at + length xs ≤ length b → Filled b m at xs → Filled m a (at + length xs) ys → Filled b a at (xs ++ ys)
filled_join b m a at xs ys h p q =
    let P : List ℕ = take at b ++ xs in
    let l : length P ≡ at + length xs = length-append (take at b) xs ∙ ap (λ (t : ℕ). t + length xs) (length-take-le at b (omega arith)) in
    let M : m ≡ P ++ drop (at + length xs) b = p.is ∙ sym (append_assoc (take at b) xs (drop (at + length xs) b)) in
    let T : take (at + length xs) m ≡ P = ap (take (at + length xs)) M ∙ take_at P (drop (at + length xs) b) (at + length xs) l in
    let D : drop (at + length xs) m ≡ drop (at + length xs) b = ap (drop (at + length xs)) M ∙ drop_at P (drop (at + length xs) b) (at + length xs) l in
    let E : drop (at + length xs + length ys) m ≡ drop (at + length xs + length ys) b = sym (drop-drop (length ys) (at + length xs) m) ∙ ap (drop (length ys)) D ∙ drop-drop (length ys) (at + length xs) b in
    record { is = q.is ∙ rw (T, E, length-append xs ys, ← add_assoc at (length xs) (length ys), append_assoc xs ys (drop (at + length xs + length ys) b)) (append_assoc (take at b) xs (ys ++ drop (at + length xs + length ys) b)) }

-- a number by its first byte and what is behind it
pub put_last : (b rest : List ℕ) (n x : ℕ) → b ≡ x ∷ rest → n < 128 → n ∷ rest ≡ encode n ++ drop (length (encode n)) b
put_last b rest n x f h = let e : encode n ≡ n ∷ [] = encode_last 4 n h in rw (e, f) refl

pub put_more : (b rest after : List ℕ) (n x : ℕ) → b ≡ x ∷ rest → 128 ≤ n → n < 2 ^ 32 → after ≡ encode (n / 128) ++ drop (length (encode (n / 128))) rest → (128 + n % 128) ∷ after ≡ encode n ++ drop (length (encode n)) b
put_more b rest after n x f l h e = rw (encode_rest n l h, f, e) refl
