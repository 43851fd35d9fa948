-- The form of a number, worked out.
use Rattle.std.proofs.Common.{◌≡◌, ℕ, zero, suc, ◌+◌, ◌/◌, ◌%◌, ◌^◌, ◌<◌, ◌≤◌, List, [], ◌∷◌, ◌++◌, length, take, drop, Some, None, Option, sym, refl, ap, ◌∙◌, inl, inr, append_assoc, append-nil, pow-suc, arith, length-append, length-drop, take-append-drop, le-ltb, lt-ltb}
use Rattle.std.proofs.lemmas.List.{length-take-le, drop-drop, take_at}
use Rattle.std.proofs.lemmas.Bool.{cases_lt}
use Rattle.numbers.specs.Forms.{Form, Number, encode_in, encode, encodes}
use Rattle.numbers.specs.Forms.Form.{last, more}
use Rattle.numbers.specs.Reading.{Groups, Stands}
use Rattle.numbers.proofs.Forms.{one_form, some_byte}

pub encode_last : (m x : ℕ) → x < 128 → encode_in m x ≡ x ∷ []
unfolding encode_in
encode_last zero x h = refl
encode_last (suc m) x h = rw (lt-ltb x 128 h) refl

pub encode_more : (m n : ℕ) → 128 ≤ n → encode_in (suc m) n ≡ (128 + n % 128) ∷ encode_in m (n / 128)
unfolding encode_in
encode_more m n h = rw (le-ltb n 128 h) refl

form_in : (m n : ℕ) → n < 128 ^ (suc m) → Form n (encode_in m n)
form_in zero n h = let s : n < 128 = omega (arith, pow-suc 128 0) in rw (encode_last 0 n s) (last s)
form_in (suc m) n h = elim (cases_lt n 128) [
  | inl s ↦ rw (encode_last (suc m) n s) (last s)
  | inr s ↦ rw (encode_more m n s) (more s (form_in m (n / 128) (omega (arith, pow-suc 128 (suc m)))))
]

pub encode_form : (n : ℕ) → n < 2 ^ 32 → Form n (encode n)
encode_form n h = form_in 4 n (omega arith)

pub form_is : {n : ℕ} {form : List ℕ} → n < 2 ^ 32 → Form n form → form ≡ encode n
form_is {n} h f = one_form refl f (encode_form n h)

few_in : (m n : ℕ) → length (encode_in m n) ≤ suc m
unfolding encode_in
few_in zero n = omega arith
few_in (suc m) n = elim (cases_lt n 128) [ inl h ↦ rw (encode_last (suc m) n h) (omega arith) | inr h ↦ rw (encode_more m n h) (omega (arith, few_in m (n / 128))) ]

pub encode_few : (n : ℕ) → length (encode n) ≤ 5
encode_few n = few_in 4 n

-- the form of a number of several groups: the first group, and the form of the rest
pub encode_rest : (n : ℕ) → 128 ≤ n → n < 2 ^ 32 → encode n ≡ (128 + n % 128) ∷ encode (n / 128)
encode_rest n l h = one_form refl (encode_form n h) (more l (encode_form (n / 128) (omega arith)))

pub encode_long : (n : ℕ) → 128 ≤ n → n < 2 ^ 32 → length (encode n) ≡ suc (length (encode (n / 128)))
encode_long n l h = ap length (encode_rest n l h)

pub encode_one : (n : ℕ) → n < 128 → length (encode n) ≡ 1
encode_one n h = ap length (encode_last 4 n h)

-- numbers one after another
pub encodes-++ : (xs ys : List ℕ) → encodes (xs ++ ys) ≡ encodes xs ++ encodes ys
unfolding encodes
encodes-++ [] ys = refl
encodes-++ (a ∷ xs) ys = rw (encodes-++ xs ys) (sym (append_assoc (encode a) (encodes xs) (encodes ys)))

pub encodes_one : (n : ℕ) → encodes (n ∷ []) ≡ encode n
unfolding encodes
encodes_one n = append-nil (encode n)

-- a number that stands at a place, by the bytes
pub number_bytes : {bytes : List ℕ} {at value count : ℕ} → Number bytes at value count → drop at bytes ≡ encode value ++ drop (at + count) bytes
number_bytes {bytes} {at} {value} {count} h =
    sym (take-append-drop count (drop at bytes)) ∙ rw (form_is h.small h.form, drop-drop count at bytes) refl

pub number_long : {bytes : List ℕ} {at value count : ℕ} → Number bytes at value count → count ≡ length (encode value)
number_long {bytes} {at} {value} {count} h =
    let l : count ≤ length (drop at bytes) = omega (arith, h.inside, length-drop at bytes) in
    sym (length-take-le count (drop at bytes) l) ∙ ap length (form_is h.small h.form)

pub number_from : {bytes : List ℕ} (at value : ℕ) (rest : List ℕ) → value < 2 ^ 32 → at ≤ length bytes → drop at bytes ≡ encode value ++ rest → Number bytes at value (length (encode value))
number_from {bytes} at value rest s l e =
    record {
      small = s;
      inside = omega (arith, ap length e, length-append (encode value) rest, length-drop at bytes);
      form = rw (e, take_at (encode value) rest (length (encode value)) refl) (encode_form value s);
    }

-- behind the last byte stands no number
pub none_past : (bytes : List ℕ) (at : ℕ) → length bytes ≤ at → Stands bytes at None
none_past bytes at h n form rest s f e = omega (arith, some_byte f, ap length e, length-append form rest, length-drop at bytes)

-- what reading at most five groups finds
pub stands : (bytes : List ℕ) (at : ℕ) (r : Option (ℕ × ℕ)) → Groups 5 (drop at bytes) r → Stands bytes at r
stands bytes at None z = λ n form rest s f e. z n form rest s (omega (arith, encode_few n, ap length (form_is s f))) f e
stands bytes at (Some (v, k)) g =
    let l : length (take k (drop at bytes)) ≡ k = length-take-le k (drop at bytes) g.2 in
    record { small = g.0; inside = omega (arith, g.2, some_byte g.3, length-drop at bytes); form = g.3 }
