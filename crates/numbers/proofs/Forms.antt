-- Forms of numbers: bytes begin with one at most.
use Rattle.std.proofs.Common.{◌≡◌, ℕ, suc, ◌+◌, ◌*◌, ◌/◌, ◌%◌, ◌^◌, ◌<◌, ◌≤◌, List, [], ◌∷◌, ◌++◌, length, take, drop, Some, None, sym, refl, ap, ◌∙◌, arith, take-append-drop}
use Rattle.std.proofs.lemmas.List.{append_cancel_left}
use Rattle.numbers.specs.Forms.{Form}
use Rattle.numbers.specs.Forms.Form.{last, more}
use Rattle.numbers.specs.Reading.{Groups}

pub some_byte : {n : ℕ} {form : List ℕ} → Form n form → 1 ≤ length form
some_byte (last h) = omega arith
some_byte (more h f) = omega arith

pub one_form : {n m : ℕ} {form form' : List ℕ} → n ≡ m → Form n form → Form m form' → form ≡ form'
one_form e (last {n} h) (last {n = m} k) = ap (λ (x : ℕ). x ∷ []) e
one_form e (last {n} h) (more {n = m} k g) = absurd (omega arith)
one_form e (more {n} h f) (last {n = m} k) = absurd (omega arith)
one_form e (more {n} {rest = t} h f) (more {n = m} {rest = u} k g) =
    let tails : t ≡ u = one_form (ap (λ (x : ℕ). x / 128) e) f g in
    cc

same_start : {n m : ℕ} {form form' : List ℕ} (rest rest' : List ℕ) → Form n form → Form m form' → form ++ rest ≡ form' ++ rest' → n ≡ m
same_start rest rest' (last {n} h) (last {n = m} k) e = let i : n ∷ rest ≡ m ∷ rest' = e in cc
same_start rest rest' (last {n} h) (more {n = m} {rest = u} k g) e =
    let i : n ∷ rest ≡ (128 + m % 128) ∷ (u ++ rest') = e in
    let j : n ≡ 128 + m % 128 = cc in
    absurd (omega arith)
same_start rest rest' (more {n} {rest = t} h f) (last {n = m} k) e =
    let i : (128 + n % 128) ∷ (t ++ rest) ≡ m ∷ rest' = e in
    let j : 128 + n % 128 ≡ m = cc in
    absurd (omega arith)
same_start rest rest' (more {n} {rest = t} h f) (more {n = m} {rest = u} k g) e =
    let i : (128 + n % 128) ∷ (t ++ rest) ≡ (128 + m % 128) ∷ (u ++ rest') = e in
    let j : 128 + n % 128 ≡ 128 + m % 128 = cc in
    let tails : t ++ rest ≡ u ++ rest' = cc in
    let d : n / 128 ≡ m / 128 = same_start rest rest' f g tails in
    omega arith

pub one_reading : (n m : ℕ) (form form' rest rest' : List ℕ) → Form n form → Form m form' → form ++ rest ≡ form' ++ rest' → (n ≡ m) × (form ≡ form') × (rest ≡ rest')
one_reading n m form form' rest rest' f g e =
    let i : n ≡ m = same_start rest rest' f g e in
    let j : form ≡ form' = one_form i f g in
    (i, j, append_cancel_left form rest rest' (e ∙ ap (λ (x : List ℕ). x ++ rest') (sym j)))

-- a number whose form begins with a byte that another group follows
pub record Longer (n x : ℕ) (ys form rest : List ℕ) : Type 0 where
  pub tail : List ℕ
  pub big : 128 ≤ n
  pub first : x ≡ 128 + n % 128
  pub behind : Form (n / 128) tail
  pub bytes_are : ys ≡ tail ++ rest
  pub long : length form ≡ suc (length tail)

pub longer : {n : ℕ} {form : List ℕ} (x : ℕ) (ys rest : List ℕ) → 128 ≤ x → Form n form → x ∷ ys ≡ form ++ rest → Longer n x ys form rest
longer x ys rest l (last {n} h) e =
    let i : x ∷ ys ≡ n ∷ rest = e in
    let j : x ≡ n = cc in
    absurd (omega arith)
longer x ys rest l (more {n} {rest = t} h f) e =
    let i : x ∷ ys ≡ (128 + n % 128) ∷ (t ++ rest) = e in
    record { tail = t; big = h; first = cc; behind = f; bytes_are = cc; long = refl }

-- the steps of a reader
pub last_group : (most x : ℕ) (xs : List ℕ) → 1 ≤ most → x < 128 → Groups most (x ∷ xs) (Some (x, 1))
last_group most x xs z h = (omega arith, omega arith, omega arith, last h)

module _ (most x : ℕ) (xs : List ℕ) (follows : 128 ≤ x) where
  none_more : ((n : ℕ) (form rest : List ℕ) → n < 2 ^ 32 → 128 ≤ n → length form ≤ most → Form (n / 128) form → xs ≡ form ++ rest → ⊥) → Groups (most + 1) (x ∷ xs) None
  none_more never n form rest s few f e =
      let g = longer x xs rest follows f e in
      never n g.tail rest s g.big (omega (arith, g.long)) g.behind g.bytes_are

  -- the number behind the first group is this one
  behind_is : (m v k : ℕ) (form rest : List ℕ) → k ≤ length xs → Form v (take k xs) → Form m form → xs ≡ form ++ rest → m ≡ v
  behind_is m v k form rest l f g e = same_start rest (drop k xs) g f (sym e ∙ sym (take-append-drop k xs))

  pub not_shortest : (v k : ℕ) → v ≡ 0 → Groups most xs (Some (v, k)) → Groups (most + 1) (x ∷ xs) None
  not_shortest v k z g = none_more (λ n form rest s b few f e. omega (arith, behind_is (n / 128) v k form rest g.2 g.3 f e))

  pub too_large : (v k : ℕ) → 2 ^ 32 ≤ v * 128 → Groups most xs (Some (v, k)) → Groups (most + 1) (x ∷ xs) None
  too_large v k z g = none_more (λ n form rest s b few f e. omega (arith, behind_is (n / 128) v k form rest g.2 g.3 f e))

  pub one_more : (v k : ℕ) → x < 256 → (v ≡ 0 → ⊥) → v * 128 < 2 ^ 32 → Groups most xs (Some (v, k)) → Groups (most + 1) (x ∷ xs) (Some (x % 128 + v * 128, k + 1))
  one_more v k b nz s g =
      let n : ℕ = x % 128 + v * 128 in
      let big : 128 ≤ n = omega arith in
      let d : n / 128 ≡ v = omega arith in
      let first : 128 + n % 128 ≡ x = omega arith in
      let k1 : k + 1 ≡ suc k = omega arith in
      let f : Form n ((128 + n % 128) ∷ take k xs) = more big (rw d g.3) in
      let f' : Form n (x ∷ take k xs) = rw first at f in
      (omega arith, omega (arith, g.1), omega (arith, g.2), rw k1 f')
