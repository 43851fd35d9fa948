-- Which number bytes begin with, as a function.
use Rattle.std.proofs.Common.{◌≡◌, ℕ, zero, suc, ◌+◌, ◌*◌, ◌/◌, ◌%◌, ◌^◌, ◌<◌, ◌≤◌, Bool, true, false, cond, eqb, ltb, leb, ◌⊎◌, List, [], ◌∷◌, ◌++◌, length, get_or, drop, Some, None, Option, sym, refl, ap, ◌∙◌, inl, inr, pow-suc, add-one, arith, ltb-false, ltb-true, le-ltb, lt-ltb, ne_eqb, leb-false}
use borrow.Author.Tests.{lt-leb, eqb-false}
use Rattle.std.proofs.lemmas.Bool.{cases_lt}
use Rattle.numbers.specs.Forms.{Form, NoNumber, encode_in, encode}
use Rattle.numbers.specs.Forms.Form.{last, more}
use Rattle.numbers.proofs.Encoding.{encode_last, encode_more, encode_form, form_is}

abbrev pub Bytes : List ℕ → Type 0
Bytes xs = (i : ℕ) → get_or xs i 0 < 256

pub form_bytes : {n : ℕ} {form : List ℕ} → Form n form → Bytes form
form_bytes (last h) zero = omega arith
form_bytes (last h) (suc i) = omega arith
form_bytes (more {n} h f) zero = omega arith
form_bytes (more {n} h f) (suc i) = form_bytes f i

-- a group in front of what is read behind it
abbrev led : ℕ → Option (ℕ × ℕ) → Option (ℕ × ℕ)
led a (Some r) = cond (eqb r.0 0) None (cond (leb 33554432 r.0) None (Some (a + 128 * r.0, r.1 + 1)))
led a None = None

unfoldable pub groups : ℕ → List ℕ → Option (ℕ × ℕ)
groups zero xs = None
groups (suc m) [] = None
groups (suc m) (x ∷ xs) = cond (ltb x 128) (Some (x, 1)) (led (x % 128) (groups m xs))

led_some : (a v k : ℕ) → 0 < v → v < 33554432 → led a (Some (v, k)) ≡ Some (a + 128 * v, k + 1)
led_some a v k p q = let n : v ≡ 0 → ⊥ = λ e. omega arith in rw (ne_eqb v 0 n, lt-leb 33554432 v q) refl

-- what is written is read
back_more : (m v : ℕ) (rest : List ℕ) → v < 2 ^ 32 → 128 ≤ v → groups (suc m) (encode_in m (v / 128) ++ rest) ≡ Some (v / 128, length (encode_in m (v / 128))) → groups (suc (suc m)) (encode_in (suc m) v ++ rest) ≡ Some (v, length (encode_in (suc m) v))
unfolding groups
back_more m v rest h s ih =
    let p : 0 < v / 128 = omega arith in
    let q : v / 128 < 33554432 = omega arith in
    let z : 128 ≤ 128 + v % 128 = omega arith in
    let w : (128 + v % 128) % 128 + 128 * (v / 128) ≡ v = omega arith in
    rw (encode_more m v s, le-ltb (128 + v % 128) 128 z, ih, led_some ((128 + v % 128) % 128) (v / 128) (length (encode_in m (v / 128))) p q, w, add-one) refl

back_one : (m v : ℕ) (rest : List ℕ) → v < 128 → groups (suc m) (encode_in m v ++ rest) ≡ Some (v, length (encode_in m v))
unfolding groups
back_one m v rest s = rw (encode_last m v s, lt-ltb v 128 s) refl

back : (m v : ℕ) (rest : List ℕ) → v < 2 ^ 32 → v < 128 ^ (suc m) → groups (suc m) (encode_in m v ++ rest) ≡ Some (v, length (encode_in m v))
back zero v rest h l = back_one zero v rest (omega (arith, pow-suc 128 0))
back (suc m) v rest h l =
    elim (cases_lt v 128) [
      | inl s ↦ back_one (suc m) v rest s
      | inr s ↦ back_more m v rest h s (back m (v / 128) rest (omega arith) (omega (arith, pow-suc 128 (suc m))))
    ]

pub read_back : (v : ℕ) (rest : List ℕ) → v < 2 ^ 32 → groups 5 (encode v ++ rest) ≡ Some (v, length (encode v))
read_back v rest h = back 4 v rest h (omega arith)

-- what is read was written
abbrev Got : ℕ → List ℕ → Option (ℕ × ℕ) → Type 0
Got m xs (Some r) = (xs ≡ encode_in m r.0 ++ drop r.1 xs) × (r.0 < 2 ^ 32)
Got m xs None = Unit {0}

got_cond : (m : ℕ) (xs : List ℕ) (b : Bool) (x y : Option (ℕ × ℕ)) → (b ≡ true → Got m xs x) → (b ≡ false → Got m xs y) → Got m xs (cond b x y)
got_cond m xs true x y p q = p refl
got_cond m xs false x y p q = q refl

got_led : (m x : ℕ) (ys : List ℕ) (r : Option (ℕ × ℕ)) → 128 ≤ x → x < 256 → Got m ys r → Got (suc m) (x ∷ ys) (led (x % 128) r)
got_led m x ys None h l g = tt
got_led m x ys (Some r) h l g =
    got_cond (suc m) (x ∷ ys) (eqb r.0 0) None (cond (leb 33554432 r.0) None (Some (x % 128 + 128 * r.0, r.1 + 1))) (λ e. tt) (λ n.
    got_cond (suc m) (x ∷ ys) (leb 33554432 r.0) None (Some (x % 128 + 128 * r.0, r.1 + 1)) (λ e. tt) (λ s.
    let z : r.0 ≡ 0 → ⊥ = eqb-false r.0 0 n in
    let u : r.0 < 33554432 = leb-false 33554432 r.0 s in
    let big : 128 ≤ x % 128 + 128 * r.0 = omega arith in
    let d : (x % 128 + 128 * r.0) / 128 ≡ r.0 = omega arith in
    let k : 128 + (x % 128 + 128 * r.0) % 128 ≡ x = omega arith in
    let f : encode_in (suc m) (x % 128 + 128 * r.0) ≡ x ∷ encode_in m r.0 = rw (encode_more m (x % 128 + 128 * r.0) big, d, k) refl in
    (rw (f, add-one) (ap (λ (t : List ℕ). x ∷ t) g.0), omega arith)))

got_last : (m x : ℕ) (ys : List ℕ) → x < 128 → Got m (x ∷ ys) (Some (x, 1))
got_last m x ys h = (rw (encode_last m x h) refl, omega arith)

forth : (m : ℕ) (xs : List ℕ) → Bytes xs → Got m xs (groups (suc m) xs)
unfolding groups
forth m [] b = tt
forth zero (x ∷ ys) b = got_cond zero (x ∷ ys) (ltb x 128) (Some (x, 1)) None (λ e. got_last zero x ys (ltb-true x 128 e)) (λ e. tt)
forth (suc m) (x ∷ ys) b = got_cond (suc m) (x ∷ ys) (ltb x 128) (Some (x, 1)) (led (x % 128) (groups (suc m) ys)) (λ e. got_last (suc m) x ys (ltb-true x 128 e)) (λ e. got_led m x ys (groups (suc m) ys) (ltb-false x 128 e) (b 0) (forth m ys (λ i. b (suc i))))

none_of : (xs : List ℕ) (r : Option (ℕ × ℕ)) → r ≡ groups 5 xs → Bytes xs → NoNumber xs → r ≡ None
none_of xs None e b n = refl
none_of xs (Some r) e b n =
    let g = rw (← e) at (forth 4 xs b) in
    absurd (n r.0 (encode r.0) (drop r.1 xs) g.1 (encode_form r.0 g.1) g.0)

pub none_read : (xs : List ℕ) → Bytes xs → NoNumber xs → groups 5 xs ≡ None
none_read xs b n = none_of xs (groups 5 xs) refl b n

-- what is not read is no number
pub unread : (bytes : List ℕ) → groups 5 bytes ≡ None → NoNumber bytes
unread bytes z n form rest s f e = differ (sym z ∙ ap (groups 5) (e ∙ ap (λ (x : List ℕ). x ++ rest) (form_is s f)) ∙ read_back n rest s)
  where
    differ : {x : ℕ × ℕ} → None ≡ Some x → ⊥
    differ p = let z : ◌≡◌ {A = ℕ} 0 1 = cc in omega arith

decided_by : (xs : List ℕ) (r : Option (ℕ × ℕ)) → r ≡ groups 5 xs → Bytes xs → ((v : ℕ) × (rest : List ℕ) × (v < 2 ^ 32) × (xs ≡ encode v ++ rest)) ⊎ NoNumber xs
decided_by xs None e b = inr (unread xs (sym e))
decided_by xs (Some r) e b = let g = rw (← e) at (forth 4 xs b) in inl (r.0, drop r.1 xs, g.1, g.0)

pub decided : (xs : List ℕ) → Bytes xs → ((v : ℕ) × (rest : List ℕ) × (v < 2 ^ 32) × (xs ≡ encode v ++ rest)) ⊎ NoNumber xs
decided xs b = decided_by xs (groups 5 xs) refl b
