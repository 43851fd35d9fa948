-- Numbers one after another in the bytes.
use Rattle.std.proofs.Common.{◌≡◌, ℕ, ◌+◌, ◌^◌, ◌<◌, ◌≤◌, true, ltb, List, [], ◌∷◌, ◌++◌, length, take, drop, set, sym, refl, ap, ◌∙◌, subst, append_assoc, zero-add, arith, length-append, lt-ltb}
use Rattle.std.proofs.lemmas.List.{take_more_set, drop_at}
use Rattle.std.proofs.lemmas.Bool.{and_parts, and_from}
use Rattle.source.specs.Rows.{all_values}
use Rattle.numbers.specs.Forms.{Number, encodes}
use Rattle.numbers.proofs.Encoding.{encodes-++, encodes_one, number_bytes, number_long}
use Rattle.files.specs.Refusing.{Reads}
use Rattle.files.proofs.Pushing.{values_split}

pub values_one : (n : ℕ) → n < 2 ^ 32 → all_values (n ∷ []) ≡ true
values_one n h = rw (lt-ltb n 4294967296 h) refl

pub values-++ : (xs ys : List ℕ) → all_values xs ≡ true → all_values ys ≡ true → all_values (xs ++ ys) ≡ true
values-++ [] ys p q = q
values-++ (a ∷ xs) ys p q =
    let r = and_parts (ltb a (2 ^ 32)) (all_values xs) p in
    and_from (ltb a (2 ^ 32)) (all_values (xs ++ ys)) r.0 (values-++ xs ys r.1 q)

pub reads_none : (bytes : List ℕ) (at : ℕ) → at ≤ length bytes → Reads bytes at [] at
unfolding encodes
reads_none bytes at h = record { small = refl; bytes_are = refl; place = omega arith; inside = h }

pub reads_one : {bytes : List ℕ} {at n k : ℕ} → Number bytes at n k → Reads bytes at (n ∷ []) (at + k)
reads_one {bytes} {at} {n} {k} r = record {
  small = values_one n r.small;
  bytes_are = rw (encodes_one n) (number_bytes r);
  place = rw (encodes_one n) (ap (λ (x : ℕ). at + x) (number_long r));
  inside = r.inside;
}

pub reads_join : {bytes : List ℕ} {at mid to : ℕ} {xs ys : List ℕ} → Reads bytes at xs mid → Reads bytes mid ys to → Reads bytes at (xs ++ ys) to
reads_join {bytes} {at} {mid} {to} {xs} {ys} p q =
    record {
      small = values-++ xs ys p.small q.small;
      bytes_are = rw (encodes-++ xs ys, append_assoc (encodes xs) (encodes ys) (drop to bytes)) (p.bytes_are ∙ ap (λ (x : List ℕ). encodes xs ++ x) q.bytes_are);
      place = rw (encodes-++ xs ys, length-append (encodes xs) (encodes ys)) (omega (arith, p.place, q.place));
      inside = q.inside;
    }

pub one_more : (bytes : List ℕ) (at to n k i : ℕ) (cells : List ℕ) → i < length cells → Reads bytes at (take i cells) to → Number bytes to n k → Reads bytes at (take (i + 1) (set cells i n)) (to + k)
one_more bytes at to n k i cells h r m = rw (take_more_set cells i n h) (reads_join r (reads_one m))

pub reads_first : {bytes : List ℕ} {n k : ℕ} → Number bytes 0 n k → Reads bytes 0 (n ∷ []) k
reads_first {bytes} {n} {k} h = subst (Reads bytes 0 (n ∷ [])) (zero-add k) (reads_one h)

-- the first of the numbers that stand from the start on, in two parts
pub reads_front : {bytes : List ℕ} {p q s : ℕ} (xs ys zs : List ℕ) → q ≡ 0 + length (encodes xs) → s ≡ length (encodes ys) → Reads bytes 0 (xs ++ (ys ++ zs)) p → Reads bytes 0 (xs ++ ys) (q + s)
reads_front {bytes} {p} {q} {s} xs ys zs e f r =
    let a : xs ++ (ys ++ zs) ≡ (xs ++ ys) ++ zs = sym (append_assoc xs ys zs) in
    let l : length (encodes (xs ++ ys)) ≡ q + s = ap length (encodes-++ xs ys) ∙ length-append (encodes xs) (encodes ys) ∙ omega arith in
    let b : bytes ≡ encodes (xs ++ ys) ++ (encodes zs ++ drop p bytes) = r.bytes_are ∙ rw (a, encodes-++ (xs ++ ys) zs) (append_assoc (encodes (xs ++ ys)) (encodes zs) (drop p bytes)) in
    let d : drop (q + s) bytes ≡ encodes zs ++ drop p bytes = ap (drop (q + s)) b ∙ drop_at (encodes (xs ++ ys)) (encodes zs ++ drop p bytes) (q + s) l in
    record {
      small = (values_split (xs ++ ys) zs (rw a at r.small)).0;
      bytes_are = b ∙ ap (λ (x : List ℕ). encodes (xs ++ ys) ++ x) (sym d);
      place = omega arith;
      inside = omega (arith, ap length b, length-append (encodes (xs ++ ys)) (encodes zs ++ drop p bytes));
    }
