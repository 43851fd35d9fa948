-- Marks as bits of a number.
use Rattle.std.proofs.Common.{◌≡◌, ℕ, ◌+◌, ◌*◌, ◌/◌, ◌%◌, ◌<◌, ◌≤◌, List, [], ◌∷◌, ◌++◌, length, get_or, take, drop, set, sym, refl, ap, ◌∙◌, append_assoc, arith, length-append}
use Rattle.std.proofs.lemmas.List.{drop_more, drop_all, take_more, take_more_set}
use Rattle.source.specs.declared.mark.Mark.{Mark}
use Rattle.source.specs.declared.mark.Mark.TheVariants.{Given, Free}
use Rattle.files.specs.Contents.{bit, bits}

pub bit_few : (m : Mark) → bit m < 2
bit_few Given = omega arith
bit_few Free = omega arith

bit_same : (m n : Mark) → bit m ≡ bit n → m ≡ n
bit_same Given Given e = refl
bit_same Given Free e = absurd (omega arith)
bit_same Free Given e = absurd (omega arith)
bit_same Free Free e = refl

pub bits_at : (ms : List Mark) (i : ℕ) → i < length ms → bits (drop i ms) ≡ bit (get_or ms i Given) + 2 * bits (drop (i + 1) ms)
bits_at ms i h = ap bits (drop_more ms i Given h)

pub bits_end : (ms : List Mark) (i : ℕ) → length ms ≤ i → bits (drop i ms) ≡ 0
bits_end ms i h = ap bits (drop_all i ms h)

-- the marks behind those that are left make this number
pub record Packed (marks left : List Mark) (packed : ℕ) : Type 0 where
  pub done : List Mark
  pub marks_are : marks ≡ left ++ done
  pub value : packed ≡ bits done

pub bits_few : (ms : List Mark) → length ms ≤ 4 → bits ms ≤ 15
bits_few [] h = omega arith
bits_few (a ∷ []) h = omega (arith, bit_few a)
bits_few (a ∷ b ∷ []) h = omega (arith, bit_few a, bit_few b)
bits_few (a ∷ b ∷ c ∷ []) h = omega (arith, bit_few a, bit_few b, bit_few c)
bits_few (a ∷ b ∷ c ∷ d ∷ []) h = omega (arith, bit_few a, bit_few b, bit_few c, bit_few d)
bits_few (a ∷ b ∷ c ∷ d ∷ e ∷ ms) h = absurd (omega arith)

-- the first marks are taken out of a number, of which this is left
pub record Taken (width packed i : ℕ) (marks : List Mark) (left : ℕ) : Type 0 where
  pub back : (tail : List Mark) → bits tail ≡ left → bits (take i marks ++ tail) ≡ packed
  pub forth : (ms : List Mark) → length ms ≡ width → bits ms ≡ packed → (take i ms ≡ take i marks) × (bits (drop i ms) ≡ left)

pub taken_more : (width packed i : ℕ) (marks : List Mark) (left : ℕ) (m : Mark) → i < width → i < length marks → bit m ≡ left % 2 → Taken width packed i marks left → Taken width packed (i + 1) (set marks i m) (left / 2)
taken_more width packed i marks left m h l b t = record { back = back; forth = forth }
  where
    back : (tail : List Mark) → bits tail ≡ left / 2 → bits (take (i + 1) (set marks i m) ++ tail) ≡ packed
    back tail e = rw (take_more_set marks i m l, append_assoc (take i marks) (m ∷ []) tail) (t.back (m ∷ tail) (omega arith))

    forth : (ms : List Mark) → length ms ≡ width → bits ms ≡ packed → (take (i + 1) ms ≡ take (i + 1) (set marks i m)) × (bits (drop (i + 1) ms) ≡ left / 2)
    forth ms k e =
        let f = t.forth ms k e in
        let u : i < length ms = omega arith in
        let a : bit (get_or ms i Given) + 2 * bits (drop (i + 1) ms) ≡ left = sym (bits_at ms i u) ∙ f.1 in
        let s : bit (get_or ms i Given) < 2 = bit_few (get_or ms i Given) in
        let x : get_or ms i Given ≡ m = bit_same (get_or ms i Given) m (omega arith) in
        (rw (take_more ms i Given u, take_more_set marks i m l, f.0, x) refl, omega arith)

pub taken_other : (width packed i : ℕ) (marks : List Mark) (left : ℕ) → width ≤ i → (left ≡ 0 → ⊥) → Taken width packed i marks left → (ms : List Mark) → length ms ≡ width → bits ms ≡ packed → ⊥
taken_other width packed i marks left h n t ms k e = n (sym (t.forth ms k e).1 ∙ bits_end ms i (omega arith))

pub packed_few : {marks left : List Mark} {packed : ℕ} → length marks ≤ 4 → Packed marks left packed → packed ≤ 15
packed_few {marks} {left} h p = omega (arith, p.value, bits_few p.done (omega (arith, ap length p.marks_are, length-append left p.done)))
