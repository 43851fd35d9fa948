-- The header.
use Rattle.std.proofs.Common.{◌≡◌, ℕ, zero, suc, ◌+◌, ◌<◌, ◌≤◌, ◌⊎◌, List, [], ◌∷◌, length, drop, replicate, sym, refl, ap, subst, inl, inr, arith}
use Rattle.std.proofs.lemmas.List.{length-replicate}
use Rattle.faults.specs.declared.fault.Fault.{Fault}
use Rattle.faults.specs.declared.refusal.Refusal.TheVariants.{NumberForm, HeaderRange}
use Rattle.faults.specs.Faults.{placed}
use Rattle.source.specs.declared.mark.Mark.{Mark}
use Rattle.source.specs.declared.mark.Mark.TheVariants.{Free}
use Rattle.source.specs.Marks.{inputs_of}
use Rattle.numbers.specs.Forms.{NoNumber, Number}
use Rattle.numbers.proofs.Encoding.{number_long, encode_few}
use Rattle.bounded.proofs.Holding.{length_most}
use Rattle.files.specs.declared.columns.Columns.{Columns}
use Rattle.files.specs.Contents.{Header, bits}
use Rattle.files.specs.Held.{columns_marks}
use Rattle.files.specs.Refusing.{Begun, Front, Refuses}
use Rattle.files.specs.Refusing.Refuses.{header_cut, header_range}
use Rattle.files.proofs.Reading.{reads_none, reads_one, reads_join, reads_first}

pub told : {bytes : List ℕ} {f g : Fault} → f ≡ g → Refuses bytes g → Refuses bytes f
told {bytes} e r = subst (Refuses bytes) (sym e) r

-- what begins a header
pub begun_none : Begun []
begun_none = record { marks = Free ∷ []; count = 0; rest = 1 ∷ 0 ∷ 0 ∷ []; header = record { some_column = omega arith; four_columns = omega arith; three_given = omega arith; few_rows = omega arith }; numbers_are = refl }

none_given : (c : ℕ) → inputs_of (replicate c Free) ≡ 0
none_given zero = refl
none_given (suc c) = none_given c

pub begun_columns : (c : ℕ) → 1 ≤ c → c ≤ 4 → Begun (c ∷ [])
begun_columns c l h =
    let k : length (replicate c Free) ≡ c = length-replicate c Free in
    record {
      marks = replicate c Free;
      count = 0;
      rest = bits (replicate c Free) ∷ 0 ∷ [];
      header = record { some_column = omega arith; four_columns = omega arith; three_given = omega (arith, none_given c); few_rows = omega arith };
      numbers_are = ap (λ (x : ℕ). x ∷ bits (replicate c Free) ∷ 0 ∷ []) k;
    }

pub begun_marks : {ms : List Mark} {n : ℕ} → Header ms n → Begun (length ms ∷ bits ms ∷ [])
begun_marks {ms} {n} h = record { marks = ms; count = n; rest = n ∷ []; header = h; numbers_are = refl }

pub begun_count : {ms : List Mark} {n : ℕ} → Header ms n → Begun (length ms ∷ bits ms ∷ n ∷ [])
begun_count {ms} {n} h = record { marks = ms; count = n; rest = []; header = h; numbers_are = refl }

pub first_is : {c m n a : ℕ} {rest more : List ℕ} → c ∷ m ∷ n ∷ more ≡ a ∷ rest → c ≡ a
first_is e = cc

pub second_is : {c m n a b : ℕ} {rest more : List ℕ} → c ∷ m ∷ n ∷ more ≡ a ∷ b ∷ rest → m ≡ b
second_is e = cc

pub third_is : {c m n a b d : ℕ} {rest more : List ℕ} → c ∷ m ∷ n ∷ more ≡ a ∷ b ∷ d ∷ rest → n ≡ d
third_is e = cc

columns_range : {c : ℕ} → Begun (c ∷ []) → (1 ≤ c) × (c ≤ 4)
columns_range {c} b =
    let e : length b.marks ≡ c = first_is b.numbers_are in
    (omega (arith, b.header.some_column), omega (arith, b.header.four_columns))

-- the header is cut off or out of range
pub cut_0 : {bytes : List ℕ} → NoNumber bytes → Refuses bytes (placed NumberForm 0)
cut_0 {bytes} n = header_cut (reads_none bytes 0 (omega arith)) begun_none (omega arith) n

pub range_0 : {bytes : List ℕ} {c a : ℕ} → Number bytes 0 c a → (c < 1) ⊎ (4 < c) → Refuses bytes (placed HeaderRange 0)
range_0 {bytes} n e = header_range (reads_none bytes 0 (omega arith)) begun_none (omega arith) n (λ b. let r = columns_range b in elim e [ inl x ↦ omega arith | inr x ↦ omega arith ])

pub cut_1 : {bytes : List ℕ} {c a : ℕ} → Number bytes 0 c a → 1 ≤ c → c ≤ 4 → NoNumber (drop a bytes) → Refuses bytes (placed NumberForm a)
cut_1 {bytes} {c} n l h e = header_cut (reads_first n) (begun_columns c l h) (omega arith) e

pub range_1 : {bytes : List ℕ} {c a m b : ℕ} → Number bytes 0 c a → 1 ≤ c → c ≤ 4 → Number bytes a m b → ((ms : List Mark) → length ms ≡ c → bits ms ≡ m → inputs_of ms ≤ 3 → ⊥) → Refuses bytes (placed HeaderRange a)
range_1 {bytes} {c} n l h k z = header_range (reads_first n) (begun_columns c l h) (omega arith) k (λ b. z b.marks (first_is b.numbers_are) (second_is b.numbers_are) b.header.three_given)

pub cut_2 : {bytes : List ℕ} {ms : List Mark} {a b n : ℕ} → Header ms n → Number bytes 0 (length ms) a → Number bytes a (bits ms) b → NoNumber (drop (a + b) bytes) → Refuses bytes (placed NumberForm (a + b))
cut_2 h n k e = header_cut (reads_join (reads_first n) (reads_one k)) (begun_marks h) (omega arith) e

pub range_2 : {bytes : List ℕ} {ms : List Mark} {a b n d m : ℕ} → Header ms n → Number bytes 0 (length ms) a → Number bytes a (bits ms) b → Number bytes (a + b) m d → 1024 < m → Refuses bytes (placed HeaderRange (a + b))
range_2 h n k x e = header_range (reads_join (reads_first n) (reads_one k)) (begun_marks h) (omega arith) x (λ b. omega (arith, third_is b.numbers_are, b.header.few_rows))

pub front_0 : {bytes : List ℕ} {ms : List Mark} {a b n d : ℕ} → Header ms n → Number bytes 0 (length ms) a → Number bytes a (bits ms) b → Number bytes (a + b) n d → Front bytes ms n [] (a + b + d)
front_0 h n k x = record { header = h; rows_whole = refl; ascends = refl; most = omega arith; reads = reads_join (reads_join (reads_first n) (reads_one k)) (reads_one x) }

-- the columns that were read
pub columns_header : (cs : Columns) {n : ℕ} → n ≤ 1024 → Header (columns_marks cs) n
columns_header cs h = record { some_column = cs.some; four_columns = length_most cs.marks; three_given = cs.given; few_rows = h }

pub width_read : {bytes : List ℕ} {c at a : ℕ} (ms : List Mark) → length ms ≡ c → Number bytes at c a → Number bytes at (length ms) a
width_read {bytes} {c} {at} {a} ms e n = subst (λ (x : ℕ). Number bytes at x a) (sym e) n

pub bits_read : {bytes : List ℕ} {m at a : ℕ} (ms : List Mark) → bits ms ≡ m → Number bytes at m a → Number bytes at (bits ms) a
bits_read {bytes} {m} {at} {a} ms e n = subst (λ (x : ℕ). Number bytes at x a) (sym e) n

pub number_few : {bytes : List ℕ} {at n k : ℕ} → Number bytes at n k → k ≤ 5
number_few {bytes} {at} {n} r = omega (arith, encode_few n, number_long r)
