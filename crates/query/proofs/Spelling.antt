-- Variables and constants, byte by byte.
use Rattle.std.proofs.Common.{◌≡◌, ℕ, ◌+◌, ◌-◌, ◌*◌, ◌<◌, ◌≤◌, Bool, true, false, cond, not, ◌&&◌, ◌||◌, eqb, leb, List, [], ◌∷◌, length, get_or, drop, sym, refl, ap, ◌∙◌, arith, leb-true}
use Rattle.std.proofs.lemmas.List.{drop_more}
use Rattle.std.proofs.lemmas.Bool.{both_ways, and_parts}
use Rattle.lexing.specs.declared.class.Class.{Class}
use Rattle.lexing.specs.declared.class.Class.TheVariants.{Lower, Upper, Digit, Blank, Punctuation, Other}
use Rattle.lexing.specs.Classes.{class, within, punctuates, is_upper, is_digit, upper, lettered, digit}
use Rattle.lexing.specs.Tokens.{Token}
use Rattle.lexing.specs.declared.name.Alphabet.TheVariants as alphabet
use Rattle.lexing.specs.Names.{all, is_identifier}
use Rattle.query.specs.Terms.{is_variable, is_constant, empty, spelled, value}

-- a variable is an upper-case letter with letters and digits behind it
pub variable_identifier : (t : Token) → is_identifier alphabet.Upper alphabet.Words t ≡ is_variable t
unfolding is_variable
variable_identifier [] = refl
variable_identifier (x ∷ t) = refl

pub constant_digits : (t : Token) → is_constant t ≡ true → all digit t ≡ true
unfolding is_constant
constant_digits [] e = absurd (both_ways _ refl e)
constant_digits (x ∷ t) e = (and_parts (digit x && all digit t) (not (eqb x 48) || empty t) e).0

-- a token is not both
pub not_both_forms : (t : Token) → is_variable t ≡ true → is_constant t ≡ false
unfolding is_variable is_constant
not_both_forms [] e = refl
not_both_forms (x ∷ t) e = rw (no_digit (class x) (and_parts (upper x) (all lettered t) e).0) refl
  where
    no_digit : (k : Class) → is_upper k ≡ true → is_digit k ≡ false
    no_digit Lower h = refl
    no_digit Upper h = refl
    no_digit Digit h = absurd (both_ways _ refl h)
    no_digit Blank h = refl
    no_digit Punctuation h = refl
    no_digit Other h = refl

pub digit_bounds : (b : ℕ) → digit b ≡ true → (48 ≤ b) × (b ≤ 57)
unfolding class
digit_bounds b e = by (go (within 97 b 122) (within 65 b 90) (within 48 b 57) (eqb b 32 || eqb b 10) (punctuates b) e)
  where
    go : (l u d s p : Bool) → is_digit (cond l Lower (cond u Upper (cond d Digit (cond s Blank (cond p Punctuation Other))))) ≡ true → d ≡ true
    go true u d s p h = absurd (both_ways _ refl h)
    go false true d s p h = absurd (both_ways _ refl h)
    go false false true s p h = refl
    go false false false true p h = absurd (both_ways _ refl h)
    go false false false false true h = absurd (both_ways _ refl h)
    go false false false false false h = absurd (both_ways _ refl h)

    low : (x y : Bool) → cond x y false ≡ true → (x ≡ true) × (y ≡ true)
    low true y h = (refl, h)
    low false y h = absurd (both_ways _ refl h)

    by : within 48 b 57 ≡ true → (48 ≤ b) × (b ≤ 57)
    by h = let z = low (leb 48 b) (leb b 57) h in (leb-true 48 b z.0, leb-true b 57 z.1)

pub spelled_grows : (n : ℕ) (xs : List ℕ) → n ≤ spelled n xs
spelled_grows n [] = omega arith
spelled_grows n (x ∷ xs) = let z = spelled_grows (10 * n + (x - 48)) xs in omega arith

module _ (t : Token) (i sum : ℕ) (h : i < length t) (so_far : value t ≡ spelled sum (drop i t)) (digits : all digit (drop i t) ≡ true) where
  parts : all digit (drop i t) ≡ (digit (get_or t i 0) && all digit (drop (i + 1) t))
  parts = ap (all digit) (drop_more t i 0 h)

  pub this_digit : (48 ≤ get_or t i 0) × (get_or t i 0 ≤ 57)
  this_digit = digit_bounds (get_or t i 0) (and_parts (digit (get_or t i 0)) (all digit (drop (i + 1) t)) (sym parts ∙ digits)).0

  pub one_digit_more : value t ≡ spelled (10 * sum + (get_or t i 0 - 48)) (drop (i + 1) t)
  one_digit_more = so_far ∙ ap (spelled sum) (drop_more t i 0 h)

  pub too_large : 4294967295 < 10 * sum + (get_or t i 0 - 48) → 4294967295 < value t
  too_large k = let z = spelled_grows (10 * sum + (get_or t i 0 - 48)) (drop (i + 1) t) in let y = one_digit_more in omega arith
