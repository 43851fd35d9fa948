-- Memory that is filled with values and files.
use Rattle.std.proofs.Common.{◌≡◌, ℕ, ◌+◌, ◌<◌, ◌≤◌, List, [], ◌++◌, length, get_or, take, arith}
use Rattle.source.specs.declared.mark.Mark.{Mark}
use Rattle.numbers.specs.Forms.{encode, encodes}
use Rattle.numbers.specs.Writing.{Filled}
use Rattle.numbers.proofs.Encoding.{encodes-++}
use Rattle.numbers.proofs.Filling.{filled_none, filled_join}
use Rattle.files.specs.Contents.{numbers}
use Rattle.files.specs.Held.{cut}
use Rattle.files.proofs.Sizes.{value_step, value_longer, numbers_step, front_long}

-- the first bytes of these are where they should be, and the next place is `to`
abbrev pub Put : List ℕ → List ℕ → ℕ → ℕ → List ℕ → Type 0
Put before after at to xs = (to ≡ at + length (encodes xs)) × Filled before after at (encodes xs)

pub put_none : (b : List ℕ) (at : ℕ) → Put b b at at []
unfolding encodes
put_none b at = (omega arith, filled_none b at)

pub put_join : (b m a : List ℕ) (at to end : ℕ) (xs ys : List ℕ) → at + length (encodes xs) ≤ length b → Put b m at to xs → Put m a to end ys → Put b a at end (xs ++ ys)
put_join b m a at to end xs ys r p q = (omega (arith, p.0, q.0, front_long xs ys), rw (encodes-++ xs ys) (filled_join b m a at (encodes xs) (encodes ys) r p.1 (rw p.0 at q.1)))

pub put_value : (b m a : List ℕ) (at to i : ℕ) (xs : List ℕ) → i < length xs → at + length (encodes (take i xs)) ≤ length b → Put b m at to (take i xs) → Filled m a to (encode (get_or xs i 0)) → Put b a at (to + length (encode (get_or xs i 0))) (take (i + 1) xs)
put_value b m a at to i xs h r p q = (omega (arith, p.0, value_longer i xs h), rw (value_step i xs h) (filled_join b m a at (encodes (take i xs)) (encode (get_or xs i 0)) r p.1 (rw p.0 at q)))

pub put_row : (b m a : List ℕ) (to end n c i : ℕ) (ms : List Mark) (cells : List (List ℕ)) → i < length cells → length (encodes (numbers ms n (cut c (take i cells)))) ≤ length b → Put b m 0 to (numbers ms n (cut c (take i cells))) → Put m a to end (take c (get_or cells i [])) → Put b a 0 end (numbers ms n (cut c (take (i + 1) cells)))
put_row b m a to end n c i ms cells h r p q = rw (numbers_step ms n c i cells h) (put_join b m a 0 to end (numbers ms n (cut c (take i cells))) (take c (get_or cells i [])) (omega arith) p q)
