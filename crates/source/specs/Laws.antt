-- Laws of calls to any source.
use Rattle.std.specs.Prelude.{◌≡◌, ℕ, ◌≤◌, List, length}
use Rattle.source.specs.Meaning.{Meaning, Lawful}
use Rattle.source.specs.Calls.{Answer}

-- there is just one answer to a list of inputs, so that a call's rows are determined by the meaning
abbrev pub OneAnswer : Type 0
OneAnswer = (m : Meaning) (inputs : List ℕ) (xs ys : List (List ℕ)) → Answer m inputs xs → Answer m inputs ys → xs ≡ ys

-- an answer of a lawful source has at most 64 rows
abbrev pub AtMost64Rows : Type 0
AtMost64Rows = (m : Meaning) (inputs : List ℕ) (rows : List (List ℕ)) → Lawful m → Answer m inputs rows → length rows ≤ 64
