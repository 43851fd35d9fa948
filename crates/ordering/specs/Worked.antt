-- Queries written out, over sources with the marks: pack `b f`, batch `b f f`, recall `b f`.
use Rattle.std.specs.Prelude.{List, [], ◌∷◌}
use Rattle.source.specs.declared.mark.Mark.TheVariants.{Given, Free}
use Rattle.query.specs.declared.term.Term.{Term}
use Rattle.query.specs.declared.term.Term.TheVariants.{Constant, Variable}
use Rattle.ordering.specs.Literals.{Literal}

abbrev pub pack : Term → Term → Literal
pack p m = record { marks = Given ∷ Free ∷ []; terms = p ∷ m ∷ [] }

abbrev pub batch : Term → Term → Term → Literal
batch m b r = record { marks = Given ∷ Free ∷ Free ∷ []; terms = m ∷ b ∷ r ∷ [] }

abbrev pub recall : Term → Term → Literal
recall b n = record { marks = Given ∷ Free ∷ []; terms = b ∷ n ∷ [] }

-- `q(N) :- recall(B,N), batch(M,B,R), pack(1007,M).`, with its variables numbered as they first appear: N, B, M, R
abbrev pub notices_of_pack : List Literal
notices_of_pack =
    recall (Variable 1) (Variable 0) ∷ batch (Variable 2) (Variable 1) (Variable 3) ∷ pack (Constant 1007) (Variable 2) ∷ []

-- `q(M) :- pack(P,M).`, with its variables numbered M, P
abbrev pub modules_of_any_pack : List Literal
modules_of_any_pack = pack (Variable 1) (Variable 0) ∷ []
