use Rattle.lexing.specs.Left.{tokens_left}
use Rattle.lexing.proofs.Turns.{ReadUpTo}
use Rattle.lexing.proofs.reader.read_tokens.Given as goal

abbrev pub invariant-loop-token : goal.invariant-loop-token
invariant-loop-token g l =
    (goal.iterator-loop-token g).can_next l.token-iterator
    × (goal.iterator-loop-token g).is_finite l.token-iterator
    × ((x : g.R.TokenReader.Given) → g.R.TokenReader.StandsBehind x l.initial.reader (g.R.TokenReader.steps x).start → ReadUpTo (g.R.TokenReader.grammar x) (g.R.TokenReader.steps x) (g.R.TokenReader.StandsBehind x) l.text l.reader (tokens_left l.token-iterator))
