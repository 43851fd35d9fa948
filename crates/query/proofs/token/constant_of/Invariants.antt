use Rattle.std.proofs.Common.{◌≡◌, ◌≤◌, true, drop}
use Rattle.lexing.specs.Classes.{digit}
use Rattle.lexing.specs.Names.{all}
use Rattle.query.specs.Terms.{spelled, value}
use Rattle.query.proofs.token.constant_of.Given as goal

abbrev pub invariant-loop-byte : goal.invariant-loop-byte
invariant-loop-byte l = (l.sum ≤ 4294967295) × (value l.token ≡ spelled l.sum (drop l.byte-index l.token)) × (all digit (drop l.byte-index l.token) ≡ true)
