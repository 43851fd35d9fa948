-- The tokens that an iterator over a text has left.
use Rattle.std.specs.Prelude.{List, drop}
use Rattle.lexing.specs.declared.token.Token as given
use Rattle.lexing.specs.declared.token.Tokens as iterator
use Rattle.lexing.specs.Tokens.{tokens, Placed, placed}

-- a token that is given, with its place
abbrev pub placed_token : given.Token → Placed
placed_token t = record { token = t.bytes.now; place = t.place }

-- the tokens from the place on at which the iterator stands
abbrev pub tokens_left : iterator.Tokens → List Placed
tokens_left it = placed it.place (tokens (drop it.place it.text.now))
