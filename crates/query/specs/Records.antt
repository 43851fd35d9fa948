-- Which record the atoms of a query text have.
use Rattle.std.specs.Prelude.{◌≡◌, cond, List, [], ◌∷◌, map}
use Rattle.lexing.specs.Tokens.{Token}
use Rattle.lexing.specs.Names.{number_of, numbers}
use Rattle.bounded.specs.Held.{held}
use Rattle.lexing.specs.Lists.{names}
use Rattle.catalogue.specs.declared.record.Catalogue.{Catalogue}
use Rattle.catalogue.specs.Records.{Described, described}
use Rattle.query.specs.declared.record.Query.{Query}
use Rattle.query.specs.Terms.{is_variable, value}
use Rattle.query.specs.Plain.{Term, constant, variable, Literal, PlainQuery, plain_literal}
use Rattle.query.specs.Rules.{Atom, items, known}

-- what the record of a query holds
abbrev pub plain_query : Query → PlainQuery
plain_query q = record { head = held q.head; literals = map plain_literal (held q.literals) }

abbrev pub variable_names : Query → List Token
variable_names q = names q.variables

-- terms and literals by numbers: variables among their names, sources among the catalogue's
abbrev pub term_of : List Token → Token → Term
term_of vs t = cond (is_variable t) (variable (number_of t vs)) (constant (value t))

abbrev pub literal_of : Described → List Token → Atom → Literal
literal_of cat vs a = record { source = number_of a.name cat.names; terms = map (term_of vs) (items a) }

-- the record of this head and these literals over the catalogue: variables are numbered as they first appear, from the head on
pub record Records (q : Query) (c : Catalogue) (h : Atom) (ls : List Atom) : Type 0 where
  pub catalogue : q.catalogue ≡ c
  pub variables : variable_names q ≡ known (h ∷ ls) []
  pub head : (plain_query q).head ≡ numbers (variable_names q) (items h)
  pub literals : (plain_query q).literals ≡ map (literal_of (described c) (variable_names q)) ls
