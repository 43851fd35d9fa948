-- What is read of a query text, and that it is one thing.
use Rattle.std.specs.Prelude.{◌≡◌, ℕ, ◌≤◌, false, ◌⊎◌, List, [], ◌∷◌, ◌++◌, Ok, Err, Result}
use Rattle.faults.specs.declared.refusal.Refusal.{Refusal}
use Rattle.faults.specs.declared.refusal.Refusal.TheVariants.{HeadVariableMissing}
use Rattle.faults.specs.declared.fault.Fault.{Fault}
use Rattle.faults.specs.Faults.{placed}
use Rattle.lexing.specs.Tokens.{Token, Placed, words}
use Rattle.lexing.specs.Names.{among, AllAmong}
use Rattle.lexing.specs.Grammars.{Accepted, Refused, read_of}
use Rattle.catalogue.specs.declared.record.Catalogue.{Catalogue}
use Rattle.catalogue.specs.Records.{Described, described}
use Rattle.query.specs.declared.record.Query.{Query}
use Rattle.query.specs.Rules.{Atom, items, items_in, due, stopped, shown, queries}
use Rattle.query.specs.Records.{Records}

-- a query text with nothing wrong in it, of this head and these literals
pub record Written (cat : Described) (text : List ℕ) (h : Atom) (ls : List Atom) : Type 0 where
  pub before : List Atom
  pub last : Atom
  pub literals : ls ≡ before ++ last ∷ []
  pub accepted : Accepted (queries cat) text (stopped (h ∷ before) last)

-- the token at this place is the first variable of the head that stands in no literal
pub record Missing (cat : Described) (text : List ℕ) (h : Atom) (ls : List Atom) (place : ℕ) : Type 0 where
  pub front : List Placed
  pub token : Placed
  pub rest : List Placed
  pub earlier : List Token
  pub stands : read_of (queries cat) text ≡ front ++ token ∷ rest
  pub in_head : words front ≡ shown (due [] h.name earlier) []
  pub others : AllAmong earlier (items_in ls)
  pub nowhere : among token.token (items_in ls) ≡ false
  pub at_place : place ≡ token.place

-- the refusal of a text: the lowest of its faults, or where it has none, the variable of the head that is missing
abbrev pub QueryRefused : Described → List ℕ → Refusal → ℕ → Type 0
QueryRefused cat text r place =
    Refused (queries cat) text r place ⊎ ((h : Atom) × (ls : List Atom) × Written cat text h ls × Missing cat text h ls place × (r ≡ HeadVariableMissing))

-- the text is accepted: nothing is wrong with it, and the variables of its head stand in its literals
pub record QueryAccepted (cat : Described) (text : List ℕ) (h : Atom) (ls : List Atom) : Type 0 where
  pub written : Written cat text h ls
  pub complete : AllAmong (items h) (items_in ls)

-- the text is accepted with the record of its head and literals, or refused at a place
abbrev pub Read : Catalogue → List ℕ → Result Query Fault → Type 0
Read c text (Ok q) = (h : Atom) × (ls : List Atom) × QueryAccepted (described c) text h ls × Records q c h ls
Read c text (Err f) = (r : Refusal) × (place : ℕ) × QueryRefused (described c) text r place × (f ≡ placed r place)

-- over every catalogue, every text is accepted or refused; with one head and one list of literals, with one refusal at one place, and not both; the place is at most 4,096
pub record OneAnswer : Type 0 where
  pub answered : (cat : Described) (text : List ℕ) → ((h : Atom) × (ls : List Atom) × QueryAccepted cat text h ls) ⊎ ((r : Refusal) × (place : ℕ) × QueryRefused cat text r place)
  pub one_query : (cat : Described) (text : List ℕ) (h g : Atom) (ls ms : List Atom) → QueryAccepted cat text h ls → QueryAccepted cat text g ms → (h ≡ g) × (ls ≡ ms)
  pub one_refusal : (cat : Described) (text : List ℕ) (r s : Refusal) (p q : ℕ) → QueryRefused cat text r p → QueryRefused cat text s q → (r ≡ s) × (p ≡ q)
  pub not_both : (cat : Described) (text : List ℕ) (h : Atom) (ls : List Atom) (r : Refusal) (p : ℕ) → QueryAccepted cat text h ls → QueryRefused cat text r p → ⊥
  pub near : (cat : Described) (text : List ℕ) (r : Refusal) (p : ℕ) → QueryRefused cat text r p → p ≤ 4096
