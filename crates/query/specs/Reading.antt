-- The steps of the reader, and how what it has read goes with the part that is read. None of this is part of what a text means.
use Rattle.std.specs.Prelude.{◌≡◌, ℕ, ◌<◌, ◌≤◌, Bool, true, false, cond, not, ◌&&◌, ◌||◌, List, [], ◌∷◌, ◌++◌, map, length, Some, None, Option, nat_le, nat_lt, slice_index, slice_index_or}
use Rattle.std.specs.Str.{bytes_eq}
use Rattle.faults.specs.declared.refusal.Refusal.{Refusal}
use Rattle.faults.specs.declared.refusal.Refusal.TheVariants.{QueryForm, UnfitLiteral, QueryLimit, VariableInTwoKinds, ConstantTooLarge}
use Rattle.lexing.specs.Tokens.{Token, is}
use Rattle.lexing.specs.Names.{is_name, among, number_of, numbers, AllAmong}
use Rattle.bounded.specs.Held.{held}
use Rattle.lexing.specs.Lists.{names, crowded}
use Rattle.lexing.specs.Readers.{Steps}
use Rattle.catalogue.specs.Records.{Described, described}
use Rattle.query.specs.declared.term.Term as record_term
use Rattle.query.specs.declared.term.Literal as record_literal
use Rattle.query.specs.declared.draft.Draft.{Draft}
use Rattle.query.specs.declared.stage.Begun.TheVariants as atom
use Rattle.query.specs.declared.stage.Stage.{Stage}
use Rattle.query.specs.declared.stage.Stage.TheVariants as at
use Rattle.query.specs.declared.reader.Reader.{Reader}
use Rattle.query.specs.Noted.{other_kind}
use Rattle.query.specs.Terms.{is_variable, is_constant, value}
use Rattle.query.specs.Plain.{plain_term, plain_literal, all_fitting}
use Rattle.query.specs.Records.{term_of, literal_of}
use Rattle.query.specs.Rules.{Atom, items, arrow, item_form, Part, wanted, named, due, listed, closed, stopped, known, kinds_at, kind_of, queries}

abbrev pub is_arrow : Token → Bool
is_arrow t = bytes_eq t arrow

abbrev pub closes : List Atom → Token → Bool
closes [] t = is_arrow t
closes (h ∷ ls) t = is 44 t || is 46 t

abbrev pub fits : Part → Token → Bool
fits (wanted us) t = is_name t
fits (named us n) t = is 40 t
fits (due us n ts) t = item_form us t
fits (listed us n ts x) t = is 44 t || is 41 t
fits (closed us a) t = closes us t
fits (stopped us a) t = false

abbrev pub atom_of : Token → List Token → Token → Atom
atom_of n ts t = record { name = n; front = ts; last = t }

abbrev pub after_atom : List Atom → Atom → Token → Part
after_atom [] a t = wanted (a ∷ [])
after_atom (h ∷ ls) a t = cond (is 44 t) (wanted (h ∷ (ls ++ a ∷ []))) (stopped (h ∷ ls) a)

abbrev pub next : Part → Token → Part
next (wanted us) t = named us t
next (named us n) t = due us n []
next (due us n ts) t = listed us n ts t
next (listed us n ts x) t = cond (is 44 t) (due us n (ts ++ x ∷ [])) (closed us (atom_of n ts x))
next (closed us a) t = after_atom us a t
next (stopped us a) t = stopped us a

-- an unknown source, a term too many, a parenthesis too early
abbrev pub stray : Described → Part → Token → Bool
stray cat (wanted []) t = false
stray cat (wanted (h ∷ ls)) t = not (among t cat.names)
stray cat (named us n) t = false
stray cat (due [] n ts) t = false
stray cat (due (h ∷ ls) n ts) t = nat_le (length (kinds_at cat n)) (length ts)
stray cat (listed [] n ts x) t = false
stray cat (listed (h ∷ ls) n ts x) t = is 41 t && nat_lt (length (ts ++ x ∷ [])) (length (kinds_at cat n))
stray cat (closed us a) t = false
stray cat (stopped us a) t = false

-- a limit is passed
abbrev pub over : Part → Token → Bool
over (wanted []) t = nat_lt 16 (length t)
over (wanted (h ∷ ls)) t = nat_le 8 (length ls)
over (named us n) t = false
over (due [] n ts) t = nat_le 4 (length ts) || (is_variable t && crowded t (known [] ts))
over (due (h ∷ ls) n ts) t = is_variable t && crowded t (known (h ∷ ls) ts)
over (listed us n ts x) t = false
over (closed us a) t = false
over (stopped us a) t = false

-- a variable in a second kind
abbrev pub mixed : Described → Part → Token → Bool
mixed cat (wanted us) t = false
mixed cat (named us n) t = false
mixed cat (due [] n ts) t = false
mixed cat (due (h ∷ ls) n ts) t = is_variable t && other_kind (kind_of cat t ls n ts) (slice_index (kinds_at cat n) (length ts))
mixed cat (listed us n ts x) t = false
mixed cat (closed us a) t = false
mixed cat (stopped us a) t = false

-- a constant above the largest value
abbrev pub large : Part → Token → Bool
large (wanted us) t = false
large (named us n) t = false
large (due [] n ts) t = false
large (due (h ∷ ls) n ts) t = is_constant t && nat_lt 4294967295 (value t)
large (listed us n ts x) t = false
large (closed us a) t = false
large (stopped us a) t = false

abbrev pub refusal : Bool → Bool → Bool → Bool → Bool → Option Refusal
refusal fit a b c d =
    cond fit (cond a (Some UnfitLiteral) (cond b (Some QueryLimit) (cond c (Some VariableInTwoKinds) (cond d (Some ConstantTooLarge) None)))) (Some QueryForm)

abbrev pub wrong : Described → Part → Token → Option Refusal
wrong cat p t = refusal (fits p t) (stray cat p t) (over p t) (mixed cat p t) (large p t)

abbrev pub steps : (cat : Described) → Steps (queries cat)
steps cat = record { start = wanted []; fits = fits; next = next; wrong = wrong cat }

-- the head's items, and the literals, of whole atoms and an atom with items
abbrev pub head_items : List Atom → List Token → List Token
head_items [] ts = ts
head_items (h ∷ ls) ts = items h

abbrev pub body : List Atom → List Atom
body [] = []
body (h ∷ ls) = ls

-- the kind of a variable behind whole atoms and an atom with items; the head gives none
abbrev pub kind_behind : Described → Token → List Atom → Token → List Token → Option ℕ
kind_behind cat v [] n ts = None
kind_behind cat v (h ∷ ls) n ts = kind_of cat v ls n ts

-- these variables are read, with these kinds, these items of the head, and these literals
pub record Seen (cat : Described) (d : Draft) (vs hd : List Token) (ls : List Atom) (kind : Token → Option ℕ) : Type 0 where
  pub catalogue : described d.catalogue.now ≡ cat
  pub variables : names d.variables ≡ vs
  pub kinds : (v : Token) → is_variable v ≡ true → slice_index_or d.kinds.cells (number_of v vs) None ≡ kind v
  pub unused : (j : ℕ) → length vs ≤ j → slice_index_or d.kinds.cells j None ≡ None
  pub heads : AllAmong hd vs
  pub head : held d.head ≡ numbers vs hd
  pub literals : map plain_literal (held d.literals) ≡ map (literal_of cat vs) ls
  pub fitting : all_fitting cat.columns (length vs) (map plain_literal (held d.literals)) ≡ true

-- behind whole atoms, a name and items
abbrev pub Behind : Described → Draft → List Atom → Token → List Token → Type 0
Behind cat d us n ts = Seen cat d (known us ts) (head_items us ts) (body us) (λ v. kind_behind cat v us n ts)

-- a literal is begun, one more than these, of this source and with these terms
pub record Begins (cat : Described) (source : ℕ) (terms : List record_term.Term) (vs : List Token) (count : ℕ) (n : Token) (ts : List Token) : Type 0 where
  pub room : count < 8
  pub there : among n cat.names ≡ true
  pub source_is : source ≡ number_of n cat.names
  pub terms_are : map plain_term terms ≡ map (term_of vs) ts
  pub within : length ts ≤ length (kinds_at cat n)

abbrev pub BeginsLiteral : Described → record_literal.Literal → Atom → List Atom → Token → List Token → Type 0
BeginsLiteral cat l h ls n ts = Begins cat l.source (held l.terms) (known (h ∷ ls) ts) (length ls) n ts

-- the stage behind a part: the head is the first atom, and this literal is begun behind it
pub data StageAt (cat : Described) (l : record_literal.Literal) : Stage → Part → Type 0 where
  start : StageAt cat l at.Start (wanted [])
  wanted_literal : (h : Atom) (ls : List Atom) → StageAt cat l at.Wanted (wanted (h ∷ ls))
  named_head : (n : Token) → StageAt cat l (at.Named atom.Head) (named [] n)
  named_literal : (h : Atom) (ls : List Atom) (n : Token) → BeginsLiteral cat l h ls n [] → StageAt cat l (at.Named atom.Literal) (named (h ∷ ls) n)
  due_head : (n : Token) (ts : List Token) → StageAt cat l (at.Due atom.Head) (due [] n ts)
  due_literal : (h : Atom) (ls : List Atom) (n : Token) (ts : List Token) → BeginsLiteral cat l h ls n ts → StageAt cat l (at.Due atom.Literal) (due (h ∷ ls) n ts)
  listed_head : (n : Token) (ts : List Token) (t : Token) → StageAt cat l (at.Listed atom.Head) (listed [] n ts t)
  listed_literal : (h : Atom) (ls : List Atom) (n : Token) (ts : List Token) (t : Token) → BeginsLiteral cat l h ls n (ts ++ t ∷ []) →
      StageAt cat l (at.Listed atom.Literal) (listed (h ∷ ls) n ts t)
  headed : (a : Atom) → StageAt cat l at.Headed (closed [] a)
  closed_literal : (h : Atom) (ls : List Atom) (a : Atom) → StageAt cat l at.Closed (closed (h ∷ ls) a)
  whole : (us : List Atom) (a : Atom) → StageAt cat l at.Stopped (stopped us a)

-- what is read behind a part
abbrev pub ReadAt : Described → Draft → Part → Type 0
ReadAt cat d (wanted us) = Behind cat d us [] []
ReadAt cat d (named us n) = Behind cat d us n []
ReadAt cat d (due us n ts) = Behind cat d us n ts
ReadAt cat d (listed us n ts t) = Behind cat d us n (ts ++ t ∷ [])
ReadAt cat d (closed us a) = Behind cat d (us ++ a ∷ []) [] []
ReadAt cat d (stopped us a) = Behind cat d (us ++ a ∷ []) [] []

-- a draft and a stage stand behind the part
pub record Stands (cat : Described) (d : Draft) (s : Stage) (p : Part) : Type 0 where
  pub stage : StageAt cat d.literal s p
  pub read : ReadAt cat d p

-- the reader stands behind the part
abbrev pub Tied : Described → Reader → Part → Type 0
Tied cat r p = Stands cat r.draft r.stage p

-- a term is taken: with it the draft and the literal stand behind the part
pub data TermTaken (cat : Described) (d : Draft) (l : record_literal.Literal) (term : record_term.Term) : Part → Type 0 where
  term_taken : (h : Atom) (ls : List Atom) (n : Token) (ts : List Token) (t : Token) → Behind cat d (h ∷ ls) n (ts ++ t ∷ []) →
      Begins cat l.source (held l.terms ++ term ∷ []) (known (h ∷ ls) (ts ++ t ∷ [])) (length ls) n (ts ++ t ∷ []) → TermTaken cat d l term (listed (h ∷ ls) n ts t)
