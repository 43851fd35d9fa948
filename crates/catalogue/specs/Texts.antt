-- What is read of a text, and that it is one thing.
use Rattle.std.specs.Prelude.{◌≡◌, ℕ, ◌≤◌, ◌⊎◌, List, Ok, Err, Result}
use Rattle.faults.specs.declared.refusal.Refusal.{Refusal}
use Rattle.faults.specs.declared.fault.Fault.{Fault}
use Rattle.faults.specs.Faults.{placed}
use Rattle.lexing.specs.Grammars.{Accepted, Refused}
use Rattle.catalogue.specs.declared.record.Catalogue.{Catalogue}
use Rattle.catalogue.specs.Sheets.{Line, lines, sheets}
use Rattle.catalogue.specs.Records.{Records}

-- the text is accepted with the record of its lines, or refused at a place
abbrev pub Read : List ℕ → Result Catalogue Fault → Type 0
Read text (Ok c) = (ls : List Line) × Accepted sheets text (lines ls) × Records c ls
Read text (Err f) = (r : Refusal) × (place : ℕ) × Refused sheets text r place × (f ≡ placed r place)

-- every text is accepted with some lines or refused; with one list of lines, with one refusal at one place, and not both; the place is at most 4,096
pub record OneAnswer : Type 0 where
  pub answered : (text : List ℕ) → ((ls : List Line) × Accepted sheets text (lines ls)) ⊎ ((r : Refusal) × (place : ℕ) × Refused sheets text r place)
  pub one_catalogue : (text : List ℕ) (ls ms : List Line) → Accepted sheets text (lines ls) → Accepted sheets text (lines ms) → ls ≡ ms
  pub one_refusal : (text : List ℕ) (r s : Refusal) (p q : ℕ) → Refused sheets text r p → Refused sheets text s q → (r ≡ s) × (p ≡ q)
  pub not_both : (text : List ℕ) (ls : List Line) (r : Refusal) (p : ℕ) → Accepted sheets text (lines ls) → Refused sheets text r p → ⊥
  pub near : (text : List ℕ) (r : Refusal) (p : ℕ) → Refused sheets text r p → p ≤ 4096
