-- Comparing a catalogue's columns with a rack's, source by source.
use Rattle.std.proofs.Common.{◌≡◌, ℕ, zero, suc, ◌+◌, ◌<◌, ◌≤◌, min, Bool, true, false, ◌&&◌, List, [], ◌∷◌, map, length, drop, Some, refl, ap, ◌∙◌, add-one, arith}
use Rattle.std.specs.List.{list_all, enumerate_from}
use Rattle.std.proofs.lemmas.List.{drop_all, length-map}
use Rattle.bounded.specs.Held.{held}
use Rattle.source.specs.Marks.{same_marks}
use Rattle.source.specs.Meaning.{Meaning}
use Rattle.source.specs.Racks.{marks_at}
use Rattle.catalogue.specs.declared.columns.Entry.{Entry}
use Rattle.catalogue.specs.Plain.{PlainColumns, entry_columns}
use Rattle.catalogue.specs.Racks.{describes, has_marks}

not_both : (b x : Bool) → false ≡ x → false ≡ (b && x)
not_both true x e = e
not_both false x e = refl

-- another number of sources
pub uneven : (cs : List PlainColumns) (ms : List Meaning) → (length cs ≡ length ms → ⊥) → false ≡ describes cs ms
uneven [] [] ne = absurd (ne refl)
uneven [] (m ∷ ms) ne = refl
uneven (c ∷ cs) [] ne = refl
uneven (c ∷ cs) (m ∷ ms) ne = not_both (same_marks c.marks m.marks) (describes cs ms) (uneven cs ms (λ e. ne (ap suc e)))

-- .. as a rack tells it, which counts no further than 255
pub uneven_told : (cs : List PlainColumns) (ms : List Meaning) (told : ℕ) → told ≡ min (length ms) 255 → length cs ≤ 8 → (told ≡ length cs → ⊥) → false ≡ describes cs ms
uneven_told cs ms told t few ne = uneven cs ms (λ e. differ e)
  where
    differ : length cs ≡ length ms → ⊥
    differ e = ne (omega arith)

-- .. and the same number
pub even_told : (cs : List PlainColumns) (ms : List Meaning) (told : ℕ) → told ≡ min (length ms) 255 → length cs ≤ 8 → told ≡ length cs → length cs ≡ length ms
even_told cs ms told t few e = omega arith

-- what stands in a rack at a number
record There (ms : List Meaning) (i : ℕ) : Type 0 where
  meaning : Meaning
  next : drop i ms ≡ meaning ∷ drop (i + 1) ms
  marks : marks_at ms i ≡ Some meaning.marks

there : (ms : List Meaning) (i : ℕ) → i < length ms → There ms i
there [] i h = absurd (omega arith)
there (m ∷ ms) zero h = record { meaning = m; next = refl; marks = refl }
there (m ∷ ms) (suc i) h = let t = there ms i (omega arith) in record { meaning = t.meaning; next = rw (add-one) (t.next ∙ rw (add-one) refl); marks = t.marks }

abbrev pub compared : List Meaning → ℕ × Entry → Bool
compared ms p = has_marks (marks_at ms p.0) (held p.1.columns.marks)

all_from : (es : List Entry) (ms : List Meaning) (i : ℕ) → i + length es ≡ length ms → list_all (compared ms) (enumerate_from i es) ≡ describes (map entry_columns es) (drop i ms)
all_from [] ms i h = rw (drop_all i ms (omega arith)) refl
all_from (e ∷ es) ms i h =
    let t = there ms i (omega arith) in
    rw (t.next, t.marks) (ap (λ (b : Bool). same_marks (held e.columns.marks) t.meaning.marks && b) (all_from es ms (i + 1) (omega arith)))

pub all_compared : (es : List Entry) (ms : List Meaning) → length (map entry_columns es) ≡ length ms → list_all (compared ms) (enumerate_from 0 es) ≡ describes (map entry_columns es) ms
all_compared es ms h = all_from es ms 0 (omega (arith, length-map es entry_columns))
