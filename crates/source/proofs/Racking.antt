-- What calls do to a rack.
use Rattle.std.proofs.Common.{◌≡◌, ℕ, zero, suc, ◌≤◌, Bool, List, [], ◌∷◌, length, set, Some, None, Option, sym, refl, ap, ◌∙◌, subst, arith, le-ltb, eq-eqb}
use Rattle.std.specs.Option.{option_map}
use Rattle.faults.specs.declared.fault.Fault.{Fault}
use Rattle.faults.specs.declared.refusal.Refusal.{Refusal}
use Rattle.faults.specs.Faults.{layered, from_source}
use Rattle.source.specs.declared.mark.Mark.{Mark}
use Rattle.source.specs.Marks.{inputs_of}
use Rattle.source.specs.Meaning.{Meaning, Bar, clear, barred}
use Rattle.source.specs.Calls.{misuse, bar_fault, earlier, refusal}
use Rattle.source.specs.Racks.{meaning_at, refusal_by, AnsweredAt, RefusedAt, InRelation, Replied, Barred, Rebarred, no_source, one_more}

pub same_meaning : (m n : Meaning) → ◌≡◌ {A = Option Meaning} (Some m) (Some n) → m ≡ n
same_meaning m n e = cc

no_meaning : {X : Type 0} (m : Meaning) → ◌≡◌ {A = Option Meaning} None (Some m) → X
no_meaning m e = let z : ◌≡◌ {A = ℕ} 0 1 = cc in absurd (omega arith)

-- racks that differ in bars alone
pub rebarred_refl : (ms : List Meaning) → Rebarred ms ms
rebarred_refl [] = no_source
rebarred_refl (m ∷ ms) = one_more refl refl (rebarred_refl ms)

pub rebarred_trans : {a b c : List Meaning} → Rebarred a b → Rebarred b c → Rebarred a c
rebarred_trans no_source no_source = no_source
rebarred_trans (one_more p q r) (one_more s t u) = one_more (s ∙ p) (t ∙ q) (rebarred_trans r u)

pub rebarred_sym : {a b : List Meaning} → Rebarred a b → Rebarred b a
rebarred_sym no_source = no_source
rebarred_sym (one_more p q r) = one_more (sym p) (sym q) (rebarred_sym r)

-- the source of a number in the one and in the other
pub record SameAt (ms : List Meaning) (i : ℕ) (m : Meaning) : Type 0 where
  pub other : Meaning
  pub there : meaning_at ms i ≡ Some other
  pub marks : other.marks ≡ m.marks
  pub relation : other.relation ≡ m.relation

pub rebarred_at : {a b : List Meaning} (i : ℕ) (m : Meaning) → Rebarred a b → meaning_at a i ≡ Some m → SameAt b i m
rebarred_at i m no_source e = no_meaning m e
rebarred_at zero m (one_more {m = x} {m' = y} p q r) e =
    let s = same_meaning x m e in
    record { other = y; there = refl; marks = p ∙ ap (λ (z : Meaning). z.marks) s; relation = q ∙ ap (λ (z : Meaning). z.relation) s }
rebarred_at (suc i) m (one_more p q r) e =
    let s = rebarred_at i m r e in
    record { other = s.other; there = s.there; marks = s.marks; relation = s.relation }

pub related_in_both : {a b : List Meaning} (i : ℕ) (row : List ℕ) → Rebarred a b → InRelation a i row → InRelation b i row
related_in_both i row r h =
    let s = rebarred_at i h.asked r h.there in
    record { asked = s.other; there = s.there; related = ap (λ (f : List ℕ → Bool). f row) s.relation ∙ h.related }

set_rebarred : (ms : List Meaning) (i : ℕ) (m m' : Meaning) → meaning_at ms i ≡ Some m → m'.marks ≡ m.marks → m'.relation ≡ m.relation → Rebarred ms (set ms i m')
set_rebarred [] i m m' e p q = no_meaning m e
set_rebarred (x ∷ ms) zero m m' e p q =
    let s = same_meaning x m e in
    one_more (p ∙ ap (λ (z : Meaning). z.marks) (sym s)) (q ∙ ap (λ (z : Meaning). z.relation) (sym s)) (rebarred_refl ms)
set_rebarred (x ∷ ms) (suc i) m m' e p q = one_more refl refl (set_rebarred ms i m m' e p q)

-- an answered call changes bars alone
pub replied_rebarred : (ms ms' : List Meaning) (i : ℕ) (inputs : List ℕ) (rows : List (List ℕ)) → Replied ms ms' i inputs rows → Rebarred ms ms'
replied_rebarred ms ms' i inputs rows r =
    subst (λ (l : List Meaning). Rebarred ms l) (sym r.others) (set_rebarred ms i r.called r.after r.there r.later.marks r.later.relation)

granted_unbarred : (o : Option Fault) (b : Bar) → earlier o (bar_fault b) ≡ None → b ≡ clear
granted_unbarred (Some f) b e = let z : ◌≡◌ {A = ℕ} 0 1 = cc in absurd (omega arith)
granted_unbarred None clear e = refl
granted_unbarred None (barred r l) e = let z : ◌≡◌ {A = ℕ} 0 1 = cc in absurd (omega arith)

-- an answered call to a rack, without its memory
pub answered_replied : (i : ℕ) (ms ms' : List Meaning) (inputs memory memory' : List ℕ) (count : ℕ) (a : AnsweredAt i ms ms' inputs memory memory' count) → Replied ms ms' i inputs a.answered.rows
answered_replied i ms ms' inputs memory memory' count a = record {
  called = a.called;
  after = a.after;
  there = a.there;
  unbarred = granted_unbarred (misuse a.called.marks inputs (length memory)) (a.called.bars inputs) a.answered.granted;
  answer = a.answered.answer;
  later = a.answered.later;
  others = a.others;
}

-- why a call that is well made is refused
pub record WhyRefused (ms : List Meaning) (i : ℕ) (inputs : List ℕ) (fault : Fault) : Type 0 where
  pub why : Refusal
  pub layer : ℕ
  pub barred_so : Barred ms i inputs why layer
  pub told : fault ≡ from_source i (layered why layer)

well_made : (marks : List Mark) (inputs : List ℕ) (room : ℕ) → 256 ≤ room → length inputs ≡ inputs_of marks → misuse marks inputs room ≡ None
well_made marks inputs room h e = rw (le-ltb room 256 h, eq-eqb (length inputs) (inputs_of marks) e) refl

bar_told : (i : ℕ) (b : Bar) (fault : Fault) → option_map (from_source i) (bar_fault b) ≡ Some fault → (why : Refusal) × (layer : ℕ) × (b ≡ barred why layer) × (fault ≡ from_source i (layered why layer))
bar_told i clear fault e = let z : ◌≡◌ {A = ℕ} 0 1 = cc in absurd (omega arith)
bar_told i (barred r l) fault e = let s : from_source i (layered r l) ≡ fault = cc in (r, l, refl, sym s)

pub refused_barred : (i : ℕ) (ms ms' : List Meaning) (inputs memory memory' : List ℕ) (fault : Fault) (m : Meaning) → RefusedAt i ms ms' inputs memory memory' fault →
    256 ≤ length memory → meaning_at ms i ≡ Some m → length inputs ≡ inputs_of m.marks → WhyRefused ms i inputs fault
refused_barred i ms ms' inputs memory memory' fault m r room there counted =
    let by : option_map (from_source i) (refusal m inputs (length memory)) ≡ Some fault = subst (λ (o : Option Meaning). refusal_by o i inputs (length memory) ≡ Some fault) there r.why in
    let bare : option_map (from_source i) (bar_fault (m.bars inputs)) ≡ Some fault = subst (λ (o : Option Fault). option_map (from_source i) (earlier o (bar_fault (m.bars inputs))) ≡ Some fault) (well_made m.marks inputs (length memory) room counted) by in
    let t = bar_told i (m.bars inputs) fault bare in
    record { why = t.0; layer = t.1; barred_so = record { called = m; there = there; bar = t.2 }; told = t.3 }
