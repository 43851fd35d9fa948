-- A call to a rack, seen from a rack that has one source more in front.
use Rattle.std.proofs.Common.{◌≡◌, ℕ, suc, ◌+◌, ◌-◌, ◌<◌, min, Bool, true, false, cond, ltb, List, ◌∷◌, length, Some, None, Ok, Err, Option, Result, MatchResult, IsErrAnd, sym, refl, ap, ◌∙◌, subst, arith}
use Rattle.std.specs.Option.{option_map}
use Rattle.faults.specs.declared.fault.Fault.{Fault}
use Rattle.faults.specs.declared.refusal.Refusal.TheVariants.{MemoryTooShort, NotInCatalogue}
use Rattle.faults.specs.Faults.{bare, layered, from_source, next_source}
use Rattle.source.specs.Meaning.{Meaning}
use Rattle.source.specs.Calls.{refusal}
use Rattle.source.specs.Racks.{meaning_at, absent, refusal_by, AnsweredAt, RefusedAt, CalledAt}

absent_stays : (room : ℕ) → next_source (absent room) ≡ absent room
absent_stays room = go (ltb room 256)
  where
    go : (b : Bool) → next_source (cond b (layered MemoryTooShort 0) (bare NotInCatalogue)) ≡ cond b (layered MemoryTooShort 0) (bare NotInCatalogue)
    go true = refl
    go false = refl

numbered_on : (i : ℕ) (f : Fault) → next_source (from_source i f) ≡ from_source (suc i) f
numbered_on i f = let e : min (min i 255 + 1) 255 ≡ min (suc i) 255 = omega arith in ap (λ n. record { refusal = f.refusal; layer = f.layer; source = n; literal = f.literal; detail = f.detail }) e

refused_by_next : (o : Option Meaning) (i : ℕ) (inputs : List ℕ) (room : ℕ) (fault : Fault) → refusal_by o i inputs room ≡ Some fault → refusal_by o (suc i) inputs room ≡ Some (next_source fault)
refused_by_next None i inputs room fault h = let e : absent room ≡ fault = cc in ap Some (sym (absent_stays room) ∙ ap next_source e)
refused_by_next (Some m) i inputs room fault h = go (refusal m inputs room) h
  where
    go : (o : Option Fault) → option_map (from_source i) o ≡ Some fault → option_map (from_source (suc i)) o ≡ Some (next_source fault)
    go None e = cc
    go (Some f) e = let q : from_source i f ≡ fault = cc in ap Some (sym (numbered_on i f) ∙ ap next_source q)

refused_beside : (m : Meaning) (ms ms' : List Meaning) (source : ℕ) (inputs memory memory' : List ℕ) (fault : Fault) → 0 < source → RefusedAt (source - 1) ms ms' inputs memory memory' fault → RefusedAt source (m ∷ ms) (m ∷ ms') inputs memory memory' (next_source fault)
refused_beside m ms ms' source inputs memory memory' fault h r =
    let e : suc (source - 1) ≡ source = omega arith in
    subst (λ i. RefusedAt i (m ∷ ms) (m ∷ ms') inputs memory memory' (next_source fault)) e
    (record { why = refused_by_next (meaning_at ms (source - 1)) (source - 1) inputs (length memory) fault r.why; same = ap (λ z. m ∷ z) r.same; kept = r.kept })

answered_beside : (m : Meaning) (ms ms' : List Meaning) (source : ℕ) (inputs memory memory' : List ℕ) (count : ℕ) → 0 < source → AnsweredAt (source - 1) ms ms' inputs memory memory' count → AnsweredAt source (m ∷ ms) (m ∷ ms') inputs memory memory' count
answered_beside m ms ms' source inputs memory memory' count h a =
    let e : suc (source - 1) ≡ source = omega arith in
    subst (λ i. AnsweredAt i (m ∷ ms) (m ∷ ms') inputs memory memory' count) e
    (record { called = a.called; after = a.after; there = a.there; answered = a.answered; others = ap (λ z. m ∷ z) a.others })

-- a call to the rack, with its fault told of the rack that has one source more
pub called_beside : (m : Meaning) (ms ms' : List Meaning) (source : ℕ) (inputs memory memory' : List ℕ) (r r' : Result ℕ Fault) → 0 < source → CalledAt (source - 1) ms ms' inputs memory memory' r → MatchResult r (λ count. r' ≡ Ok count) (λ fault. IsErrAnd r' (λ told. told ≡ next_source fault)) → CalledAt source (m ∷ ms) (m ∷ ms') inputs memory memory' r'
called_beside m ms ms' source inputs memory memory' (Ok count) r' h a e = subst (λ z. CalledAt source (m ∷ ms) (m ∷ ms') inputs memory memory' z) (sym e) (answered_beside m ms ms' source inputs memory memory' count h a)
called_beside m ms ms' source inputs memory memory' (Err fault) (Ok count) h a e = absurd e
called_beside m ms ms' source inputs memory memory' (Err fault) (Err told) h a e = subst (λ z. RefusedAt source (m ∷ ms) (m ∷ ms') inputs memory memory' z) (sym e) (refused_beside m ms ms' source inputs memory memory' fault h a)
