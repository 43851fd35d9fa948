-- The literals of a query as a conjunction.
use Rattle.std.specs.Prelude.{◌≡◌, ℕ, zero, suc, ◌<◌, ◌≤◌, true, ◌&&◌, List, [], ◌∷◌, map, length, get_or, ◌==◌, nat_lt}
use Rattle.std.proofs.Common.{sym, ◌∙◌, subst, arith, length-take}
use mathlib.Core.List.{Memᴰ}
use Rattle.std.proofs.lemmas.List.{length-map}
use Rattle.std.proofs.lemmas.Bool.{and_parts, eqb-true, ltb-true}
use Rattle.bounded.specs.Held.{held}
use Rattle.catalogue.specs.Plain.{PlainColumns, no_columns, shaped, all_shaped}
use Rattle.catalogue.specs.Records.{source_columns}
use Rattle.query.specs.declared.term.Term as record_term
use Rattle.query.specs.declared.term.Literal as record_literal
use Rattle.query.specs.declared.record.Query.{Query}
use Rattle.query.specs.Plain.{plain_term, plain_literal, below, all_below, fitting, all_fitting, all_occur}
use Rattle.ordering.specs.Literals.{literal_at, Numbered, Proper, WellFormed}
use Rattle.ordering.specs.Asked.{asked, asked_literals}

-- variables stand below the count
numbered : (count : ℕ) (terms : List record_term.Term) → count ≤ 16 → all_below count (map plain_term terms) ≡ true → Numbered terms
numbered count [] few h v m = elim m [ ]
numbered count (t ∷ ts) few h v (Memᴰ.head e) =
    let here = (and_parts (below count (plain_term t)) (all_below count (map plain_term ts)) h).0 in
    omega (arith, ltb-true v count (subst (λ z. below count (plain_term z) ≡ true) (sym e) here))
numbered count (t ∷ ts) few h v (Memᴰ.tail m) = numbered count ts few (and_parts (below count (plain_term t)) (all_below count (map plain_term ts)) h).1 v m

shape_of : (n : ℕ) (columns : List PlainColumns) (i : ℕ) → i < length columns → all_shaped n columns ≡ true → length (get_or columns i no_columns).kinds ≡ length (get_or columns i no_columns).marks
shape_of n [] i h s = let z : ⊥ = omega arith in absurd z
shape_of n (c ∷ cs) zero h s = eqb-true (length c.kinds) (length c.marks) (and_parts (length c.kinds == length c.marks) _ (and_parts (shaped n c) (all_shaped n cs) s).0).0
shape_of n (c ∷ cs) (suc i) h s = shape_of n cs i (omega arith) (and_parts (shaped n c) (all_shaped n cs) s).1

proper_one : (n count : ℕ) (columns : List PlainColumns) (l : record_literal.Literal) → count ≤ 16 → all_shaped n columns ≡ true → fitting columns count (plain_literal l) ≡ true → Proper (asked columns l)
proper_one n count columns l few s f =
    let p = and_parts (nat_lt l.source (length columns)) (length (plain_literal l).terms == length (get_or columns l.source no_columns).kinds && all_below count (plain_literal l).terms) f in
    let q = and_parts (length (plain_literal l).terms == length (get_or columns l.source no_columns).kinds) (all_below count (plain_literal l).terms) p.1 in
    let as_many = eqb-true (length (plain_literal l).terms) (length (get_or columns l.source no_columns).kinds) q.0 in
    record {
      paired = sym (length-map (held l.terms) plain_term) ∙ as_many ∙ shape_of n columns l.source (ltb-true l.source (length columns) p.0) s;
      numbered = numbered count (held l.terms) few q.1;
    }

proper_at : (n count : ℕ) (columns : List PlainColumns) (ls : List record_literal.Literal) (place : ℕ) → count ≤ 16 → all_shaped n columns ≡ true → all_fitting columns count (map plain_literal ls) ≡ true → place < length ls → Proper (literal_at (map (asked columns) ls) place)
proper_at n count columns [] place few s f h = let z : ⊥ = omega arith in absurd z
proper_at n count columns (l ∷ ls) zero few s f h = proper_one n count columns l few s (and_parts (fitting columns count (plain_literal l)) (all_fitting columns count (map plain_literal ls)) f).0
proper_at n count columns (l ∷ ls) (suc place) few s f h = proper_at n count columns ls place few s (and_parts (fitting columns count (plain_literal l)) (all_fitting columns count (map plain_literal ls)) f).1 (omega arith)

pub well_formed : (q : Query) → WellFormed (asked_literals q)
well_formed q = record {
  few = omega (arith, length-map (held q.literals) (asked (source_columns q.catalogue)), length-take q.literals.used q.literals.items, q.literals.within);
  proper = λ place h. proper_at q.catalogue.kinds.used q.variables.used (source_columns q.catalogue) (held q.literals) place q.variables.within q.catalogue.shaped (and_parts (all_fitting (source_columns q.catalogue) q.variables.used (map plain_literal (held q.literals))) (all_occur (held q.head) (map plain_literal (held q.literals))) q.sound).0 (omega (arith, length-map (held q.literals) (asked (source_columns q.catalogue))));
}
