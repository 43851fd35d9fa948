-- The literals of a query, place by place.
use Rattle.std.proofs.Common.{◌≡◌, ℕ, ◌<◌, ◌≤◌, List, map, length, slice_index_or, arith}
use Rattle.std.proofs.lemmas.List.{get_or-map, get_or_past, length-map}
use Rattle.catalogue.specs.Plain.{PlainColumns}
use Rattle.query.specs.declared.term.Literal as record_literal
use Rattle.ordering.specs.Literals.{no_literal, literal_at}
use Rattle.ordering.specs.Asked.{asked}

-- past the last there is no literal
pub literal_past : (columns : List PlainColumns) (ls : List record_literal.Literal) (place : ℕ) → length ls ≤ place → literal_at (map (asked columns) ls) place ≡ no_literal
literal_past columns ls place h = get_or_past (map (asked columns) ls) place no_literal (omega (arith, length-map ls (asked columns)))

-- at every other place it is the query's literal, with the marks of its source
pub literal_here : (columns : List PlainColumns) (ls : List record_literal.Literal) (place : ℕ) (d : record_literal.Literal) → place < length ls → literal_at (map (asked columns) ls) place ≡ asked columns (slice_index_or ls place d)
literal_here columns ls place d h = get_or-map (asked columns) ls place d no_literal h
