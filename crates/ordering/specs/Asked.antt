-- The literals of a query, each with the marks of its source.
use Rattle.std.specs.Prelude.{List, map, slice_index_or}
use Rattle.bounded.specs.Held.{held}
use Rattle.catalogue.specs.Plain.{PlainColumns, no_columns}
use Rattle.catalogue.specs.Records.{source_columns}
use Rattle.query.specs.declared.term.Literal as record_literal
use Rattle.query.specs.declared.record.Query.{Query}
use Rattle.ordering.specs.Literals.{Literal}

-- a literal of the record, with the marks of its source's columns
abbrev pub asked : List PlainColumns → record_literal.Literal → Literal
asked columns l = record { marks = (slice_index_or columns l.source no_columns).marks; terms = held l.terms }

abbrev pub asked_literals : Query → List Literal
asked_literals q = map (asked (source_columns q.catalogue)) (held q.literals)
