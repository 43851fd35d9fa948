-- What holds of every catalogue: at most eight sources, as many lists of columns as names, and at most four columns each.
use Rattle.std.proofs.Common.{◌≡◌, ℕ, zero, suc, ◌≤◌, List, [], ◌∷◌, map, length, get_or, arith}
use Rattle.std.proofs.lemmas.List.{length-map}
use Rattle.bounded.specs.Held.{held}
use Rattle.bounded.proofs.Holding.{length_most}
use Rattle.catalogue.specs.declared.columns.Entry.{Entry}
use Rattle.catalogue.specs.declared.record.Catalogue.{Catalogue}
use Rattle.catalogue.specs.Plain.{entry_name, entry_columns, no_columns}
use Rattle.catalogue.specs.Records.{source_names, source_columns, columns_of}

pub few_sources : (c : Catalogue) → length (source_names c) ≤ 8
few_sources c = omega (arith, length-map (held c.entries) entry_name, length_most c.entries)

pub as_many_columns : (c : Catalogue) → length (source_names c) ≡ length (source_columns c)
as_many_columns c = omega (arith, length-map (held c.entries) entry_name, length-map (held c.entries) entry_columns)

few_in : (es : List Entry) (i : ℕ) → length (get_or (map entry_columns es) i no_columns).kinds ≤ 4
few_in [] i = omega arith
few_in (e ∷ es) zero = length_most e.columns.kinds
few_in (e ∷ es) (suc i) = few_in es i

pub few_columns : (c : Catalogue) (i : ℕ) → length (columns_of c i).kinds ≤ 4
few_columns c i = few_in (held c.entries) i
