use Rattle.std.proofs.Common.{ltb, leb, length, vec_len, sym, refl, arith}
use Rattle.std.proofs.lemmas.Bool.{and_from, le-leb}
use Rattle.source.specs.Rows.{rows_in}
use Rattle.source.proofs.Chunks.{length_rows_in}
use Rattle.layers.proofs.table.Table.remember.Goals as goal

pub returns-in-Some : goal.returns-in-Some
returns-in-Some c =
    let rows = rows_in (length c.args.marks.now) c.args.count c.args.memory.now in
    let few = le-leb (length rows) 8 (omega (arith, length_rows_in (length c.args.marks.now) c.args.count c.args.memory.now, c.if-count-gt-ENTRY_ROWS.false)) in
    rw (and_from (leb (length rows) 8) (ltb c.args.self.now.used (vec_len c.args.self.now.entries)) few (sym c.in-Some.ensures.some)) (record { entry = c.of.result; remembers = rw (← c.new.ensures.marks, ← c.new.ensures.inputs) c.of.ensures; entries = refl; used = refl })
