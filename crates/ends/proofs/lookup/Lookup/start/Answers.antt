use Rattle.std.proofs.Common.{◌≤◌, List, ℕ, length, take, sym, ap, ◌∙◌, rules, arith}
use borrow.Author.Tests.{tests}
use Rattle.std.proofs.lemmas.Bool.{eqb-true}
use Rattle.std.proofs.lemmas.List.Sorted.{IsPartitionPoint-from_clause}
use Rattle.source.specs.Rows.{before}
use Rattle.source.specs.Marks.{inputs_of}
use Rattle.files.specs.Tables.{table_marks, table_cells}
use Rattle.ends.proofs.Searching.{parted, below_point, beyond_point}
use Rattle.ends.proofs.Scanning.{none_below, inputs_at_most_columns}
use Rattle.ends.proofs.lookup.Lookup.start.Goals as goal

pub returns : goal.returns
returns c =
    let t = c.args.self.now.table.now in
    let marks = table_marks t in
    let cells = table_cells t in
    let inputs = c.args.self.now.inputs.now in
    let as_many = c.args.self.now.as_many in
    let place = c.partition_point.result in
    let few : length inputs ≤ length marks = omega (arith, inputs_at_most_columns marks) in
    let leading = eqb-true (inputs_of (take (length inputs) marks)) (length inputs) (sym c.requires.order ∙ c.if-not-leads.false) in
    let point = rw c.rows-rows.ensures.value at (IsPartitionPoint-from_clause (λ (cell : List ℕ). before (take (length inputs) cell) inputs) c.rows-rows.result.now place c.partition_point.ensures.partitioned (rw c.rows-rows.ensures.value (parted (length marks) cells inputs few t.rows.ascends)) (λ a r f k. search (rules, tests))) in
    let inside : place ≤ length cells = omega (arith, c.partition_point.ensures.bound, ap length c.rows-rows.ensures.value) in
    record {
      inside = inside;
      none = none_below marks inputs cells t.rows.ascends as_many leading place inside (below_point (length marks) cells inputs few place point inside);
      beyond = λ _. beyond_point (length marks) cells inputs few place point inside;
    }
