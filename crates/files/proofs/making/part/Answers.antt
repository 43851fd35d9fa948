use Rattle.std.proofs.Common.{◌≡◌, ◌++◌, [], ◌∷◌, List, length, sym, ap, ◌∙◌, subst, arith, false}
use Rattle.std.proofs.lemmas.List.{take_at}
use Rattle.source.specs.declared.mark.Mark.{Mark}
use Rattle.source.specs.Rows.{ascending}
use Rattle.files.specs.Listed.{rows_marks, rows_values}
use Rattle.files.specs.Making.{Unfit, Divided}
use Rattle.files.proofs.Pushing.{values_true, whole_row, whole_push}
use Rattle.files.proofs.Heads.{columns_header}
use Rattle.files.proofs.Dividing.{Cutting, cutting_more, cutting_all, values_cut}
use Rattle.files.proofs.Storing.{unfit_order, few_rows}
use Rattle.files.proofs.making.part.Goals as goal

pub returns-then-not-push : goal.returns-then-not-push
returns-then-not-push c =
    let rows = c.loop-chunk.rows in
    let width : c.width-width.result ≡ length (rows_marks rows) = c.width-width.ensures ∙ ap length (sym c.loop-chunk.invariant.0) in
    let step = c.in-Some.ensures.steps in
    let wide : length c.in-Some.chunk.now ≡ length (rows_marks rows) = step.1.1 ∙ c.loop-chunk.invariant.1 ∙ width in
    let more = cutting_more rows.columns.some c.loop-chunk.invariant.2 c.in-Some.chunk.now c.next.new.self.rest.now step.1.0 wide in
    let falls : ascending (rows_values rows ++ c.in-Some.chunk.now ∷ []) ≡ false = rw (c.copy_from_slice.ensures.after, take_at) at (sym c.push.ensures.follows ∙ c.if-not-push.true) in
    let small = values_true c.args.values.now (λ i. omega (arith, c.type_inv.values i)) in
    let first = values_cut (rows_values rows) c.loop-chunk.invariant.2.values_are c.in-Some.chunk.now c.next.new.self.rest.now step.1.0 small in
    let whole = whole_push (rows_marks rows) (rows_values rows) c.in-Some.chunk.now rows.whole (whole_row (rows_marks rows) c.in-Some.chunk.now wide first) in
    let unfit = unfit_order rows.columns.some (λ n h. columns_header rows.columns h) small whole more falls c.bare-then-not-push.ensures.value in
    subst (λ (ms : List Mark). Unfit ms c.args.values.now c.bare-then-not-push.result) c.loop-chunk.invariant.0 unfit

pub loop-chunk-preserved : goal.loop-chunk-preserved
loop-chunk-preserved c =
    let rows = c.loop-chunk.rows in
    let width : c.width-width.result ≡ length (rows_marks rows) = c.width-width.ensures ∙ ap length (sym c.loop-chunk.invariant.0) in
    let step = c.in-Some.ensures.steps in
    let wide : length c.in-Some.chunk.now ≡ length (rows_marks rows) = step.1.1 ∙ c.loop-chunk.invariant.1 ∙ width in
    let more = cutting_more rows.columns.some c.loop-chunk.invariant.2 c.in-Some.chunk.now c.next.new.self.rest.now step.1.0 wide in
    let values : rows_values c.push.new.self ≡ rows_values rows ++ c.in-Some.chunk.now ∷ [] = rw (c.if-not-push.false, c.copy_from_slice.ensures.after, take_at) at c.push.ensures.values in
    (c.push.ensures.marks ∙ c.loop-chunk.invariant.0, step.0 ∙ c.loop-chunk.invariant.1, subst (λ (ms : List Mark). Cutting ms c.args.values.now (rows_values c.push.new.self) c.next.new.self.rest.now) (sym c.push.ensures.marks) (rw values more))

pub returns : goal.returns
returns c =
    let rows = c.loop-chunk.rows in
    let width : c.width-width.result ≡ length (rows_marks rows) = c.width-width.ensures ∙ ap length (sym c.loop-chunk.invariant.0) in
    let step = c.in-None.ensures.steps in
    let divided = cutting_all rows.columns.some c.loop-chunk.invariant.2 (columns_header rows.columns (few_rows rows)) (omega (arith, step.1.0)) rows.whole in
    (c.loop-chunk.invariant.0, subst (λ (ms : List Mark). Divided ms c.args.values.now (rows_values rows)) c.loop-chunk.invariant.0 divided)
