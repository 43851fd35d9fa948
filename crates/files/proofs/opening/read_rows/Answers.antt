use Rattle.std.proofs.Common.{◌≡◌, ℕ, ◌+◌, List, length, sym, ap, ◌∙◌, subst, arith}
use Rattle.std.proofs.lemmas.List.{length_push}
use Rattle.bounded.proofs.Holding.{length_most}
use Rattle.source.specs.declared.mark.Mark.{Mark}
use Rattle.files.specs.Listed.{rows_marks, rows_values}
use Rattle.files.specs.Refusing.{Front}
use Rattle.files.proofs.Fronts.{turn}
use Rattle.files.proofs.opening.read_rows.Goals as goal

pub loop-preserved : goal.loop-preserved
loop-preserved c =
    let rows = c.loop.rows in
    let width : c.width-width.result ≡ length (rows_marks rows) = c.width-width.ensures ∙ ap length (sym c.loop.invariant.0) in
    let more = rw c.if-not-push.false at c.push.ensures.values in
    let front = turn (rows_values rows) (length_most rows.columns.marks) (omega arith) c.loop.invariant.2 (rows_values c.push.new.self) c.push.result (rw width at c.in_ok-row.ensures) c.push.ensures.follows c.push.ensures.values c.if-not-push.false in (
      c.push.ensures.marks ∙ c.loop.invariant.0,
      ap length more ∙ length_push (rows_values rows) _ ∙ ap (λ (n : ℕ). n + 1) c.loop.invariant.1,
      subst (λ (ms : List Mark). Front c.args.bytes.now ms c.args.head.count (rows_values c.push.new.self) c.in_ok-row.to) (sym c.push.ensures.marks) front,
    )
