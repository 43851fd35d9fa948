use Rattle.std.proofs.Common.{◌≡◌, true, sym, ap, ◌∙◌, rules}
use Rattle.std.proofs.Math.Bool.{and-true}
use Rattle.std.proofs.lemmas.Bool.{and_right}
use Rattle.source.specs.Rows.{same}
use Rattle.source.specs.Marks.{same_marks}
use Rattle.bounded.specs.Held.{held}
use Rattle.layers.proofs.asked.Asked.is_for.Goals as goal

pub returns-then-same_values : goal.returns-then-same_values
returns-then-same_values c =
    let found : same (held c.args.self.now.inputs) c.args.inputs.now ≡ true = ap (λ z. same z c.args.inputs.now) (sym c.as_slice.ensures.value) ∙ sym c.same_values.ensures.value ∙ c.if-same_values.true in
    rw (found, and-true (same_marks (held c.args.self.now.marks) c.args.marks.now)) (search rules)

pub returns-else-same_values : goal.returns-else-same_values
returns-else-same_values c =
    c.if-same_values.false ∙ sym (and_right (same_marks (held c.args.self.now.marks) c.args.marks.now) (same (held c.args.self.now.inputs) c.args.inputs.now) (ap (λ z. same z c.args.inputs.now) (sym c.as_slice.ensures.value) ∙ sym c.same_values.ensures.value ∙ c.if-same_values.false))
