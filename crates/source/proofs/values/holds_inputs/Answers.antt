use Rattle.std.proofs.Common.{sym, ap, ◌∙◌, inl, inr}
use Rattle.source.specs.Rows.{same}
use Rattle.source.proofs.Columns.{picked_given, picked_free, same_short, same_other, same_more, same_ended}
use Rattle.source.proofs.values.holds_inputs.Goals as goal

pub returns-in_default : goal.returns-in_default
returns-in_default c =
    let h = c.in-Some.ensures.steps in
    record { value = sym (same_short (picked_given _ h.0 h.1 c.if-is_given.ensures.value) _ c.in_default.ensures.cases) ∙ c.loop-mark.invariant }

pub returns-then-input-value : goal.returns-then-input-value
returns-then-input-value c =
    let h = c.in-Some.ensures.steps in
    record { value = sym (same_other (picked_given _ h.0 h.1 c.if-is_given.ensures.value) c.in-Some-split_first.ensures.cases.0 c.if-input-value.true) ∙ c.loop-mark.invariant }

pub loop-mark-preserved-then-is_given : goal.loop-mark-preserved-then-is_given
loop-mark-preserved-then-is_given c =
    let h = c.in-Some.ensures.steps in
    sym (same_more (picked_given _ h.0 h.1 c.if-is_given.ensures.value) c.in-Some-split_first.ensures.cases.0 c.if-input-value.false) ∙ c.loop-mark.invariant

pub loop-mark-preserved : goal.loop-mark-preserved
loop-mark-preserved c =
    let h = c.in-Some.ensures.steps in
    ap (λ q. same q c.loop-mark.left.now) (sym (picked_free _ h.0 h.1 c.if-is_given.ensures.value)) ∙ c.loop-mark.invariant

pub returns : goal.returns
returns c =
    record { value = c.is_empty.ensures ∙ (sym (same_ended _ _ _ (elim c.in-None.ensures.steps [ inl m ↦ inl m.1.0 | inr v ↦ inr v.1.0 ])) ∙ c.loop-mark.invariant) }
