use Rattle.std.proofs.Common.{sym, ap, ◌∙◌, arith, rules}
use Rattle.source.specs.Marks.{inputs_of}
use Rattle.catalogue.proofs.Taking.{was_some, has_mark}
use Rattle.catalogue.proofs.state.Reader.take_mark.Goals as goal
use Rattle.catalogue.proofs.state.Reader.take_mark.Goals.{else-eq-via-then-eq+else-count_inputs-ge-GIVEN_MAX, else-eq-via-else-eq}

pub returns : goal.returns
returns c =
    let read = sym (was_some c.mark_of.result _ _ c.in_ok-mark.ensures.value) ∙ c.mark_of.ensures.value in
    let few = ap inputs_of c.as_slice-marks.ensures.value in
    record {
      taken = λ ls n cs k behind. has_mark c.args.self.now c.args.kind c.args.token.now ls n cs k behind c.in_ok-mark.mark read
          (λ given. elim c.else-eq.branch [ else-eq-via-then-eq+else-count_inputs-ge-GIVEN_MAX w ↦ omega (arith, few) | else-eq-via-else-eq w ↦ absurd (search rules) ]) c.push.new.self c.push.ensures.kinds c.push.ensures.marks;
    }
