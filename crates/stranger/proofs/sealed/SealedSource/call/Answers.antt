use Rattle.std.proofs.Common.{length, get_or, set, Some, sym, refl, ap, ◌∙◌, subst}
use Rattle.source.specs.Calls.{refusal, Answered}
use Rattle.stranger.specs.Seals.{sealed_row}
use Rattle.stranger.specs.Sealing.{refused_when_broken, answered_none, answered_one, asked_one}
use Rattle.stranger.proofs.sealed.SealedSource.call.Goals as goal

pub returns-then-asked-self : goal.returns-then-asked-self
returns-then-asked-self c =
    let s = c.args.self.now in
    let inputs = c.args.inputs.now in
    let memory = c.args.memory.now in
    let a = c.in_ok-admit.ensures.admitted in
    let asked = asked_one _ inputs (length memory) c.marks.ensures.value a.0 a.2 in
    let why = refused_when_broken s.key s.value s.broken (get_or inputs 0 0) memory asked.admitted c.if-asked-self.true in
    record { called = record { why = ap (λ z. refusal (sealed_row s.key s.value s.broken) z (length memory)) asked.alone ∙ why ∙ ap Some (sym c.layered.ensures.value); same = refl; kept = refl } }

pub returns-then-asked-self-2 : goal.returns-then-asked-self-2
returns-then-asked-self-2 c =
    let s = c.args.self.now in
    let inputs = c.args.inputs.now in
    let memory = c.args.memory.now in
    let a = c.in_ok-admit.ensures.admitted in
    let asked = asked_one _ inputs (length memory) c.marks.ensures.value a.0 a.2 in
    let m = sealed_row s.key s.value s.broken in
    record { called = subst (λ z. Answered m m z memory memory 0) (sym asked.alone) (answered_none s.key s.value s.broken (get_or inputs 0 0) memory asked.admitted c.if-asked-self.false c.if-asked-self-2.true) }

pub returns : goal.returns
returns c =
    let s = c.args.self.now in
    let inputs = c.args.inputs.now in
    let memory = c.args.memory.now in
    let a = c.in_ok-admit.ensures.admitted in
    let asked = asked_one _ inputs (length memory) c.marks.ensures.value a.0 a.2 in
    let m = sealed_row s.key s.value s.broken in
    record { called = subst (λ z. Answered m m z memory (set (set memory 0 (get_or inputs 0 0)) 1 s.value) 1) (sym asked.alone) (answered_one s.key s.value s.broken (get_or inputs 0 0) memory asked.admitted c.if-asked-self.false c.if-asked-self-2.false a.1) }
