use Rattle.std.proofs.Common.{◌≡◌, length, None, ap, ◌∙◌, arith}
use Rattle.source.specs.Marks.{inputs_of}
use Rattle.source.specs.Calls.{Answered}
use Rattle.layers.specs.Memory.{kept_all, recalled, from_memory, Remembers}
use Rattle.layers.proofs.Answering.{answered_there, answered_below, answer_sound, learned}
use Rattle.layers.proofs.memo.MemoSource.call.Given.{Over}
use Rattle.layers.proofs.memo.MemoSource.call.Goals.{After-marks-3, In_ok-count}
use Rattle.layers.proofs.memo.MemoSource.call.Goals as goal

-- the source below answered
answered : (g : Over) (c : In_ok-count g) → Answered (g.S.Source.meaning c.args.self.now.below) (g.S.Source.meaning c.call.new.self) c.args.inputs.now c.args.memory.now c.call.new.memory c.in_ok-count.count
answered g c = answered_there _ _ c.args.inputs.now c.args.memory.now c.call.new.memory c.call.result c.map_err.result c.in_ok-count.count _ c.call.ensures.called c.map_err.ensures.cases c.in_ok-count.was

-- its marks are still those under which was asked
marks_asked : (g : Over) (c : After-marks-3 g) → Answered (g.S.Source.meaning c.args.self.now.below) (g.S.Source.meaning c.call.new.self) c.args.inputs.now c.args.memory.now c.call.new.memory c.in_ok-count.count → c.marks-3.result.now ≡ (g.S.Source.meaning c.args.self.now.below).marks
marks_asked g c b = c.marks-3.ensures.value ∙ b.later.marks

pub remember-requires-clause-columns : goal.remember-requires-clause-columns
remember-requires-clause-columns g c =
    let at = goal.at.remember-requires-clause-columns g c in
    omega (arith, ap length (marks_asked g at.After-marks-3 (answered g at.In_ok-count)), (g.met.S.Source.lawful c.args.self.now.below).four_columns)

pub remember-requires-clause-given : goal.remember-requires-clause-given
remember-requires-clause-given g c = omega (arith, c.in_ok-admit.ensures.admitted.2, ap inputs_of c.marks.ensures.value, (g.met.S.Source.lawful c.args.self.now.below).three_given)

pub remember-requires-clause-sound : goal.remember-requires-clause-sound
remember-requires-clause-sound g c =
    let s = c.args.self.now.below in
    let at = goal.at.remember-requires-clause-sound g c in
    λ few. rw (marks_asked g at.After-marks-3 (answered g at.In_ok-count)) (answer_sound (g.S.Source.meaning s) (g.S.Source.meaning c.call.new.self) c.args.inputs.now c.args.memory.now c.call.new.memory c.in_ok-count.count (g.met.S.Source.lawful s) (answered g at.In_ok-count) few)

pub returns-clause-called : goal.returns-clause-called
returns-clause-called g c =
    let at = goal.at.returns-clause-called g c in
    let s = c.args.self.now.below in
    let m = g.S.Source.meaning s in
    let m' = g.S.Source.meaning c.call.new.self in
    let w = g.met.S.Source.lawful s in
    let table = c.args.self.now.table in
    let inputs = c.args.inputs.now in
    let memory = c.args.memory.now in
    let count = c.in_ok-count.count in
    let new : recalled (kept_all table) m.marks inputs ≡ None = rw c.marks-2.ensures.value at c.in_default.ensures in
    let b = answered g at.In_ok-count in
    let remembers : Remembers table c.remember.new.self (from_memory m.marks inputs count c.call.new.memory) = rw (marks_asked g at.After-marks-3 b) at c.remember.ensures in
    answered_below m m' inputs memory c.call.new.memory count w b (kept_all table) (kept_all c.remember.new.self) new (learned m m' inputs memory c.call.new.memory count w b table c.remember.new.self new remembers)
