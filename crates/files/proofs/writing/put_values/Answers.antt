use Rattle.std.proofs.Common.{ℕ, ◌+◌, ◌≤◌, List, length, Ok, Err, Result, refl, arith}
use Rattle.std.specs.Result.{IsOk}
use Rattle.faults.specs.declared.fault.Fault.{Fault}
use Rattle.numbers.specs.Forms.{encode}
use Rattle.numbers.specs.Writing.{Written}
use Rattle.files.proofs.Sizes.{value_fits}
use Rattle.files.proofs.Filling.{put_none, put_value}
use Rattle.files.proofs.writing.put_values.Goals as goal

-- where there is room for a value, it is written
roomy : (r : Result ℕ Fault) (before after : List ℕ) (at value : ℕ) → Written before after at value r → at + length (encode value) ≤ length before → IsOk r
roomy (Ok count) before after at value w h = refl
roomy (Err fault) before after at value w h = absurd (omega (arith, w.0))

pub loop-value-init : goal.loop-value-init
loop-value-init c = put_none c.args.memory.now c.args.at

pub unwrap-to-requires : goal.unwrap-to-requires
unwrap-to-requires c = roomy _ _ _ _ _ c.write.ensures.written (omega (arith, value_fits c.loop-value.value-index c.args.values.now c.loop-value-test.true, c.loop-value.invariant.0))

pub loop-value-preserved : goal.loop-value-preserved
loop-value-preserved c =
    let fits = value_fits c.loop-value.value-index c.args.values.now c.loop-value-test.true in
    let w : Written c.loop-value.memory c.write.new.memory _ _ (Ok c.unwrap-to.result) = rw c.unwrap-to.ensures at c.write.ensures.written in
    let put = put_value _ _ _ _ _ c.loop-value.value-index c.args.values.now c.loop-value-test.true (omega arith) (omega arith, c.loop-value.invariant.1) w.2 in
    (omega (arith, w.0, put.0), put.1)
