-- `writer::varint::write_varint` meets its contract. The invariant: the digits of `rest` are still to be stored, before place i.
use Prim.Native.Nat.{ℕ, ◌-◌}
use lib.ListN.{length-set}
use native.Mathlib.Omega.{arith}
use Rattle.message.proofs.Varints.{spell_length}
use Rattle.writer.proofs.Spelling.{stored_last, stored_more, stored_all}
use Rattle.writer.proofs.Laying.{lay_short, room_fits}
use Rattle.writer.proofs.varint.write_varint.Goals as goal

pub returns-then-out-n : goal.returns-then-out-n
returns-then-out-n c =
    let both = lay_short _ _ (omega arith) in
    record { result_value = both.0; out_after = both.1 }

pub loop-i-init : goal.loop-i-init
loop-i-init c =
    let a = c.args in
    let n = c.width-n.result in
    let some = spell_length a.v in
    (omega arith, omega arith, stored_last a.out.now a.v (n - 1) n (omega arith) (omega arith))

pub loop-i-preserved : goal.loop-i-preserved
loop-i-preserved c =
    let l = c.loop-i in
    let t = stored_more l.out l.rest l.i _ l.invariant.0 (omega arith) c.loop-i-test.true (omega (arith, length-set {A = ℕ})) l.invariant.2 in
    (t.0, omega arith, t.1)

pub returns : goal.returns
returns c =
    let l = c.loop-i in
    let w = c.width-n in
    let a = c.args in
    let done = stored_all l.out a.out.now l.rest l.i a.v w.result l.invariant.0 (omega arith) c.loop-i-test.false w.ensures (omega arith) l.invariant.2 in
    record { result_value = room_fits _ _ (omega arith); out_after = done }
