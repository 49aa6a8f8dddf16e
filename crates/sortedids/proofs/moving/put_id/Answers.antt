-- `sortedids::moving::put_id` meets its contract.
use Prim.Native.Nat.{◌+◌, ◌-◌, ◌≤◌}
use mathlib.Core.Path.{◌≡◌, ◌∙◌, sym}
use native.Mathlib.Omega.{arith}
use lib.ListN.{length, drop, length-drop}
use lib.Seq.{length-take-le}
use Rattle.sortedids.proofs.moving.put_id.Goals as goal

pub copy_from_slice-requires : goal.copy_from_slice-requires
copy_from_slice-requires c =
    let a = c.args in
    let e : a.at + 32 - a.at ≡ 32 = omega arith in
    let h : 32 ≤ length (drop a.at a.list.now) = rw (length-drop a.at a.list.now) (omega arith) in
    rw e (length-take-le 32 (drop a.at a.list.now) h ∙ sym (length-take-le 32 a.id.now c.requires.1))
