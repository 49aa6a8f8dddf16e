-- `removal::keep_unmarked` meets its contract. The invariant: k ids of the window are passed, `Keeping`.
use Prim.Native.Nat.{◌+◌, ◌*◌, ◌≤◌}
use mathlib.Core.Path.{sym, refl, ◌∙◌}
use native.Mathlib.Omega.{arith}
use lib.ListN.{length}
use Rattle.message.proofs.Order.{small_bytes}
use Rattle.removal.specs.Removing.{bits_in}
use Rattle.removal.proofs.Bitwise.{bits_in_length}
use Rattle.removal.proofs.Removing.{keeping_starts, keeping_few, keeping_passes, keeping_keeps, copied}
use Rattle.removal.proofs.keep_unmarked.Goals as goal
use Rattle.removal.proofs.keep_unmarked.Goals.{then-bit-eq0, else-bit-eq0}

pub loop-k-init : goal.loop-k-init
loop-k-init c =
    let a = c.args in
    let small = small_bytes a.list.now (λ k. omega (arith, c.type_inv.list k)) in
    (small, keeping_starts a.list.now a.kept a.lo a.count (bits_in a.marks.now) small c.requires.0 c.requires.1 (omega (arith, c.requires.2, bits_in_length a.marks.now)))

pub overflow_mul-kept : goal.overflow_mul-kept
overflow_mul-kept c =
    let a = c.args in
    let l = c.loop-k in
    let enough : a.count ≤ length (bits_in a.marks.now) = omega (arith, c.requires.2, bits_in_length a.marks.now) in
    let few : l.kept ≤ a.lo + l.k = keeping_few a.list.now a.kept a.lo a.count (bits_in a.marks.now) l.invariant.0 c.requires.0 c.requires.1 enough l.list l.kept l.k l.invariant.1 in
    omega arith

pub copy_within-requires-clause-dest_in_bounds : goal.copy_within-requires-clause-dest_in_bounds
copy_within-requires-clause-dest_in_bounds c =
    let a = c.args in
    let l = c.loop-k in
    let enough : a.count ≤ length (bits_in a.marks.now) = omega (arith, c.requires.2, bits_in_length a.marks.now) in
    let few : l.kept ≤ a.lo + l.k = keeping_few a.list.now a.kept a.lo a.count (bits_in a.marks.now) l.invariant.0 c.requires.0 c.requires.1 enough l.list l.kept l.k l.invariant.1 in
    let long = l.invariant.1.long in
    omega arith

pub loop-k-preserved : goal.loop-k-preserved
loop-k-preserved c =
    let a = c.args in
    let l = c.loop-k in
    let small = l.invariant.0 in
    let enough : a.count ≤ length (bits_in a.marks.now) = omega (arith, c.requires.2, bits_in_length a.marks.now) in
    elim c.if-bit-eq0.branch [
      | then-bit-eq0 w ↦
          rw w.kept-is (
            small,
            keeping_keeps a.list.now a.kept a.lo a.count (bits_in a.marks.now) small c.requires.0 c.requires.1 enough l.list l.kept l.k l.invariant.1 (omega arith)
                (sym c.bit.ensures ∙ w.if-bit-eq0.true) c.if-bit-eq0.list (w.list-is ∙ copied l.list _ ((a.lo + l.k) * 32) _ (l.kept * 32) refl w.copy_within.ensures.after),
          )
      | else-bit-eq0 w ↦
          rw (w.list-is, w.kept-is) (
            small,
            keeping_passes a.list.now a.kept a.lo a.count (bits_in a.marks.now) small c.requires.0 c.requires.1 enough l.list l.kept l.k l.invariant.1 (omega arith)
                (λ z. w.if-bit-eq0.false (c.bit.ensures ∙ z)),
          )
    ]
