-- `removal::marking::mark_window` meets its contract.
use Prim.Native.Nat.{◌*◌}
use mathlib.Core.Path.{ap, ◌∙◌}
use native.Mathlib.Omega.{arith}
use lib.ListN.{length}
use Rattle.removal.specs.Removing.{bits_in}
use Rattle.removal.proofs.Bitwise.{bits_in_zeros}
use Rattle.removal.proofs.Removing.{cleared}
use Rattle.removal.proofs.marking.mark_window.Goals as goal

pub mark_inside-requires : goal.mark_inside-requires
mark_inside-requires c =
    let a = c.args in
    let n = length a.marks.now in
    let h = c.new-hints.ensures in
    let zeros = cleared a.list.now a.count (n * 8) c.requires.3 (bits_in c.fill.new.self) (ap bits_in (c.fill.ensures.after (λ y e. e)) ∙ bits_in_zeros n) in
    rw (h.0, h.1) (c.requires.2, omega arith, zeros)
