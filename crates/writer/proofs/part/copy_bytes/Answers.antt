-- `writer::part::copy_bytes` meets its contract. The invariant: i bytes are copied.
use mathlib.Core.Path.{◌≡◌, refl, sym, ◌∙◌}
use native.Mathlib.Omega.{arith}
use lib.ListN.{length-set, length}
use lib.Seq.{take-length}
use Rattle.writer.proofs.Laying.{copied_more, lay-fits}
use Rattle.writer.proofs.part.copy_bytes.Goals as goal

pub loop-i-init : goal.loop-i-init
loop-i-init c = (refl, refl)

pub loop-i-preserved : goal.loop-i-preserved
loop-i-preserved c =
    let l = c.loop-i in
    let a = c.args in
    (simp length-set l.invariant.0, copied_more a.s.now a.out.now l.out l.i (omega arith) (omega arith) l.invariant.1)

pub returns : goal.returns
returns c =
    let l = c.loop-i in
    let s = c.args.s.now in
    let o = c.args.out.now in
    let all : l.i ≡ length s = omega arith in
    l.invariant.1 ∙ rw (all, take-length s) (sym (lay-fits s o c.requires))
