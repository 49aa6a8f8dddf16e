-- `cutting::ranges::put_parts` meets its contract. The invariant: so many parts are handed over, and these are left.
use mathlib.Core.Path.{◌≡◌, refl, ap}
use native.Mathlib.Omega.{arith}
use Rattle.std.proofs.lemmas.Result.{err_from_is_err_and}
use Rattle.writer.specs.Writing.{verdict_of}
use Rattle.writer.specs.Stream.{before}
use Rattle.writer.specs.Handover.{writes, buffer_of}
use Rattle.table.specs.Code.{lent}
use Rattle.table.proofs.Items.{right_size}
use Rattle.cutting.proofs.Parts.{parts-start, parts-end, parts_next, parts_stop}
use Rattle.cutting.proofs.ranges.put_parts.Goals as goal

pub loop-i-init : goal.loop-i-init
loop-i-init c =
    let a = c.args in
    parts-start (writes a.pass) (lent a.times.now a.own.now) a.parts a.span (before a.writer.now (buffer_of a.pass a.out.now)) c.requires.1 c.requires.2 c.requires.3 refl

pub part_size-requires : goal.part_size-requires
part_size-requires c = let r = right_size _ c.requires.0.0 in (omega arith, omega arith)

pub returns-in_err-put_fingerprint : goal.returns-in_err-put_fingerprint
returns-in_err-put_fingerprint c =
    let p = err_from_is_err_and c.from_residual.result c.from_residual.ensures.1 in
    let was = c.in_err-put_fingerprint.was in
    let same : c.from_residual.result ≡ c.put_fingerprint.result = cc in
    let u = c.upper_at-upper.ensures in
    rw same
    (parts_stop _ (lent c.args.times.now c.args.own.now) _ c.args.span _ c.requires.1 c.requires.2 c.requires.3 _ _ _ c.loop-i.invariant (omega arith) _ c.part_size.ensures _ u.1 u.2 _ c.put_fingerprint.ensures _ (ap verdict_of was))

pub loop-i-preserved : goal.loop-i-preserved
loop-i-preserved c =
    let u = c.upper_at-upper.ensures in
    rw c.in_ok-put_fingerprint.was at
    (parts_next _ (lent c.args.times.now c.args.own.now) _ c.args.span _ c.requires.1 c.requires.2 c.requires.3 _ _ _ c.loop-i.invariant (omega arith) _ c.part_size.ensures _ u.1 u.2 _ c.put_fingerprint.ensures (ap verdict_of c.in_ok-put_fingerprint.was))

pub returns : goal.returns
returns c =
    parts-end _ (lent c.args.times.now c.args.own.now) _ c.args.span _ c.requires.1 c.requires.2 c.requires.3 _ _ _ c.loop-i.invariant (omega arith)
