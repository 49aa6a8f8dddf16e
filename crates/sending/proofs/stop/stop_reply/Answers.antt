-- `sending::stop::stop_reply` meets its contract. The invariant: what the ranges up to the walk become was taken.
use mathlib.Core.Path.{refl, sym, ◌∙◌}
use native.Mathlib.Omega.{arith}
use Rattle.message.specs.WellFormed.{Bytes}
use Rattle.message.proofs.Order.{small_bytes}
use Rattle.writer.specs.Writing.{started}
use Rattle.table.specs.Code.{lent}
use Rattle.cutting.specs.Code.{cut_of}
use Rattle.reader.specs.Private.{lower_at}
use Rattle.sending.proofs.Sending.{made-rises, refused-by, taken-by}
use Rattle.sending.proofs.Replies.{going_start, going_end, going_next, reply_stops}
use Rattle.sending.proofs.stop.stop_reply.Goals as goal
use Rattle.sending.proofs.stop.stop_reply.Goals.{then-writer, else-writer}

pub loop-walk-init : goal.loop-walk-init
unfolding started
loop-walk-init c =
    let a = c.args in
    let by : Bytes a.own.now = small_bytes a.own.now (λ k. omega (arith, c.type_inv.own k)) in
    rw c.start-walk.ensures (going_start a.listing (cut_of a.cut) (lent a.times.now a.own.now) a.m.now by c.requires.0 c.requires.1 a.size c.requires.3 c.requires.2)

pub returns-then-is_err : goal.returns-then-is_err
returns-then-is_err c =
    let a = c.args in
    let l = c.loop-walk in
    let by : Bytes a.own.now = small_bytes a.own.now (λ k. omega (arith, c.type_inv.own k)) in
    let bm : Bytes a.m.now = small_bytes a.m.now (λ k. omega (arith, c.type_inv.m k)) in
    let well = made-rises (lent a.times.now a.own.now) (cut_of a.cut) by c.requires.0 c.requires.1 a.listing a.m.now bm c.requires.2 in
    let v = refused-by c.put_treated-put.result (sym c.is_err.ensures.value ∙ c.if-is_err.true) in
    reply_stops a.listing (cut_of a.cut) (lent a.times.now a.own.now) a.m.now by c.requires.0 c.requires.1 a.size l.kept l.walk l.writer l.invariant
    c.step-step.result c.step-step.ensures c.put_treated-put.result c.put_treated-put.new.writer (c.put_treated-put.ensures (lower_at l.walk.cursor) c.step-step.ensures.own) well v.0 v.1 c.lists_own.result c.lists_own.ensures

pub loop-walk-preserved : goal.loop-walk-preserved
loop-walk-preserved c =
    let a = c.args in
    let l = c.loop-walk in
    let by : Bytes a.own.now = small_bytes a.own.now (λ k. omega (arith, c.type_inv.own k)) in
    let v = taken-by c.put_treated-put.result (sym c.is_err.ensures.value ∙ c.if-is_err.false) in
    going_next a.listing (cut_of a.cut) (lent a.times.now a.own.now) a.m.now by c.requires.0 c.requires.1 a.size l.kept l.walk l.writer l.invariant
    c.step-step.result c.step-step.ensures c.put_treated-put.result c.put_treated-put.new.writer (c.put_treated-put.ensures (lower_at l.walk.cursor) c.step-step.ensures.own) v c.if-writer.kept
    (elim c.if-writer.branch [ then-writer w ↦ w.kept-is ∙ rw w.if-writer.true refl | else-writer w ↦ w.kept-is ∙ rw w.if-writer.false refl ])

pub unreachable-requires : goal.unreachable-requires
unreachable-requires c =
    let a = c.args in
    let l = c.loop-walk in
    let by : Bytes a.own.now = small_bytes a.own.now (λ k. omega (arith, c.type_inv.own k)) in
    going_end a.listing (cut_of a.cut) (lent a.times.now a.own.now) a.m.now by c.requires.0 c.requires.1 a.size l.kept l.walk l.writer l.invariant c.loop-walk-test.false c.requires.4
