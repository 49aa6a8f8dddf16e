-- `sending::stop::stop_opening` meets its contract.
use mathlib.Core.Bool.{false}
use mathlib.Core.Path.{refl}
use native.Mathlib.Omega.{arith}
use lib.ListN.{length, replicate}
use Rattle.message.specs.WellFormed.{Bytes}
use Rattle.message.proofs.Order.{small_bytes}
use Rattle.writer.specs.Writing.{started}
use Rattle.writer.specs.Stream.{before}
use Rattle.writer.specs.Handover.{after, HandsOver}
use Rattle.table.specs.Code.{lent}
use Rattle.table.specs.Table.{items}
use Rattle.cutting.specs.Code.{cut_of}
use Rattle.ends.specs.Opener.{first_query}
use Rattle.sending.proofs.Sending.{opening-rises, opening-hands}
use Rattle.sending.proofs.Halts.{handed_halts}
use Rattle.sending.proofs.Opening.{opening_stops, opening-stands}
use Rattle.sending.proofs.stop.stop_opening.Goals as goal

pub returns : goal.returns
unfolding started
returns c =
    let a = c.args in
    let by : Bytes a.own.now = small_bytes a.own.now (λ k. omega (arith, c.type_inv.own k)) in
    let well = opening-rises (lent a.times.now a.own.now) (cut_of a.cut) by c.requires.0 c.requires.1 in
    let span = c.whole-span.ensures in
    let hands : HandsOver false (first_query (cut_of a.cut) (items (lent a.times.now a.own.now))) (before started (replicate a.size 0)) (after c.put_cut.result c.put_cut.new.writer (replicate a.size 0)) =
    opening-hands false (lent a.times.now a.own.now) (cut_of a.cut) (length a.times.now) _ _ refl (rw span at c.put_cut.ensures) in
    let h = handed_halts _ a.size _ hands c.requires.2 well c.requires.3 in
    rw span
    (opening_stops (lent a.times.now a.own.now) by c.requires.0 (cut_of a.cut) a.size _ well h, opening-stands (lent a.times.now a.own.now) by c.requires.0 (cut_of a.cut) a.size _ well h)
