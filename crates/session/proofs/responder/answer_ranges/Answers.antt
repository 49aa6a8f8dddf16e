-- `session::responder::answer_ranges` meets its contract.
use mathlib.Core.Path.{◌∙◌}
use native.Mathlib.Omega.{arith}
use Rattle.message.specs.WellFormed.{Bytes}
use Rattle.message.proofs.Order.{small_bytes}
use Rattle.std.proofs.lemmas.Result.{err_from_is_err_and}
use Rattle.table.specs.Code.{lent}
use Rattle.table.specs.Table.{Table}
use Rattle.cutting.specs.Code.{cut_of}
use Rattle.shorten.specs.Code.{limit_of}
use Rattle.session.proofs.Chains.{Reads, reads_of}
use Rattle.session.proofs.Answering.{ranges-refused, ranges-read}
use Rattle.session.proofs.responder.answer_ranges.Goals as goal

pub send-requires : goal.send-requires
send-requires c =
    let table : Table = lent c.args.times.now c.args.ids.now in
    let reads : Reads (table) c.args.query.now = let bytes : Bytes c.args.query.now = small_bytes c.args.query.now (λ k. omega (arith, c.type_inv.query k)) in
    reads_of (table) c.args.query.now bytes c.in_ok-check_read.ensures in
    (c.requires.0, c.requires.1, (reads).walking, c.requires.2)

pub returns-in_err-check_read : goal.returns-in_err-check_read
returns-in_err-check_read c =
    let table : Table = lent c.args.times.now c.args.ids.now in
    let p = err_from_is_err_and c.from_residual.result c.from_residual.ensures.1 in
    rw (p.1, p.2) (ranges-refused (limit_of c.args.limit) (table) (cut_of c.args.cut) _ _ _ c.in_err-check_read.ensures)

pub returns : goal.returns
returns c =
    let table : Table = lent c.args.times.now c.args.ids.now in
    let reads : Reads (table) c.args.query.now = let bytes : Bytes c.args.query.now = small_bytes c.args.query.now (λ k. omega (arith, c.type_inv.query k)) in
    reads_of (table) c.args.query.now bytes c.in_ok-check_read.ensures in
    ranges-read (limit_of c.args.limit) (table) (cut_of c.args.cut) c.args.query.now c.args.out.now _ (reads).says ∙ c.send.ensures
