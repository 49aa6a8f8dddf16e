-- `session::opener::take_reply` meets its contract.
use mathlib.Core.Path.{◌∙◌}
use native.Mathlib.Omega.{arith}
use Rattle.message.specs.WellFormed.{Bytes}
use Rattle.message.proofs.Order.{small_bytes}
use Rattle.table.specs.Code.{lent}
use Rattle.table.specs.Table.{Table}
use Rattle.cutting.specs.Code.{cut_of}
use Rattle.shorten.specs.Code.{limit_of}
use Rattle.ends.specs.Opener.{Lent}
use Rattle.ends.proofs.Passing.{fits}
use Rattle.std.proofs.lemmas.Result.{err_from_is_err_and}
use Rattle.session.specs.Code.{lent_to}
use Rattle.session.proofs.Replies.{take-refused, take_on, Ready, ready}
use Rattle.session.proofs.opener.take_reply.Goals as goal

pub take_checked-requires : goal.take_checked-requires
take_checked-requires c =
    let table : Table = lent c.args.times.now c.args.ids.now in
    let before : Lent = lent_to c.args.session.now c.args.marks.now c.args.needed.now c.args.out.now in
    let passed : Ready (limit_of c.args.limit) (table) (cut_of c.args.cut) c.args.reply.now (before) = let bytes : Bytes c.args.reply.now = small_bytes c.args.reply.now (λ k. omega (arith, c.type_inv.reply k)) in
    ready (limit_of c.args.limit) (table) (cut_of c.args.cut) c.args.reply.now (before) bytes (c.in_ok-check_take.ensures c.args.out.now) in
    let r = passed in
    let f = fits (table) (before) r.right in
    (r.end.ok, r.end.limits, r.end.least, r.reads.walking, f.marks, f.list, f.rises)

pub returns-in_err-check_take : goal.returns-in_err-check_take
returns-in_err-check_take c =
    let table : Table = lent c.args.times.now c.args.ids.now in
    let before : Lent = lent_to c.args.session.now c.args.marks.now c.args.needed.now c.args.out.now in
    let p = err_from_is_err_and c.from_residual.result c.from_residual.ensures.1 in
    rw (p.1, p.2)
    (take-refused (limit_of c.args.limit) (table) (cut_of c.args.cut) c.args.reply.now (before) _ (c.in_err-check_take.ensures c.args.out.now))

pub returns : goal.returns
returns c =
    let table : Table = lent c.args.times.now c.args.ids.now in
    let before : Lent = lent_to c.args.session.now c.args.marks.now c.args.needed.now c.args.out.now in
    let passed : Ready (limit_of c.args.limit) (table) (cut_of c.args.cut) c.args.reply.now (before) = let bytes : Bytes c.args.reply.now = small_bytes c.args.reply.now (λ k. omega (arith, c.type_inv.reply k)) in
    ready (limit_of c.args.limit) (table) (cut_of c.args.cut) c.args.reply.now (before) bytes (c.in_ok-check_take.ensures c.args.out.now) in
    let r = passed in
    take_on (limit_of c.args.limit) (table) (cut_of c.args.cut) c.args.reply.now (before) r.end r.right r.label r.going _ r.reads.says ∙ c.take_checked.ensures
