-- `session::opener::take_checked` meets its contract.
use Prim.Native.Nat.{ℕ, ◌/◌}
use mathlib.Core.Path.{◌≡◌}
use mathlib.Core.List.{List}
use lib.Dec.{ltb}
use lib.ListN.{length}
use Rattle.message.specs.Message.{Range}
use Rattle.message.specs.Code.{ids_in}
use Rattle.reader.specs.Private.{ranges_at}
use Rattle.table.specs.Code.{lent}
use Rattle.table.specs.Table.{Item, items}
use Rattle.cutting.specs.Code.{cut_of}
use Rattle.shorten.specs.Code.{limit_of}
use Rattle.walk.specs.Walking.{starts}
use Rattle.ends.specs.Opener.{skips_only, next_query, written, marks_after, needed_after}
use Rattle.std.proofs.lemmas.Result.{err_from_is_err_and}
use Rattle.session.proofs.Taking.{take-full, join_room, take_long, take-passed}
use Rattle.session.proofs.opener.take_checked.Goals as goal

pub returns-then-too_many : goal.returns-then-too_many
returns-then-too_many c =
    let own : List Item = items (lent c.args.times.now c.args.ids.now) in
    let ranges : List Range = ranges_at c.args.reply.now starts.cursor in
    let query : List Range = next_query (cut_of c.args.cut) (own) (ranges) in
    let message : List ℕ = written (limit_of c.args.limit) (own) (query) in
    let after : List ℕ = marks_after (own) (ranges) c.args.marks.now in
    let joined : List (List ℕ) = needed_after (own) (ranges) (ids_in c.args.session.now.needed c.args.needed.now) in
    let room-told : c.too_many.result ≡ ltb (length c.args.needed.now / 32) (length (joined)) = c.too_many.ensures in
    let a = c.args in
    take-full (message) (skips_only (query)) (after) (joined) a.session.now a.marks.now a.needed.now a.out.now
    _ (room-told) c.if-too_many.true

pub send_query-requires : goal.send_query-requires
send_query-requires c =
    let own : List Item = items (lent c.args.times.now c.args.ids.now) in
    let ranges : List Range = ranges_at c.args.reply.now starts.cursor in
    let query : List Range = next_query (cut_of c.args.cut) (own) (ranges) in
    let done : c.skips_only-done.result ≡ skips_only (query) = c.skips_only-done.ensures (cut_of c.args.cut) c.requires.1 in
    (c.requires.0, c.requires.1, c.requires.2, c.requires.3, done)

pub join-session-requires : goal.join-session-requires
join-session-requires c =
    let own : List Item = items (lent c.args.times.now c.args.ids.now) in
    let ranges : List Range = ranges_at c.args.reply.now starts.cursor in
    let query : List Range = next_query (cut_of c.args.cut) (own) (ranges) in
    let message : List ℕ = written (limit_of c.args.limit) (own) (query) in
    let after : List ℕ = marks_after (own) (ranges) c.args.marks.now in
    let joined : List (List ℕ) = needed_after (own) (ranges) (ids_in c.args.session.now.needed c.args.needed.now) in
    let room-told : c.too_many.result ≡ ltb (length c.args.needed.now / 32) (length (joined)) = c.too_many.ensures in
    let a = c.args in
    let r = join_room (message) (skips_only (query)) (after) (joined) a.session.now a.marks.now a.needed.now a.out.now
    _ (room-told) c.if-too_many.false in
    (c.requires.0, c.requires.3, c.requires.5, c.requires.6, r)

pub returns-in_err-length : goal.returns-in_err-length
returns-in_err-length c =
    let own : List Item = items (lent c.args.times.now c.args.ids.now) in
    let ranges : List Range = ranges_at c.args.reply.now starts.cursor in
    let query : List Range = next_query (cut_of c.args.cut) (own) (ranges) in
    let message : List ℕ = written (limit_of c.args.limit) (own) (query) in
    let after : List ℕ = marks_after (own) (ranges) c.args.marks.now in
    let joined : List (List ℕ) = needed_after (own) (ranges) (ids_in c.args.session.now.needed c.args.needed.now) in
    let room-told : c.too_many.result ≡ ltb (length c.args.needed.now / 32) (length (joined)) = c.too_many.ensures in
    let a = c.args in
    let p = err_from_is_err_and c.from_residual.result c.from_residual.ensures.1 in
    rw (p.1, p.2)
    (take_long (message) (skips_only (query)) (after) (joined) a.session.now a.marks.now a.needed.now a.out.now
    _ (room-told) c.if-too_many.false _ _ c.in_err-length.ensures)

pub returns : goal.returns
returns c =
    let own : List Item = items (lent c.args.times.now c.args.ids.now) in
    let ranges : List Range = ranges_at c.args.reply.now starts.cursor in
    let query : List Range = next_query (cut_of c.args.cut) (own) (ranges) in
    let message : List ℕ = written (limit_of c.args.limit) (own) (query) in
    let after : List ℕ = marks_after (own) (ranges) c.args.marks.now in
    let joined : List (List ℕ) = needed_after (own) (ranges) (ids_in c.args.session.now.needed c.args.needed.now) in
    let room-told : c.too_many.result ≡ ltb (length c.args.needed.now / 32) (length (joined)) = c.too_many.ensures in
    let done : c.skips_only-done.result ≡ skips_only (query) = c.skips_only-done.ensures (cut_of c.args.cut) c.requires.1 in
    let a = c.args in
    let j = c.join-session.ensures in
    take-passed (message) (skips_only (query)) (after) (joined) a.session.now a.marks.now a.needed.now a.out.now
    _ (room-told) c.if-too_many.false _ _ _ _ _ _ _
    c.in_ok-length.ensures c.mark.ensures j.value j.needed_after c.count_ones-session.ensures (done)
