-- `session::opener::send_query` meets its contract.
use mathlib.Core.Path.{sym, ◌∙◌}
use mathlib.Core.List.{List}
use Rattle.message.specs.Message.{Range}
use Rattle.reader.specs.Private.{ranges_at}
use Rattle.table.specs.Code.{lent}
use Rattle.table.specs.Table.{Item, items}
use Rattle.cutting.specs.Code.{cut_of}
use Rattle.shorten.specs.Code.{limit_of}
use Rattle.walk.specs.Walking.{starts}
use Rattle.ends.specs.Opener.{next_query}
use Rattle.session.proofs.Taking.{nothing_sent, more-sent}
use Rattle.session.proofs.opener.send_query.Goals as goal

pub returns-then-done : goal.returns-then-done
returns-then-done c =
    let own : List Item = items (lent c.args.times.now c.args.ids.now) in
    let query : List Range = next_query (cut_of c.args.cut) (own) (ranges_at c.args.reply.now starts.cursor) in
    nothing_sent (limit_of c.args.limit) (own) (query) _ (sym c.if-done.true ∙ c.requires.4)

pub send-requires : goal.send-requires
send-requires c = (c.requires.0, c.requires.1, c.requires.3, c.requires.2)

pub returns : goal.returns
returns c =
    let own : List Item = items (lent c.args.times.now c.args.ids.now) in
    let query : List Range = next_query (cut_of c.args.cut) (own) (ranges_at c.args.reply.now starts.cursor) in
    rw (more-sent (limit_of c.args.limit) (own) (query) c.args.out.now (sym c.if-done.false ∙ c.requires.4)) c.send.ensures
