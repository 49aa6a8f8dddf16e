-- `judging::approves` meets its contract.
use mathlib.Core.Path.{sym, ◌∙◌}
use native.Mathlib.Omega.{arith}
use Rattle.message.specs.Message.{read_message}
use Rattle.message.proofs.Order.{small_bytes}
use Rattle.table.specs.Code.{lent}
use Rattle.table.specs.Table.{items}
use Rattle.judging.proofs.Verdicts.{query_unread, reply_unread, reads, says-no, says_so}
use Rattle.judging.proofs.approves.Goals as goal
use Rattle.judging.proofs.approves.Goals.{then-is_err-via-then-is_err, then-is_err-via-else-is_err+then-is_err-2}

pub returns-then-is_err : goal.returns-then-is_err
returns-then-is_err c =
    let a = c.args in
    let T = items (lent a.times.now a.ids.now) in
    elim c.then-is_err.branch [
      | then-is_err-via-then-is_err w ↦ query_unread T (read_message a.query.now) (read_message a.reply.now) _ (sym c.is_err.ensures.value ∙ w.if-is_err.true) c.check_message.ensures
      | then-is_err-via-else-is_err+then-is_err-2 w ↦
          reply_unread T (read_message a.query.now) (read_message a.reply.now) _ (sym w.is_err-else-is_err.ensures.value ∙ w.if-is_err-2.true) w.check_message-else-is_err.ensures
    ]

pub query_answered-requires : goal.query_answered-requires
query_answered-requires c =
    let a = c.args in
    let table = lent a.times.now a.ids.now in
    let q = reads table a.query.now (small_bytes a.query.now (λ k. omega (arith, c.type_inv.query k))) _ (sym c.is_err.ensures.value ∙ c.if-is_err.false) c.check_message.ensures in
    let r = reads table a.reply.now (small_bytes a.reply.now (λ k. omega (arith, c.type_inv.reply k))) _ (sym c.is_err-else-is_err.ensures.value ∙ c.if-is_err-2.false) c.check_message-else-is_err.ensures in
    (c.requires, q.walking, r.walking)

pub reply_of_table-requires : goal.reply_of_table-requires
reply_of_table-requires c =
    let a = c.args in
    let table = lent a.times.now a.ids.now in
    let q = reads table a.query.now (small_bytes a.query.now (λ k. omega (arith, c.type_inv.query k))) _ (sym c.is_err.ensures.value ∙ c.if-is_err.false) c.check_message.ensures in
    let r = reads table a.reply.now (small_bytes a.reply.now (λ k. omega (arith, c.type_inv.reply k))) _ (sym c.is_err-else-is_err.ensures.value ∙ c.if-is_err-2.false) c.check_message-else-is_err.ensures in
    (c.requires, r.walking)

pub returns-then-query_answered : goal.returns-then-query_answered
returns-then-query_answered c =
    let a = c.args in
    let table = lent a.times.now a.ids.now in
    let q = reads table a.query.now (small_bytes a.query.now (λ k. omega (arith, c.type_inv.query k))) _ (sym c.is_err.ensures.value ∙ c.if-is_err.false) c.check_message.ensures in
    let r = reads table a.reply.now (small_bytes a.reply.now (λ k. omega (arith, c.type_inv.reply k))) _ (sym c.is_err-else-is_err.ensures.value ∙ c.if-is_err-2.false) c.check_message-else-is_err.ensures in
    says_so table a.query.now a.reply.now q r (sym c.query_answered.ensures ∙ c.if-query_answered.true) c.reply_of_table.result c.reply_of_table.ensures

pub returns-else-query_answered : goal.returns-else-query_answered
returns-else-query_answered c =
    let a = c.args in
    let table = lent a.times.now a.ids.now in
    let q = reads table a.query.now (small_bytes a.query.now (λ k. omega (arith, c.type_inv.query k))) _ (sym c.is_err.ensures.value ∙ c.if-is_err.false) c.check_message.ensures in
    let r = reads table a.reply.now (small_bytes a.reply.now (λ k. omega (arith, c.type_inv.reply k))) _ (sym c.is_err-else-is_err.ensures.value ∙ c.if-is_err-2.false) c.check_message-else-is_err.ensures in
    c.if-query_answered.false ∙ says-no table a.query.now a.reply.now q r (sym c.query_answered.ensures ∙ c.if-query_answered.false)
