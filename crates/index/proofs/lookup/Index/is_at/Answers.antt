-- `index::lookup::Index::is_at` meets its contract.
use mathlib.Core.Path.{◌≡◌, sym, ◌∙◌}
use native.Mathlib.Omega.{arith}
use lib.Dec.{eqb}
use lib.ListN.{get_or}
use borrow.Author.Tests.{ne_eqb}
use Rattle.message.specs.Bound.{big_endian}
use Rattle.message.proofs.Order.{Small}
use Rattle.writer.proofs.Laying.{rest, rest_is}
use Rattle.idlist.specs.Positions.{key_at}
use Rattle.index.proofs.Directory.{word_same}
use Rattle.index.proofs.lookup.Index.is_at.Goals as goal

pub returns-then-self-k : goal.returns-then-self-k
unfolding key_at
returns-then-self-k c =
    let m = c.args.self.now.ids.now in
    let p = get_or c.args.self.now.pos.now c.args.k 0 in
    let e : c.same_id.result ≡ eqb (big_endian 32 (rest p m)) (big_endian 32 c.args.id.now) = c.same_id.ensures in
    rw (rest_is p m) at e

pub returns-else-self-k : goal.returns-else-self-k
returns-else-self-k c =
    let a = c.args in
    let small : Small a.id.now = λ k. omega (arith, c.type_inv.id k) in
    let other = c.if-self-k.false in
    ne_eqb _ _ other ∙ sym (ne_eqb _ _ (λ e. other (word_same a.self.now.sound a.id.now small a.k c.requires.0 e ∙ sym c.requires.2)))
