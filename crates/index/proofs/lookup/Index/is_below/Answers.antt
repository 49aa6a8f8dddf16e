-- `index::lookup::Index::is_below` meets its contract.
use mathlib.Core.Path.{◌≡◌, sym, ◌∙◌}
use native.Mathlib.Omega.{arith}
use lib.Dec.{ltb}
use lib.ListN.{get_or}
use borrow.Author.Tests.{ne_eqb, lt-ltb, le-ltb}
use Rattle.message.specs.Bound.{big_endian}
use Rattle.message.proofs.Order.{Small}
use Rattle.writer.proofs.Laying.{rest, rest_is}
use Rattle.idlist.specs.Positions.{key_at}
use Rattle.index.proofs.Directory.{before, beyond}
use Rattle.index.proofs.lookup.Index.is_below.Goals as goal

pub returns-then-self-k : goal.returns-then-self-k
returns-then-self-k c =
    let a = c.args in
    let small : Small a.id.now = λ k. omega (arith, c.type_inv.id k) in
    lt-ltb _ _ c.if-self-k.true ∙ sym (lt-ltb _ _ (before a.self.now.sound a.id.now small a.k c.requires.0 (omega (arith, c.if-self-k.true, c.requires.2))))

pub returns-then-self-k-2 : goal.returns-then-self-k-2
unfolding key_at
returns-then-self-k-2 c =
    let m = c.args.self.now.ids.now in
    let p = get_or c.args.self.now.pos.now c.args.k 0 in
    let e : c.id_below.result ≡ ltb (big_endian 32 (rest p m)) (big_endian 32 c.args.id.now) = c.id_below.ensures in
    rw (rest_is p m) at e

pub returns-else-self-k-2 : goal.returns-else-self-k-2
returns-else-self-k-2 c =
    let a = c.args in
    let small : Small a.id.now = λ k. omega (arith, c.type_inv.id k) in
    let b = beyond a.self.now.sound a.id.now small a.k c.requires.0 (omega (arith, c.if-self-k.false, c.if-self-k-2.false, c.requires.2)) in
    ne_eqb _ _ c.if-self-k-2.false ∙ sym (le-ltb _ _ (omega arith))
