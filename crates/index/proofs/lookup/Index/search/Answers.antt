-- `index::lookup::Index::search` meets its contract. The invariant: the place lies from `lo` to `hi`.
use native.Mathlib.Omega.{arith}
use Rattle.message.proofs.Order.{Small}
use Rattle.index.proofs.Directory.{between_around, sought_one}
use Rattle.index.proofs.lookup.Index.search.Goals as goal

pub returns-then-hi-lo-eq1 : goal.returns-then-hi-lo-eq1
returns-then-hi-lo-eq1 c =
    let a = c.args in
    let small : Small a.id.now = λ k. omega (arith, c.type_inv.id k) in
    sought_one a.self.now.sound a.id.now small _ _ c.if-hi-lo-eq1.true (rw c.requires.1 at c.bucket_of-bucket.ensures)

pub loop-lo-init : goal.loop-lo-init
loop-lo-init c =
    let a = c.args in
    let small : Small a.id.now = λ k. omega (arith, c.type_inv.id k) in
    between_around a.self.now.sound a.id.now small _ _ (rw c.requires.1 at c.bucket_of-bucket.ensures)
