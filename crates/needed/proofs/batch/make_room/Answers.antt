-- `needed::batch::make_room` meets its contract.
use native.Mathlib.Omega.{arith}
use Rattle.needed.proofs.Batching.{joined-batch}
use Rattle.needed.proofs.batch.make_room.Goals as goal

pub returns : goal.returns
returns c =
    let a = c.args in
    let f = c.flush-size in
    let p = f.auto.pos in (
      joined-batch a.m.now a.needed.now a.words.now a.pos.now a.batch (λ k. omega (arith, c.type_inv.m k)) (λ k. omega (arith, c.slice_known-1.given k)) c.requires.0
          f.new.needed f.new.words f.new.pos f.result c.requires.2 f.ensures.0 f.ensures.1 f.auto.needed f.auto.words p,
      omega arith,
    )
