-- `index::lookup::Index::bucket_of` meets its contract.
use native.Mathlib.Omega.{arith}
use Rattle.index.proofs.Directory.{around}
use Rattle.index.proofs.lookup.Index.bucket_of.Goals as goal

pub returns-else-n-b : goal.returns-else-n-b
returns-else-n-b c =
    let self = c.args.self.now in
    around self.words.now self.pos.now self.n c.args.first c.bucket-b.result self.sound.directed c.bucket-b.ensures (omega (arith, c.if-n-b.false))
