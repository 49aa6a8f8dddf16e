-- `sha256::compression::compress_all` meets its contract. The invariant: the blocks so far are taken in. Assumes nothing.
use Rattle.std.proofs.Common.{length, arith}
use Rattle.sha256.specs.Private.{value_of}
use Rattle.sha256.proofs.Padding.{block_more}
use Rattle.sha256.proofs.compression.compress_all.Goals as goal

pub loop-block-preserved : goal.loop-block-preserved
loop-block-preserved c = λ p k h e.
    let turn = c.loop-block in
    block_more k turn.block-index (length c.args.blocks.now) p c.args.blocks.now (value_of turn.state) _ e (omega arith) (turn.invariant p k h e) c.compress.ensures
