-- `sending::put::write` meets its contract.
use Rattle.writer.specs.Writing.{started}
use Rattle.sending.proofs.put.write.Goals as goal

pub returns : goal.returns
unfolding started
returns c = rw c.begin.ensures.out_after at c.put_message-written.ensures
