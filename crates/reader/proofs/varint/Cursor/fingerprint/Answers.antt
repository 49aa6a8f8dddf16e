use Rattle.std.proofs.Common.{refl, arith}
use Rattle.message.specs.Message.{read_of_mode}
use Rattle.reader.proofs.Steps.{onward, bytes-end, bytes_read}
use Rattle.reader.proofs.varint.Cursor.fingerprint.Goals as goal

pub returns-then-m-at : goal.returns-then-m-at
unfolding read_of_mode
returns-then-m-at c = (onward _ (bytes-end 16 c.args.self.at c.args.m.now (omega arith)) refl, tt)

pub returns : goal.returns
unfolding read_of_mode
returns c = (onward _ (bytes_read 16 c.args.self.at c.args.m.now (omega arith)) refl, (refl, omega arith))
