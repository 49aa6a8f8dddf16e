-- `writer::varint::width` meets its contract: one law, for each number of digits.
use native.Mathlib.Omega.{arith}
use Rattle.message.proofs.Varints.{spell_width}
use Rattle.writer.proofs.varint.width.Goals as goal

-- two of the lines by name, for the wrong programs that change them
pub returns-in-0-to-2097151 : goal.returns-in-0-to-2097151
returns-in-0-to-2097151 c = spell_width 2 _ (omega arith) (omega arith)

pub returns-in-0-to-562949953421311 : goal.returns-in-0-to-562949953421311
returns-in-0-to-562949953421311 c = spell_width 6 _ (omega arith) (omega arith)

pub returns-in-0-to-127 : goal.returns-in-0-to-127
returns-in-0-to-127 c = spell_width 0 _ (omega arith) (omega arith)

pub returns-in-0-to-16383 : goal.returns-in-0-to-16383
returns-in-0-to-16383 c = spell_width 1 _ (omega arith) (omega arith)

pub returns-in-0-to-268435455 : goal.returns-in-0-to-268435455
returns-in-0-to-268435455 c = spell_width 3 _ (omega arith) (omega arith)

pub returns-in-0-to-34359738367 : goal.returns-in-0-to-34359738367
returns-in-0-to-34359738367 c = spell_width 4 _ (omega arith) (omega arith)

pub returns-in-0-to-4398046511103 : goal.returns-in-0-to-4398046511103
returns-in-0-to-4398046511103 c = spell_width 5 _ (omega arith) (omega arith)

pub returns-in-0-to-72057594037927935 : goal.returns-in-0-to-72057594037927935
returns-in-0-to-72057594037927935 c = spell_width 7 _ (omega arith) (omega arith)

pub returns-in-0-to-9223372036854775807 : goal.returns-in-0-to-9223372036854775807
returns-in-0-to-9223372036854775807 c = spell_width 8 _ (omega arith) (omega arith)

pub returns-in_default : goal.returns-in_default
returns-in_default c = spell_width 9 _ (omega arith) (omega arith)
