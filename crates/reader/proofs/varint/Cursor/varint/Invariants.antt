-- The digits from place i on, `value` being read so far, come to what the whole varint comes to.
use Rattle.std.proofs.Common.{◌≡◌, drop}
use Rattle.message.specs.Varint.{read_varint, read_digits}
use Rattle.reader.proofs.varint.Cursor.varint.Given as goal

abbrev pub invariant-loop-i : goal.invariant-loop-i
invariant-loop-i l = read_varint (drop l.fn.self.at l.m) ≡ read_digits l.value (drop l.i l.m)
