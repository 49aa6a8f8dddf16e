use Rattle.std.proofs.Common.{◌≡◌, ◌*◌, ◌≤◌, length, drop}
use Rattle.std.specs.Slice.Iter.{chunks_exact_rest, chunks_exact_size}
use Rattle.message.specs.Code.{ids_in}
use Rattle.label.specs.Label.{label_of}
use Rattle.label.specs.Code.{label_in}
use Rattle.label.proofs.Label.of_ids.Given as goal

abbrev pub invariant-loop-id : goal.invariant-loop-id
invariant-loop-id l = record {
  size : chunks_exact_size l.id-iterator ≡ 32;
  left : chunks_exact_rest l.id-iterator ≡ drop (length l.yielded * 32) l.ids;
  fits : length l.yielded * 32 ≤ length l.ids;
  sum : label_in l.label ≡ label_of (ids_in (length l.yielded) l.ids);
}
