-- `label::Label::read` meets its contract.
use Rattle.std.proofs.Common.{length, refl, arith, le-ltb, lt-ltb}
use Rattle.label.specs.Label.{read_label}
use Rattle.label.specs.Code.{label_in}
use Rattle.label.proofs.Sums.{label_path}
use Rattle.label.proofs.Label.read.Goals as goal

pub returns-then-bytes-lt40 : goal.returns-then-bytes-lt40
unfolding label_in
returns-then-bytes-lt40 c = rw (lt-ltb (length c.args.bytes.now) 40 (omega arith)) refl

pub returns-else-bytes-lt40 : goal.returns-else-bytes-lt40
unfolding label_in read_label
returns-else-bytes-lt40 c = rw (le-ltb (length c.args.bytes.now) 40 (omega arith)) (label_path c.words_at_start.ensures c.word_at.ensures)
