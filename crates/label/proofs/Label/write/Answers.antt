-- `label::Label::write` meets its contract: the count is copied behind the sum.
use Rattle.std.proofs.Common.{length, arith, le-ltb, ◌∙◌}
use Rattle.label.specs.Code.{label_in}
use Rattle.label.proofs.Hashing.{le-bytes, spell_laid}
use Rattle.label.proofs.Label.write.Goals as goal

pub returns-then-out-ge40 : goal.returns-then-out-ge40
unfolding label_in
returns-then-out-ge40 c =
    rw (le-ltb (length c.args.out.now) 40 (omega arith), c.copy_from_slice.ensures.after ∙ c.to_le_bytes.ensures ∙ le-bytes _)
    (spell_laid (label_in c.args.self) c.args.out.now _ (omega arith) c.write_words.ensures)
