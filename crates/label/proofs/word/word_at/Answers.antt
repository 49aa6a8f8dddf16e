-- `label::word::word_at` meets its contract.
use Rattle.std.proofs.Common.{◌∙◌}
use Rattle.label.proofs.Words.{word_is}
use Rattle.label.proofs.word.word_at.Goals as goal

pub returns : goal.returns
returns c = c.from_le_bytes.ensures ∙ word_is c.args.s.now c.args.at c.requires
