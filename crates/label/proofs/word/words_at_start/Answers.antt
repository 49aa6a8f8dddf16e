-- `label::word::words_at_start` meets its contract.
use Rattle.label.proofs.Words.{words_are}
use Rattle.label.proofs.word.words_at_start.Goals as goal

pub returns : goal.returns
returns c =
    words_are c.args.s.now _ _ _ _ c.requires c.word_at.ensures c.word_at-2.ensures c.word_at-3.ensures c.word_at-4.ensures
