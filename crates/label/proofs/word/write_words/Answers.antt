-- `label::word::write_words` meets its contract: four words are copied behind one another.
use Rattle.std.proofs.Common.{ℕ, get_or, w64, Fits, rules, ◌∙◌}
use Rattle.label.proofs.Hashing.{le-bytes, words-laid}
use Rattle.label.proofs.word.write_words.Goals as goal

pub returns : goal.returns
returns c =
    let fits : (k : ℕ) → Fits w64 (get_or c.args.words k 0) = λ k. search rules in
    rw (
      c.copy_from_slice.ensures.after ∙ c.to_le_bytes.ensures ∙ le-bytes _,
      c.copy_from_slice-2.ensures.after ∙ c.to_le_bytes-2.ensures ∙ le-bytes _,
      c.copy_from_slice-3.ensures.after ∙ c.to_le_bytes-3.ensures ∙ le-bytes _,
      c.copy_from_slice-4.ensures.after ∙ c.to_le_bytes-4.ensures ∙ le-bytes _,
    )
    (words-laid _ _ _ _ c.args.out.now (fits 0).fits (fits 1).fits (fits 2).fits c.requires)
