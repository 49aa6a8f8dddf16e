-- `sha256::bytes_of` meets its contract. The invariant: the bytes of the first i words are written. Assumes nothing.
use Rattle.std.proofs.Common.{◌≡◌, refl, sym, ◌∙◌, arith, rules, take_all}
use Rattle.std.proofs.lemmas.Slice.{overwrites}
use Rattle.sha256.proofs.Padding.{word_bytes, all_words, words_more}
use Rattle.sha256.proofs.bytes_of.Goals as goal

pub loop-i-init : goal.loop-i-init
unfolding word_bytes
loop-i-init c = (refl, refl)

pub loop-i-preserved : goal.loop-i-preserved
loop-i-preserved c =
    let turn = c.loop-i in (
      search (rules, overwrites),
      words_more turn.out c.args.state.now _ turn.i _ turn.invariant.1 (omega arith) (c.copy_from_slice.ensures.after ∙ c.to_be_bytes.ensures),
    )

pub returns : goal.returns
returns c =
    let e : c.loop-i.i ≡ 8 = omega arith in
    sym (take_all 32 c.loop-i.out (omega arith)) ∙ rw e at c.loop-i.invariant.1 ∙ all_words c.args.state.now
