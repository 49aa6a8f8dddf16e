-- `index::lookup::Index::new` meets its contract.
use mathlib.Core.Path.{◌≡◌, ◌∙◌}
use native.Mathlib.Omega.{arith}
use lib.ListN.{length}
use Rattle.message.proofs.Order.{Small}
use Rattle.index.proofs.Directory.{words_rise}
use Rattle.index.proofs.Finding.{indexed}
use Rattle.index.proofs.lookup.Index.new.Goals as goal

pub invariant_of-result : goal.invariant_of-result
invariant_of-result c =
    let a = c.args in
    let f = c.fill in
    let t = c.sort in
    let d = c.direct in
    let small : Small a.ids.now = λ k. omega (arith, c.type_inv.ids k) in
    let words : length t.new.words ≡ length a.words.now = t.auto.words ∙ f.auto.words in
    let pos : length d.new.pos ≡ length a.pos.now = d.auto.pos ∙ t.auto.pos ∙ f.auto.pos in
    record {
      sound = indexed a.ids.now f.new.pos t.new.words t.new.pos d.new.pos a.n c.requires.0 c.requires.1 (omega arith) (omega arith) (omega arith) small
          f.ensures.0 t.ensures.0 t.ensures.1 t.ensures.2 (words_rise a.ids.now t.new.words t.new.pos a.n small t.ensures.2 t.ensures.1) d.ensures.0 d.ensures.1;
    }
